use Rattle.mr_eval.proofs.Common.{false, sym, seen}
use Rattle.mr_eval.proofs.RefusedLaws.{read_refused}
use Rattle.mr_eval.proofs.reads.lend.Goals as goal

pub returns-in-Err-clause-given : goal.returns-in-Err-clause-given
returns-in-Err-clause-given c =
    read_refused c.args.m.now c.args.p c.args.len (seen c.args.notes.now) c.refuse.new.self.refused false c.args.align c.in-Err.reason (sym c.in-Err.ensures.lent)
    c.refuse.ensures.last
