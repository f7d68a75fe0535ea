use Rattle.mr_eval.proofs.Common.{sym, seen}
use Rattle.mr_eval.proofs.RefusedLaws.{refer_refused}
use Rattle.mr_eval.proofs.reads.refer.Goals as goal

pub returns-in-Err-clause-given : goal.returns-in-Err-clause-given
returns-in-Err-clause-given c =
    refer_refused c.args.m.now c.args.p c.args.len (seen c.args.notes.now) c.refuse.new.self.refused c.in-Err.field-0 (sym c.in-Err.ensures) c.refuse.ensures.last
