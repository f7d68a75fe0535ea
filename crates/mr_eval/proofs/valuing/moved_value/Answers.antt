use Rattle.mr_eval.proofs.Common.{rules, Err, err_from_is_err_and, run, Gives, same, seen, moved, reading}
use Rattle.mr_eval.proofs.GivesLaws.{moved_stop}
use Rattle.mr_eval.proofs.valuing.moved_value.Goals as goal

pub returns-in_err-to-clause-given : goal.returns-in_err-to-clause-given
returns-in_err-to-clause-given c =
    let m = c.args.m.now in
    let old = seen c.args.notes.now in
    let new = seen c.moved.new.notes in
    let halt = c.in_err-to.field-0.0 in
    let p = err_from_is_err_and c.from_residual.result c.from_residual.ensures.1 in
    let stop : Gives same (Err halt) (run (reading m) (moved c.args.p c.args.n) old) new c.moved.new.notes.refused = search rules in
    rw (p.1, p.2) (moved_stop m c.args.p c.args.n halt old new c.moved.new.notes.refused stop)
