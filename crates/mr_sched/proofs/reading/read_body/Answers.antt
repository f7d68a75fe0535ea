use Rattle.std.proofs.lemmas.Result.{err_from_is_err_and}
use Rattle.mr_sched.proofs.Loops.{body_read, body_stops}
use Rattle.mr_sched.proofs.reading.read_body.Goals as goal

pub returns-in_err-entries : goal.returns-in_err-entries
returns-in_err-entries c =
    let p = err_from_is_err_and c.from_residual-in_err-entries.result c.from_residual-in_err-entries.ensures.1 in
    let parts = rw c.in-Some.is at c.cut.ensures.parts in
    rw (p.1, p.2) (body_stops c.args.v c.args.text.now c.cut.result.0.now c.in-Some.rest.now c.in_ok-start.start c.in_err-entries.field-0.0 parts c.in_ok-start.ensures c.in_err-entries.ensures)

pub returns : goal.returns
returns c =
    let parts = rw c.in-Some.is at c.cut.ensures.parts in
    body_read c.args.v c.args.text.now c.cut.result.0.now c.in-Some.rest.now c.in_ok-start.start c.in_ok-entries.entries parts c.in_ok-start.ensures c.in_ok-entries.ensures
