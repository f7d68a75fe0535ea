use Rattle.mr_sched.proofs.Common.{length, sym, arith, eqb-true, eqb-false}
use Rattle.std.proofs.lemmas.Result.{err_from_is_err_and}
use Rattle.mr_sched.proofs.Loops.{line_goes_on, line_stops, entries_unended, entries_end}
use Rattle.mr_sched.proofs.reading.read_entries.Goals as goal

pub returns-in_default : goal.returns-in_default
returns-in_default c =
    let parts = rw c.in_default.is at c.cut.ensures.parts in
    let some = eqb-false (length c.loop-rest.rest.now) 0 (sym c.loop-rest-test.ensures) in
    rw c.bad_line.ensures (entries_unended c.args.v c.loop-rest.entries c.loop-rest.line c.loop-rest.rest.now c.cut.result.0.now _ parts (omega arith) c.loop-rest.invariant.so_far)

pub returns-in_err-entries : goal.returns-in_err-entries
returns-in_err-entries c =
    let p = err_from_is_err_and c.from_residual.result c.from_residual.ensures.1 in
    let parts = rw c.in-Some.is at c.cut.ensures.parts in
    rw (p.1, p.2) (line_stops c.args.v c.loop-rest.entries c.loop-rest.line c.loop-rest.rest.now c.cut.result.0.now c.in-Some.after.now c.in_err-entries.field-0.0 _ parts c.in_err-entries.ensures.given c.loop-rest.invariant.so_far)

pub loop-rest-preserved : goal.loop-rest-preserved
loop-rest-preserved c =
    let parts = rw c.in-Some.is at c.cut.ensures.parts in
    let more = c.in_ok-entries.ensures.more in
    record {
      so_far = line_goes_on c.args.v c.loop-rest.entries c.in_ok-entries.entries c.loop-rest.line c.loop-rest.rest.now c.cut.result.0.now c.in-Some.after.now _ parts c.in_ok-entries.ensures.given c.loop-rest.invariant.so_far;
      count = more.1;
      line = omega (arith, more.0, c.loop-rest.invariant.line);
    }

pub returns : goal.returns
returns c = entries_end c.args.v c.loop-rest.entries c.loop-rest.line c.loop-rest.rest.now _ (eqb-true _ _ (sym c.loop-rest-test.ensures)) c.loop-rest.invariant.so_far
