use Rattle.mr_run.proofs.Common.{◌≤◌, ap, arith, length, List, refl, subst, sym, Entry, placed}
use Rattle.std.proofs.Common.{◌^◌}
use Rattle.mr_run.proofs.Places.{has_place}
use Rattle.mr_run.proofs.RunLaws.{begins, run_refused, run_taken, start_refused, steps_are}
use Rattle.mr_run.proofs.running.run.Goals as goal

pub returns-in-Err-clause-answer : goal.returns-in-Err-clause-answer
returns-in-Err-clause-answer g c =
    rw c.at_place.ensures
    (start_refused c.args.p.now c.args.w.now c.as_slice.result.now c.args.w.now.entries c.as_slice.ensures refl c.in-Err.fault c.in-Err.ensures)

pub returns-in-Err-clause-place : goal.returns-in-Err-clause-place
returns-in-Err-clause-place g c =
    rw c.at_place.ensures
    (has_place c.args.p.now c.args.w.now (placed 2 c.in-Err.fault)
    (start_refused c.args.p.now c.args.w.now c.as_slice.result.now c.args.w.now.entries c.as_slice.ensures refl c.in-Err.fault c.in-Err.ensures))

pub run_entries-requires-clause-working : goal.run_entries-requires-clause-working
run_entries-requires-clause-working g c = (begins c.args.p.now c.as_slice.result.now c.in-Ok.machine c.in-Ok.ensures).0

pub run_entries-requires-clause-completed : goal.run_entries-requires-clause-completed
run_entries-requires-clause-completed g c =
    let none = (begins c.args.p.now c.as_slice.result.now c.in-Ok.machine c.in-Ok.ensures).1 in
    let same = ap length c.as_slice-2.ensures in
    let few = c.requires.few in
    omega arith

pub run_entries-requires-clause-few : goal.run_entries-requires-clause-few
run_entries-requires-clause-few g c = subst (λ (es : List Entry). length es ≤ 2 ^ 22) (sym c.as_slice-2.ensures) c.requires.few

pub returns-in-Ok-run_entries-clause-answer : goal.returns-in-Ok-run_entries-clause-answer
returns-in-Ok-run_entries-clause-answer g c =
    run_taken c.args.p.now c.args.w.now c.as_slice.result.now c.as_slice-2.result.now c.as_slice.ensures c.as_slice-2.ensures c.in-Ok.machine c.in-Ok.ensures
    c.run_entries.new.machine c.in-Ok-run_entries.ensures.answer

pub returns-in-Ok-run_entries-clause-kept : goal.returns-in-Ok-run_entries-clause-kept
returns-in-Ok-run_entries-clause-kept g c =
    subst (g.R.Record.keeps c.run_entries.new.kept)
    (steps_are c.args.p.now c.args.w.now c.as_slice.result.now c.as_slice-2.result.now c.as_slice.ensures c.as_slice-2.ensures c.in-Ok.machine c.in-Ok.ensures)
    c.in-Ok-run_entries.ensures.kept

pub returns-clause-answer : goal.returns-clause-answer
returns-clause-answer g c =
    run_refused c.args.p.now c.args.w.now c.as_slice.result.now c.as_slice-2.result.now c.as_slice.ensures c.as_slice-2.ensures c.in-Ok.machine c.in-Ok.ensures
    c.run_entries.new.machine c.in-Err-run_entries.fault c.in-Err-run_entries.ensures.answer

pub returns-clause-place : goal.returns-clause-place
returns-clause-place g c =
    has_place c.args.p.now c.args.w.now c.in-Err-run_entries.fault
    (run_refused c.args.p.now c.args.w.now c.as_slice.result.now c.as_slice-2.result.now c.as_slice.ensures c.as_slice-2.ensures c.in-Ok.machine c.in-Ok.ensures
    c.run_entries.new.machine c.in-Err-run_entries.fault c.in-Err-run_entries.ensures.answer)
