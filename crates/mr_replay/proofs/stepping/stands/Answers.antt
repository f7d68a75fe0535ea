use Rattle.mr_replay.proofs.Common.{◌≤◌, ◌^◌, ◌++◌, ◌∙◌, ap, arith, length, List, refl, subst, sym, map, Entry, placed, ToldStep, begins, run_refused, run_taken, start_refused, steps_are}
use Rattle.mr_replay.specs.Stands.{stand_before}
use Rattle.mr_run.proofs.Places.{has_place}
use Rattle.mr_replay.proofs.ToldLaws.{told_are}
use Rattle.mr_replay.proofs.stepping.stands.Goals as goal

pub returns-in-Err-clause-answer : goal.returns-in-Err-clause-answer
returns-in-Err-clause-answer g c =
    rw c.at_place.ensures
    (start_refused c.args.p.now c.args.w.now c.as_slice.result.now c.args.w.now.entries c.as_slice.ensures refl c.in-Err.fault c.in-Err.ensures)

pub returns-in-Err-clause-place : goal.returns-in-Err-clause-place
returns-in-Err-clause-place g c =
    rw c.at_place.ensures
    (has_place c.args.p.now c.args.w.now (placed 2 c.in-Err.fault)
    (start_refused c.args.p.now c.args.w.now c.as_slice.result.now c.args.w.now.entries c.as_slice.ensures refl c.in-Err.fault c.in-Err.ensures))

pub stand_entries-requires-clause-working : goal.stand_entries-requires-clause-working
stand_entries-requires-clause-working g c = (begins c.args.p.now c.as_slice.result.now c.in-Ok.machine c.in-Ok.ensures).0

pub stand_entries-requires-clause-completed : goal.stand_entries-requires-clause-completed
stand_entries-requires-clause-completed g c =
    let none = (begins c.args.p.now c.as_slice.result.now c.in-Ok.machine c.in-Ok.ensures).1 in
    let same = ap length c.as_slice-2.ensures in
    let few = c.requires.few in
    omega arith

pub stand_entries-requires-clause-few : goal.stand_entries-requires-clause-few
stand_entries-requires-clause-few g c = subst (λ (es : List Entry). length es ≤ 2 ^ 22) (sym c.as_slice-2.ensures) c.requires.few

pub returns-in-Ok-stand_entries-clause-answer : goal.returns-in-Ok-stand_entries-clause-answer
returns-in-Ok-stand_entries-clause-answer g c =
    run_taken c.args.p.now c.args.w.now c.as_slice.result.now c.as_slice-2.result.now c.as_slice.ensures c.as_slice-2.ensures c.in-Ok.machine c.in-Ok.ensures
    c.stand_entries.new.machine c.in-Ok-stand_entries.ensures.answer

pub returns-in-Ok-stand_entries-clause-kept : goal.returns-in-Ok-stand_entries-clause-kept
returns-in-Ok-stand_entries-clause-kept g c =
    subst (g.R.Record.keeps c.stand_entries.new.kept)
    (steps_are c.args.p.now c.args.w.now c.as_slice.result.now c.as_slice-2.result.now c.as_slice.ensures c.as_slice-2.ensures c.in-Ok.machine c.in-Ok.ensures)
    c.in-Ok-stand_entries.ensures.kept

pub returns-clause-answer : goal.returns-clause-answer
returns-clause-answer g c =
    run_refused c.args.p.now c.args.w.now c.as_slice.result.now c.as_slice-2.result.now c.as_slice.ensures c.as_slice-2.ensures c.in-Ok.machine c.in-Ok.ensures
    c.stand_entries.new.machine c.in-Err-stand_entries.fault c.in-Err-stand_entries.ensures.answer

pub returns-clause-place : goal.returns-clause-place
returns-clause-place g c =
    has_place c.args.p.now c.args.w.now c.in-Err-stand_entries.fault
    (run_refused c.args.p.now c.args.w.now c.as_slice.result.now c.as_slice-2.result.now c.as_slice.ensures c.as_slice-2.ensures c.in-Ok.machine c.in-Ok.ensures
    c.stand_entries.new.machine c.in-Err-stand_entries.fault c.in-Err-stand_entries.ensures.answer)

pub returns-in-Ok-stand_entries-clause-stood : goal.returns-in-Ok-stand_entries-clause-stood
returns-in-Ok-stand_entries-clause-stood g c =
    c.in-Ok-stand_entries.ensures.stood
    ∙ ap (λ (xs : List ToldStep). c.args.stands.now.items ++ map stand_before xs)
    (told_are c.args.p.now c.args.w.now c.as_slice.result.now c.as_slice-2.result.now c.as_slice.ensures
    c.as_slice-2.ensures c.in-Ok.machine c.in-Ok.ensures)
