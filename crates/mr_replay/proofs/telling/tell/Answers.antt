use Rattle.mr_replay.proofs.Common.{◌≤◌, ◌^◌, ◌++◌, ◌∙◌, ap, ap₂, arith, length, List, refl, subst, sym, flat_map, Entry, placed, ToldStep, step_rows, if_between, begins, run_refused, run_taken, start_refused, steps_are}
use Rattle.mr_ast.specs.declared.program.Program.{Program}
use Rattle.mr_run.proofs.Places.{has_place}
use Rattle.mr_replay.proofs.ToldLaws.{told_are}
use Rattle.mr_replay.proofs.telling.tell.Goals as goal

pub returns-in-Err-clause-answer : goal.returns-in-Err-clause-answer
returns-in-Err-clause-answer g c =
    rw c.at_place.ensures
    (start_refused c.args.p.now c.args.w.now c.as_slice.result.now c.args.w.now.entries c.as_slice.ensures refl c.in-Err.fault c.in-Err.ensures)

pub returns-in-Err-clause-place : goal.returns-in-Err-clause-place
returns-in-Err-clause-place g c =
    rw c.at_place.ensures
    (has_place c.args.p.now c.args.w.now (placed 2 c.in-Err.fault)
    (start_refused c.args.p.now c.args.w.now c.as_slice.result.now c.args.w.now.entries c.as_slice.ensures refl c.in-Err.fault c.in-Err.ensures))

pub tell_entries-requires-clause-working : goal.tell_entries-requires-clause-working
tell_entries-requires-clause-working g c = (begins c.args.p.now c.as_slice.result.now c.in-Ok.machine c.in-Ok.ensures).0

pub tell_entries-requires-clause-completed : goal.tell_entries-requires-clause-completed
tell_entries-requires-clause-completed g c =
    let none = (begins c.args.p.now c.as_slice.result.now c.in-Ok.machine c.in-Ok.ensures).1 in
    let same = ap length c.as_slice-entries.ensures in
    let few = c.requires.few in
    omega arith

pub tell_entries-requires-clause-few : goal.tell_entries-requires-clause-few
tell_entries-requires-clause-few g c = subst (λ (es : List Entry). length es ≤ 2 ^ 22) (sym c.as_slice-entries.ensures) c.requires.few

pub returns-in-Ok-tell_entries-clause-answer : goal.returns-in-Ok-tell_entries-clause-answer
returns-in-Ok-tell_entries-clause-answer g c =
    run_taken c.args.p.now c.args.w.now c.as_slice.result.now c.as_slice-entries.result.now c.as_slice.ensures c.as_slice-entries.ensures c.in-Ok.machine c.in-Ok.ensures
    c.tell_entries.new.machine c.in-Ok-tell_entries.ensures.answer

pub returns-in-Ok-tell_entries-clause-kept : goal.returns-in-Ok-tell_entries-clause-kept
returns-in-Ok-tell_entries-clause-kept g c =
    subst (g.R.Record.keeps c.tell_entries.new.kept)
    (steps_are c.args.p.now c.args.w.now c.as_slice.result.now c.as_slice-entries.result.now c.as_slice.ensures c.as_slice-entries.ensures c.in-Ok.machine c.in-Ok.ensures)
    c.in-Ok-tell_entries.ensures.kept

pub returns-clause-answer : goal.returns-clause-answer
returns-clause-answer g c =
    run_refused c.args.p.now c.args.w.now c.as_slice.result.now c.as_slice-entries.result.now c.as_slice.ensures c.as_slice-entries.ensures c.in-Ok.machine c.in-Ok.ensures
    c.tell_entries.new.machine c.in-Err-tell_entries.fault c.in-Err-tell_entries.ensures.answer

pub returns-clause-place : goal.returns-clause-place
returns-clause-place g c =
    has_place c.args.p.now c.args.w.now c.in-Err-tell_entries.fault
    (run_refused c.args.p.now c.args.w.now c.as_slice.result.now c.as_slice-entries.result.now c.as_slice.ensures c.as_slice-entries.ensures c.in-Ok.machine c.in-Ok.ensures
    c.tell_entries.new.machine c.in-Err-tell_entries.fault c.in-Err-tell_entries.ensures.answer)

pub returns-in-Ok-tell_entries-clause-rows : goal.returns-in-Ok-tell_entries-clause-rows
returns-in-Ok-tell_entries-clause-rows g c =
    c.in-Ok-tell_entries.ensures.rows
    ∙ ap₂ (λ (p : Program) (xs : List ToldStep). c.args.rows.now.items ++ flat_map (step_rows p) xs)
    c.program.ensures.same
    (told_are c.args.p.now c.args.w.now c.as_slice.result.now c.as_slice-entries.result.now c.as_slice.ensures
    c.as_slice-entries.ensures c.in-Ok.machine c.in-Ok.ensures)

pub returns-in-Ok-tell_entries-clause-told : goal.returns-in-Ok-tell_entries-clause-told
returns-in-Ok-tell_entries-clause-told g c =
    c.in-Ok-tell_entries.ensures.told
    ∙ ap (λ (xs : List ToldStep). c.args.steps.now.items ++ flat_map (if_between c.args.part) xs)
    (told_are c.args.p.now c.args.w.now c.as_slice.result.now c.as_slice-entries.result.now c.as_slice.ensures
    c.as_slice-entries.ensures c.in-Ok.machine c.in-Ok.ensures)
