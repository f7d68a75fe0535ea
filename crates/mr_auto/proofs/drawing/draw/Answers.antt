use Rattle.mr_auto.proofs.Common.{◌≡◌, ◌+◌, ◌<◌, ◌^◌, sym, ◌∙◌, subst, Err, Ok, feet, thread_step, WellFormed, pieces, Standing, AreAddresses, BeginsDrawing, drawn_from_here}
use Rattle.mr_run.specs.StepAnswers.{StartAnswer, fault_of, standing}
use Rattle.mr_auto.proofs.Drawings.{are_addresses, begins_drawing, completed_none, drawn_is, drawn_run, drawn_steps, never_refused, picks_of, start_is, start_there}
use Rattle.mr_auto.proofs.drawing.draw.Goals as goal

pub start_picks-requires : goal.start_picks-requires
start_picks-requires g c = subst AreAddresses (sym (c.as_slice.ensures.value ∙ c.in_ok-asks.ensures)) (are_addresses (pieces c.args.p.now))

pub unreachable-requires : goal.unreachable-requires
unreachable-requires g c =
    let p = c.args.p.now in
    let is = start_is p c.args.number c.as_slice.result.now c.new-chooser.result (c.as_slice.ensures.value ∙ c.in_ok-asks.ensures) c.new-chooser.ensures in
    start_there p c.args.number (subst WellFormed c.program.ensures.same c.program.ensures.well_formed) (sym is ∙ rw c.in_default.is at c.in_ok-start.ensures)

pub unreachable-requires-in-Err-BadEntry : goal.unreachable-requires-in-Err-BadEntry
unreachable-requires-in-Err-BadEntry g c =
    let p = c.args.p.now in
    let is = start_is p c.args.number c.as_slice.result.now c.new-chooser.result (c.as_slice.ensures.value ∙ c.in_ok-asks.ensures) c.new-chooser.ensures in
    let e = sym is ∙ rw c.in-Some.is at c.in_ok-start.ensures in
    let bad = subst (λ picks. StartAnswer p picks (Err c.in-Err-BadEntry.field-0)) c.as_slice-2.ensures c.in-Err-BadEntry.ensures in
    never_refused p c.args.number (picks_of c.in-Some.start c.start_picks.new.chooser) e (fault_of c.in-Err-BadEntry.field-0-0 c.in-Err-BadEntry.field-0-1) (rw c.in-Err-BadEntry.field-0-is at bad)

pub draw_entries-requires-clause-begins : goal.draw_entries-requires-clause-begins
draw_entries-requires-clause-begins g c =
    let p = c.args.p.now in
    let is = start_is p c.args.number c.as_slice.result.now c.new-chooser.result (c.as_slice.ensures.value ∙ c.in_ok-asks.ensures) c.new-chooser.ensures in
    let e = sym is ∙ rw c.in-Some.is at c.in_ok-start.ensures in
    let stands : c.in-Ok.machine ≡ standing p c.in-Some.start = (subst (λ picks. StartAnswer p picks (Ok c.in-Ok.machine)) c.as_slice-2.ensures c.in-Ok.ensures).1 in
    subst (λ (m : Standing). BeginsDrawing m c.start_picks.new.chooser) (sym stands) (begins_drawing p c.args.number (picks_of c.in-Some.start c.start_picks.new.chooser) e (subst WellFormed c.program.ensures.same c.program.ensures.well_formed))

pub draw_entries-requires-clause-completed : goal.draw_entries-requires-clause-completed
draw_entries-requires-clause-completed g c =
    let p = c.args.p.now in
    let is = start_is p c.args.number c.as_slice.result.now c.new-chooser.result (c.as_slice.ensures.value ∙ c.in_ok-asks.ensures) c.new-chooser.ensures in
    let e = sym is ∙ rw c.in-Some.is at c.in_ok-start.ensures in
    let stands : c.in-Ok.machine ≡ standing p c.in-Some.start = (subst (λ picks. StartAnswer p picks (Ok c.in-Ok.machine)) c.as_slice-2.ensures c.in-Ok.ensures).1 in
    let few = completed_none p c.args.number (picks_of c.in-Some.start c.start_picks.new.chooser) e c.args.most c.requires.few in
    subst (λ (m : Standing). m.config.completed + c.args.most < 2 ^ 32) (sym stands) few

pub returns-clause-schedule : goal.returns-clause-schedule
returns-clause-schedule g c =
    let p = c.args.p.now in
    let is = start_is p c.args.number c.as_slice.result.now c.new-chooser.result (c.as_slice.ensures.value ∙ c.in_ok-asks.ensures) c.new-chooser.ensures in
    let e = sym is ∙ rw c.in-Some.is at c.in_ok-start.ensures in
    let stands : c.in-Ok.machine ≡ standing p c.in-Some.start = (subst (λ picks. StartAnswer p picks (Ok c.in-Ok.machine)) c.as_slice-2.ensures c.in-Ok.ensures).1 in
    drawn_is p c.args.number (picks_of c.in-Some.start c.start_picks.new.chooser) e c.args.most c.draw_entries.new.machine c.draw_entries.new.entries
    (rw c.new-entries.ensures at rw stands at c.in_ok-draw_entries.ensures.drawn)

pub returns-clause-run : goal.returns-clause-run
returns-clause-run g c =
    let p = c.args.p.now in
    let is = start_is p c.args.number c.as_slice.result.now c.new-chooser.result (c.as_slice.ensures.value ∙ c.in_ok-asks.ensures) c.new-chooser.ensures in
    let e = sym is ∙ rw c.in-Some.is at c.in_ok-start.ensures in
    let stands : c.in-Ok.machine ≡ standing p c.in-Some.start = (subst (λ picks. StartAnswer p picks (Ok c.in-Ok.machine)) c.as_slice-2.ensures c.in-Ok.ensures).1 in
    drawn_run p c.args.number (picks_of c.in-Some.start c.start_picks.new.chooser) e c.args.most c.draw_entries.new.machine c.draw_entries.new.entries
    (rw c.new-entries.ensures at rw stands at c.in_ok-draw_entries.ensures.drawn) (subst WellFormed c.program.ensures.same c.program.ensures.well_formed)

pub returns-clause-kept : goal.returns-clause-kept
returns-clause-kept g c =
    let p = c.args.p.now in
    let is = start_is p c.args.number c.as_slice.result.now c.new-chooser.result (c.as_slice.ensures.value ∙ c.in_ok-asks.ensures) c.new-chooser.ensures in
    let e = sym is ∙ rw c.in-Some.is at c.in_ok-start.ensures in
    let stands : c.in-Ok.machine ≡ standing p c.in-Some.start = (subst (λ picks. StartAnswer p picks (Ok c.in-Ok.machine)) c.as_slice-2.ensures c.in-Ok.ensures).1 in
    subst (g.R.Record.keeps c.draw_entries.new.kept)
    (drawn_steps p c.args.number (picks_of c.in-Some.start c.start_picks.new.chooser) e c.args.most c.draw_entries.new.machine c.draw_entries.new.entries
    (rw c.new-entries.ensures at rw stands at c.in_ok-draw_entries.ensures.drawn))
    (subst (λ (m : Standing). g.R.Record.keeps c.draw_entries.new.kept (feet (thread_step m.look) m.config (drawn_from_here c.args.most m c.start_picks.new.chooser))) stands
    c.in_ok-draw_entries.ensures.kept)
