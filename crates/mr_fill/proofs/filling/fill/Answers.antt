use Rattle.mr_fill.proofs.Common.{◌≡◌, ◌+◌, ◌<◌, ◌^◌, length, sym, ◌∙◌, subst, Err, Ok, WellFormed, Standing, BeginsDrawing}
use Rattle.mr_start.specs.Start.{pieces}
use Rattle.mr_step.specs.Answers.{StartAnswer, fault_of, standing}
use Rattle.mr_auto.specs.Answers.{AreAddresses}
use Rattle.mr_auto.proofs.Drawings.{are_addresses, begins_drawing, never_refused, picks_of, start_is, start_there}
use Rattle.mr_fill.proofs.Fillings.{few_completed, filled_is, legal_is, of_is}
use Rattle.mr_fill.proofs.filling.fill.Goals as goal

pub start_picks-requires : goal.start_picks-requires
start_picks-requires c = subst AreAddresses (sym (c.as_slice.ensures.value ∙ c.in_ok-asks.ensures)) (are_addresses (pieces c.args.p.now))

pub unreachable-requires : goal.unreachable-requires
unreachable-requires c =
    let p = c.args.p.now in
    let is = start_is p 0 c.as_slice.result.now c.new-chooser.result (c.as_slice.ensures.value ∙ c.in_ok-asks.ensures) c.new-chooser.ensures in
    start_there p 0 (subst WellFormed c.program.ensures.same c.program.ensures.well_formed) (sym is ∙ rw c.in_default.is at c.in_ok-start.ensures)

pub unreachable-requires-in-Err-BadEntry : goal.unreachable-requires-in-Err-BadEntry
unreachable-requires-in-Err-BadEntry c =
    let p = c.args.p.now in
    let is = start_is p 0 c.as_slice.result.now c.new-chooser.result (c.as_slice.ensures.value ∙ c.in_ok-asks.ensures) c.new-chooser.ensures in
    let e = sym is ∙ rw c.in-Some.is at c.in_ok-start.ensures in
    let bad = subst (λ picks. StartAnswer p picks (Err c.in-Err-BadEntry.field-0)) c.as_slice-2.ensures c.in-Err-BadEntry.ensures in
    never_refused p 0 (picks_of c.in-Some.start c.start_picks.new.chooser) e (fault_of c.in-Err-BadEntry.field-0-0 c.in-Err-BadEntry.field-0-1) (rw c.in-Err-BadEntry.field-0-is at bad)

pub fill_entries-requires-clause-begins : goal.fill_entries-requires-clause-begins
fill_entries-requires-clause-begins c =
    let p = c.args.p.now in
    let is = start_is p 0 c.as_slice.result.now c.new-chooser.result (c.as_slice.ensures.value ∙ c.in_ok-asks.ensures) c.new-chooser.ensures in
    let e = sym is ∙ rw c.in-Some.is at c.in_ok-start.ensures in
    let stands : c.in-Ok.machine ≡ standing p c.in-Some.start = (subst (λ picks. StartAnswer p picks (Ok c.in-Ok.machine)) c.as_slice-2.ensures c.in-Ok.ensures).1 in
    subst (λ (m : Standing). BeginsDrawing m c.start_picks.new.chooser) (sym stands)
    (begins_drawing p 0 (picks_of c.in-Some.start c.start_picks.new.chooser) e (subst WellFormed c.program.ensures.same c.program.ensures.well_formed))

pub fill_entries-requires-clause-completed : goal.fill_entries-requires-clause-completed
fill_entries-requires-clause-completed c =
    let p = c.args.p.now in
    let is = start_is p 0 c.as_slice.result.now c.new-chooser.result (c.as_slice.ensures.value ∙ c.in_ok-asks.ensures) c.new-chooser.ensures in
    let e = sym is ∙ rw c.in-Some.is at c.in_ok-start.ensures in
    let stands : c.in-Ok.machine ≡ standing p c.in-Some.start = (subst (λ picks. StartAnswer p picks (Ok c.in-Ok.machine)) c.as_slice-2.ensures c.in-Ok.ensures).1 in
    subst (λ (m : Standing). m.config.completed + length c.args.order.now < 2 ^ 32) (sym stands)
    (few_completed p c.args.order.now (picks_of c.in-Some.start c.start_picks.new.chooser) e c.requires.few)

pub returns-clause-filled : goal.returns-clause-filled
returns-clause-filled c =
    let p = c.args.p.now in
    let is = start_is p 0 c.as_slice.result.now c.new-chooser.result (c.as_slice.ensures.value ∙ c.in_ok-asks.ensures) c.new-chooser.ensures in
    let e = sym is ∙ rw c.in-Some.is at c.in_ok-start.ensures in
    let stands : c.in-Ok.machine ≡ standing p c.in-Some.start = (subst (λ picks. StartAnswer p picks (Ok c.in-Ok.machine)) c.as_slice-2.ensures c.in-Ok.ensures).1 in
    filled_is p c.args.order.now (picks_of c.in-Some.start c.start_picks.new.chooser) e c.fill_entries.new.machine c.fill_entries.new.entries c.in_ok-halt.halt
    (rw c.new-entries.ensures at rw stands at c.in_ok-halt.ensures)

pub returns-clause-legal : goal.returns-clause-legal
returns-clause-legal c =
    let p = c.args.p.now in
    let is = start_is p 0 c.as_slice.result.now c.new-chooser.result (c.as_slice.ensures.value ∙ c.in_ok-asks.ensures) c.new-chooser.ensures in
    let e = sym is ∙ rw c.in-Some.is at c.in_ok-start.ensures in
    let stands : c.in-Ok.machine ≡ standing p c.in-Some.start = (subst (λ picks. StartAnswer p picks (Ok c.in-Ok.machine)) c.as_slice-2.ensures c.in-Ok.ensures).1 in
    legal_is p c.args.order.now (picks_of c.in-Some.start c.start_picks.new.chooser) e c.fill_entries.new.machine c.fill_entries.new.entries c.in_ok-halt.halt
    (rw c.new-entries.ensures at rw stands at c.in_ok-halt.ensures) (subst WellFormed c.program.ensures.same c.program.ensures.well_formed)

pub returns-clause-threads : goal.returns-clause-threads
returns-clause-threads c =
    let p = c.args.p.now in
    let is = start_is p 0 c.as_slice.result.now c.new-chooser.result (c.as_slice.ensures.value ∙ c.in_ok-asks.ensures) c.new-chooser.ensures in
    let e = sym is ∙ rw c.in-Some.is at c.in_ok-start.ensures in
    let stands : c.in-Ok.machine ≡ standing p c.in-Some.start = (subst (λ picks. StartAnswer p picks (Ok c.in-Ok.machine)) c.as_slice-2.ensures c.in-Ok.ensures).1 in
    of_is p c.args.order.now (picks_of c.in-Some.start c.start_picks.new.chooser) e c.fill_entries.new.machine c.fill_entries.new.entries c.in_ok-halt.halt
    (rw c.new-entries.ensures at rw stands at c.in_ok-halt.ensures) (subst WellFormed c.program.ensures.same c.program.ensures.well_formed)
