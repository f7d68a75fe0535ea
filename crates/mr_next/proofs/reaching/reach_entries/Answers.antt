use Rattle.mr_next.proofs.Common.{◌≡◌, [], ap, arith, refl, subst, sym, ◌∙◌, program_fault, fault_of, Standing, Some, culprit_of}
use Rattle.std.proofs.lemmas.List.{drop_all}
use Rattle.mr_next.specs.declared.broken.Broken.{Broken}
use Rattle.mr_next.specs.Reached.{IsReached}
use Rattle.mr_run.proofs.RunLaws.{left_at}
use Rattle.mr_next.proofs.ReachedLaws.{begins_way, reached_all, reached_broken, way_goes_on}
use Rattle.mr_next.proofs.reaching.reach_entries.Goals as goal

pub loop-entry-init : goal.loop-entry-init
loop-entry-init c = begins_way c.args.machine.now c.args.entries.now c.requires.working

pub step-requires-clause-working : goal.step-requires-clause-working
step-requires-clause-working c = c.loop-entry.invariant.way.working

pub step-requires-clause-completed : goal.step-requires-clause-completed
step-requires-clause-completed c = omega (arith, c.loop-entry.invariant.way.completed, c.loop-entry-test.true, c.requires.completed)

pub step-requires-clause-room : goal.step-requires-clause-room
step-requires-clause-room c = ([], tt, omega arith)

pub overflow_add-place : goal.overflow_add-place
overflow_add-place c = omega (arith, c.loop-entry.invariant.way.place, c.loop-entry-test.true, c.requires.few)

pub loop-entry-preserved : goal.loop-entry-preserved
loop-entry-preserved c =
    let d = left_at c.args.entries.now c.loop-entry.entry-index c.entry-item.result c.loop-entry-test.true c.entry-item.is in
    way_goes_on c.args.machine.now c.loop-entry.machine c.loop-entry.place c.loop-entry.entry-index c.args.entries.now c.loop-entry.invariant c.entry-item.result c.loop-entry-test.true c.entry-item.is d
    c.step.new.machine c.in-Ok.ensures.answer

pub culprit-requires-clause-working : goal.culprit-requires-clause-working
culprit-requires-clause-working c =
    let bad = rw c.in-Err-BadEntry.field-0-is at c.in-Err-BadEntry.ensures.answer in
    ap (λ (m : Standing). m.failed) bad.1 ∙ c.loop-entry.invariant.way.working

pub culprit-requires-clause-completed : goal.culprit-requires-clause-completed
culprit-requires-clause-completed c =
    let bad = rw c.in-Err-BadEntry.field-0-is at c.in-Err-BadEntry.ensures.answer in
    let same = ap (λ (m : Standing). m.config.completed) bad.1 in
    omega (arith, same, c.loop-entry.invariant.way.completed, c.loop-entry-test.true, c.requires.completed)

pub culprit-requires-clause-broken : goal.culprit-requires-clause-broken
culprit-requires-clause-broken c =
    let bad = rw c.in-Err-BadEntry.field-0-is at c.in-Err-BadEntry.ensures.answer in
    let e = c.entry-item.result in
    rw c.in-Err-BadEntry.field-0-is
    (fault_of c.in-Err-BadEntry.code c.in-Err-BadEntry.earlier, ap (λ (m : Standing). program_fault m.look m.config e) bad.1 ∙ bad.0, refl)

pub returns-in-Err-BadEntry : goal.returns-in-Err-BadEntry
returns-in-Err-BadEntry c =
    let bad = rw c.in-Err-BadEntry.field-0-is at c.in-Err-BadEntry.ensures.answer in
    let e = c.entry-item.result in
    let d = left_at c.args.entries.now c.loop-entry.entry-index e c.loop-entry-test.true c.entry-item.is in
    let code = c.in-Err-BadEntry.code in
    let b : Broken = record { place = c.loop-entry.place; code = code; earlier = c.in-Err-BadEntry.earlier; culprit = c.in_ok-at-in-Err-BadEntry.at } in
    let told = rw c.in-Err-BadEntry.field-0-is at c.in_ok-at-in-Err-BadEntry.ensures.culprit in
    let still : c.culprit.new.machine ≡ c.loop-entry.machine = c.in_ok-at-in-Err-BadEntry.ensures.same ∙ bad.1 in
    rw c.in-Err-BadEntry.field-0-is
    (subst (λ (m : Standing). IsReached c.args.entries.now c.args.machine.now m (Some b)) (sym still)
    (reached_broken c.args.machine.now c.loop-entry.machine c.loop-entry.place c.loop-entry.entry-index c.args.entries.now c.loop-entry.invariant e c.loop-entry-test.true c.entry-item.is d
    b refl bad.0
    (told ∙ ap (λ (m : Standing). culprit_of m.look m.config e code) bad.1)))

pub returns : goal.returns
returns c =
    reached_all c.args.machine.now c.loop-entry.machine c.loop-entry.place c.loop-entry.entry-index c.args.entries.now c.loop-entry.invariant
    (drop_all c.loop-entry.entry-index c.args.entries.now c.loop-entry-test.false)
