use Rattle.mr_hunt.proofs.Common.{◌≡◌, ◌∙◌, ap, length, List, ◌==◌, not, Pair, Schedule, steps_of, drawn_schedule}
use Rattle.mr_event.specs.Footprint.{Footprint}
use Rattle.mr_rust_order.specs.Tests.{rust_races}
use Rattle.mr_hunt.proofs.aims.has_rust_race.Goals as goal

pub returns : goal.returns
returns c = λ laid.
    let p = c.args.p.now in
    let steps : c.as_slice.result.now ≡ steps_of p (drawn_schedule p c.args.number c.args.most) =
    c.as_slice.ensures.value ∙ c.in_ok-draw.ensures.kept
    ∙ ap (λ (w : Schedule). steps_of p w) c.in_ok-draw.ensures.schedule in
    let listed =
    c.as_slice-2.ensures.value ∙ c.in_ok-found.ensures ∙ ap (λ (run : List Footprint). rust_races run) steps in
    ap not (c.is_empty.ensures ∙ ap (λ (rs : List Pair). length rs == 0) listed)
