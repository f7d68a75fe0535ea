use Rattle.mr_picture.proofs.Common.{ℕ, List, ◌∙◌, ap, arith, length, subst, sym, All, IsRace, scene_in}
use Rattle.mr_picture.specs.Scene.{IsStep}
use Rattle.mr_picture.proofs.Counts.{left_few, witness_few}
use Rattle.mr_picture.proofs.Within.{left_below, witness_below}
use Rattle.mr_picture.proofs.column.push_column.Goals as goal

pub push_column_of-requires-clause-few : goal.push_column_of-requires-clause-few
push_column_of-requires-clause-few c =
    let s = scene_in c.args.scene.now in
    let race = c.in-Some.race in
    let there : IsRace s race = rw c.in-Some.is at c.requires.small.first in
    let kept = ap length (c.as_slice.ensures.value ∙ c.in_ok-kept.ensures) in
    let left = ap length (c.as_slice-2.ensures.value ∙ c.in_ok-left.ensures) in
    let most = witness_few s.sketch.feet race s.span.from in
    let others = left_few s.sketch.feet race s.done in
    let feet = c.requires.small.feet in
    let done = c.requires.small.done in
    omega (arith, kept, left, most, others, there.1, feet, done)

pub push_column_of-requires-clause-kept : goal.push_column_of-requires-clause-kept
push_column_of-requires-clause-kept c =
    let s = scene_in c.args.scene.now in
    let race = c.in-Some.race in
    let there : IsRace s race = rw c.in-Some.is at c.requires.small.first in
    subst (λ (steps : List ℕ). All (IsStep s) steps) (sym (c.as_slice.ensures.value ∙ c.in_ok-kept.ensures))
    (witness_below s.sketch.feet race s.span.from (length s.sketch.feet) there.0 there.1)

pub push_column_of-requires-clause-left : goal.push_column_of-requires-clause-left
push_column_of-requires-clause-left c =
    let s = scene_in c.args.scene.now in
    subst (λ (steps : List ℕ). All (IsStep s) steps) (sym (c.as_slice-2.ensures.value ∙ c.in_ok-left.ensures))
    (left_below s.sketch.feet c.in-Some.race s.done (length s.sketch.feet) c.requires.small.done)
