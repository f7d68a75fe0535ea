use Rattle.mr_picture.proofs.Common.{◌≡◌, ◌∙◌, ℕ, List, ap, length, subst, sym, Pair, IfOk, Option, slice_get, Drawn, Span, scene_text, IsSmall, Scene, Sketch, done_in, near_in, race_in, scene_of}
use Rattle.mr_picture.specs.Scene.{sketch_in, threads_of}
use Rattle.mr_picture.proofs.SceneLaws.{small_of}
use Rattle.mr_picture.proofs.drawing.sketched.Goals as goal

-- a scene by its parts
scene_is : (s : Sketch) (span done : Span) (steps : List Drawn) (threads : List ℕ) (near : List Pair)
    (first : Option Pair) → done ≡ done_in span (length s.feet) → threads ≡ threads_of steps
    → near ≡ near_in span s.races → first ≡ race_in done (slice_get s.races 0)
    → ◌≡◌ {A = Scene} (record {
      sketch = s;
      span = span;
      done = done;
      steps = steps;
      threads = threads;
      near = near;
      first = first;
    }) (scene_of s span steps)
scene_is s span done steps threads near first d th ne fi = λ i. record {
  sketch = s;
  span = span;
  done = d i;
  steps = steps;
  threads = th i;
  near = ne i;
  first = (fi ∙ ap (λ (of : Span). race_in of (slice_get s.races 0)) d) i;
}

pub scene_text-requires-clause-small : goal.scene_text-requires-clause-small
scene_text-requires-clause-small c =
    let s = sketch_in c.args.sketch.now in
    let same = scene_is s c.args.span c.done_in-done.result c.args.steps.now c.as_slice.result.now
    c.as_slice-2.result.now c.first_race.result
    c.done_in-done.ensures (c.as_slice.ensures.value ∙ c.in_ok-threads.ensures)
    (c.as_slice-2.ensures.value ∙ c.in_ok-near.ensures) c.first_race.ensures in
    subst IsSmall (sym same) (small_of s c.args.span c.args.steps.now c.requires.to c.requires.feet c.requires.within)

pub returns : goal.returns
returns c =
    let s = sketch_in c.args.sketch.now in
    let same = scene_is s c.args.span c.done_in-done.result c.args.steps.now c.as_slice.result.now
    c.as_slice-2.result.now c.first_race.result
    c.done_in-done.ensures (c.as_slice.ensures.value ∙ c.in_ok-threads.ensures)
    (c.as_slice-2.ensures.value ∙ c.in_ok-near.ensures) c.first_race.ensures in
    subst (λ (scene : Scene). IfOk c.scene_text.result (λ text. text.items ≡ scene_text scene)) same c.scene_text.ensures
