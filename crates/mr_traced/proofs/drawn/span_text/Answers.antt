use Rattle.mr_traced.proofs.Common.{◌≡◌, ◌^◌, ◌<◌, ◌∙◌, ℕ, List, subst, sym, All, IfOk, drawn_steps, seen}
use Rattle.mr_picture.specs.declared.scene.Drawn.{Drawn}
use Rattle.mr_picture.specs.Picture.{scene_text}
use Rattle.mr_picture.specs.Scene.{scene_of}
use Rattle.mr_traced.specs.Drawn.{sketch_of}
use Rattle.mr_traced.proofs.DrawnLaws.{drawn_small}
use Rattle.mr_traced.proofs.drawn.span_text.Goals as goal

pub sketched-requires-clause-within : goal.sketched-requires-clause-within
sketched-requires-clause-within c =
    subst (All (λ d. d.number < 2 ^ 32)) (sym (c.as_slice-2.ensures.value ∙ c.in_ok-steps.ensures))
    (drawn_small (seen c.args.shown.now) c.args.span c.requires.few c.requires.within)

pub returns : goal.returns
returns c =
    let s = seen c.args.shown.now in
    subst (λ (tail : List ℕ). IfOk c.sketched.result (λ text. text.items
    ≡ scene_text (scene_of (record (sketch_of s) { tail = tail }) c.args.span (drawn_steps s c.args.span))))
    (c.as_slice.ensures.value ∙ c.in_ok-tail.ensures)
    (subst (λ (steps : List Drawn). IfOk c.sketched.result (λ text. text.items
    ≡ scene_text (scene_of (record (sketch_of s) { tail = c.as_slice.result.now }) c.args.span steps)))
    (c.as_slice-2.ensures.value ∙ c.in_ok-steps.ensures) c.sketched.ensures)
