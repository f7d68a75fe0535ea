use Rattle.mr_picture.proofs.Common.{◌≡◌, ◌^◌, ◌<◌, ◌∙◌, ℕ, List, subst, sym, All, IfOk, seen, Drawn, drawn_steps, sketch_of, scene_text, scene_of}
use Rattle.mr_picture.proofs.SceneLaws.{drawn_small}
use Rattle.mr_picture.proofs.drawing.span_text.Goals as goal

pub sketched-requires-clause-within : goal.sketched-requires-clause-within
sketched-requires-clause-within c =
    subst (All (λ d. d.number < 2 ^ 32)) (sym (c.as_slice-3.ensures.value ∙ c.in_ok-steps.ensures))
    (drawn_small (seen c.args.shown.now) c.args.values.now c.args.span c.requires.count)

pub returns : goal.returns
returns c =
    let s = seen c.args.shown.now in
    subst (λ (names : List ℕ). IfOk c.sketched.result (λ text. text.items
    ≡ scene_text (scene_of (record (sketch_of s) { names = names }) c.args.span (drawn_steps s c.args.values.now c.args.span s.steps))))
    (c.as_slice.ensures.value ∙ c.in_ok-names.ensures)
    (subst (λ (tail : List ℕ). IfOk c.sketched.result (λ text. text.items
    ≡ scene_text (scene_of (record (sketch_of s) { names = c.as_slice.result.now; tail = tail }) c.args.span
    (drawn_steps s c.args.values.now c.args.span s.steps))))
    (c.as_slice-2.ensures.value ∙ c.in_ok-tail.ensures)
    (subst (λ (steps : List Drawn). IfOk c.sketched.result (λ text. text.items
    ≡ scene_text (scene_of (record (sketch_of s) { names = c.as_slice.result.now; tail = c.as_slice-2.result.now })
    c.args.span steps)))
    (c.as_slice-3.ensures.value ∙ c.in_ok-steps.ensures) c.sketched.ensures))
