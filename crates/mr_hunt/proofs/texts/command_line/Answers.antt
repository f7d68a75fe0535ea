use Rattle.mr_hunt.proofs.Common.{ℕ, List, [], ◌∷◌, ◌++◌, ◌∙◌, ap, ap₂}
use Rattle.std.specs.Prelude.{decimal}
use Rattle.mr_hunt.proofs.texts.command_line.Goals as goal

pub returns : goal.returns
returns c =
    let join : List ℕ → List ℕ → List ℕ = λ xs ys. xs ++ ys in
    c.in_ok-push-3.ensures.items
    ∙ ap (λ xs. xs ++ 10 ∷ [])
    (c.in_ok-push_number-2.ensures
    ∙ ap₂ join
    (c.in_ok-push-2.ensures.items
    ∙ ap (λ xs. xs ++ 32 ∷ [])
    (c.in_ok-push_number.ensures
    ∙ ap (λ xs. xs ++ decimal c.args.number)
    (c.in_ok-push.ensures.items
    ∙ ap (λ xs. xs ++ 32 ∷ [])
    (c.in_ok-extend_from_slice.ensures.items ∙ ap₂ join c.in_ok-out.ensures.items c.as_bytes.ensures.value))))
    (ap decimal c.from.ensures))
