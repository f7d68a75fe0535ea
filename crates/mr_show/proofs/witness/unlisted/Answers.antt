use Rattle.mr_show.proofs.Common.{◌+◌, ◌++◌, ◌∙◌, ap, codes, ℕ, List}
use Rattle.std.specs.Prelude.{decimal}
use Rattle.mr_show.specs.Witness.{unlisted_text}
use Rattle.mr_show.proofs.witness.unlisted.Goals as goal

pub returns : goal.returns
unfolding unlisted_text
returns c =
    let number : ℕ = c.args.step + 1 in
    let end : List ℕ = codes " races with no earlier step\n" in
    c.in_ok-extend_from_slice.ensures.items
    ∙ ap (λ (xs : List ℕ). xs ++ end)
    (c.in_ok-push_number.ensures
    ∙ ap (λ (n : ℕ). c.in_ok-text.text.items ++ decimal (n + 1)) c.from.ensures
    ∙ ap (λ (xs : List ℕ). xs ++ decimal number) c.in_ok-text.ensures.items)
