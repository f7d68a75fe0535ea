use Rattle.mr_show.proofs.Common.{◌+◌, ◌++◌, ◌∙◌, ap, codes, ℕ, List}
use Rattle.std.specs.Prelude.{decimal}
use Rattle.mr_show.specs.Witness.{hindered_text}
use Rattle.mr_show.proofs.witness.hindered.Goals as goal

pub returns : goal.returns
unfolding hindered_text
returns c =
    let first : List ℕ = decimal (c.args.pair.first + 1) in
    let second : List ℕ = decimal (c.args.pair.second + 1) in
    let between : List ℕ = codes " races with step " in
    let end : List ℕ = codes ", but an earlier race is in its way\n" in
    c.in_ok-extend_from_slice-2.ensures.items
    ∙ ap (λ (xs : List ℕ). xs ++ end)
    (c.in_ok-push_number-2.ensures
    ∙ ap (λ (xs : List ℕ). xs ++ first)
    (c.in_ok-extend_from_slice.ensures.items
    ∙ ap (λ (xs : List ℕ). xs ++ between)
    (c.in_ok-push_number.ensures ∙ ap (λ (xs : List ℕ). xs ++ second) c.in_ok-text.ensures.items)))
