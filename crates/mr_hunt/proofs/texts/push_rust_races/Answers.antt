use Rattle.mr_hunt.proofs.Common.{ℕ, List, [], ◌∷◌, ◌++◌, ◌∙◌, ap, ap₂, codes, Pair}
use Rattle.std.proofs.Common.{append_assoc}
use Rattle.mr_rust_order.specs.Tests.{rust_races}
use Rattle.mr_hunt.specs.Texts.{by_places}
use Rattle.mr_hunt.proofs.texts.push_rust_races.Goals as goal

pub returns : goal.returns
returns c =
    let join : List ℕ → List ℕ → List ℕ = λ xs ys. xs ++ ys in
    let by = by_places c.args.text.now c.args.p.now c.args.places.now c.args.stands.now in
    let old = c.args.out.now.items in
    let head = codes "by Rust's order:" in
    let lines = by (rust_races c.args.run.now) in
    c.in_ok-extend_from_slice-2.ensures.items
    ∙ ap₂ join (c.in_ok-push.ensures.items ∙ ap (λ xs. xs ++ 10 ∷ []) c.in_ok-extend_from_slice.ensures.items)
    (c.as_slice-2.ensures.value ∙ c.in_ok-lines.ensures
    ∙ ap (λ (races : List Pair). by races) (c.as_slice.ensures.value ∙ c.in_ok-found.ensures))
    ∙ append_assoc (old ++ head) (10 ∷ []) lines ∙ append_assoc old head (10 ∷ lines)
