use Rattle.std.specs.Borrow.{Bor}
use Rattle.std.proofs.Common.{ℕ, List, ◌++◌, ◌∙◌, ap, map}
use Rattle.std.specs.Prelude.{flat_map}
use Rattle.std.proofs.lemmas.List.{take_all}
use Rattle.mr_refusals.specs.Going.{word_told}
use Rattle.mr_refusals.proofs.WordLaws.{going_told}
use Rattle.mr_refusals.proofs.going.push_words.Goals as goal

pub returns : goal.returns
returns c =
    let old = c.args.out.now.items in
    let told : List (Bor (List ℕ)) → List ℕ = λ words.
    old ++ flat_map (word_told c.args.front.now c.args.line) (map (λ w. w.now) words) in
    c.loop-word.invariant ∙ ap told (take_all c.loop-word.word-index c.args.words.now c.loop-word-test.false)
    ∙ ap (λ xs. old ++ xs) (going_told c.args.front.now c.args.line (map (λ w. w.now) c.args.words.now))
