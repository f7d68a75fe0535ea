-- A form in which each choice has a word has a thing and a row that writes it.
use Rattle.mr_grammar.proofs.Common.{ℕ, Bool, List, ◌≡◌, true, ◌==◌, ◌-◌, [], refl, ◌++◌, ◌∷◌, inl, if◌then◌else◌, ◌||◌, Some, None, suc, codes, inr, UsesLocal, Mark, SpelledBy, Empty, Then, Cases, Either, Many, Within, Word, opening, closing, Part, In, Scope, SpelledInside, type_form, judged_type, tree_form, judged_tree, value_form, judged_value, place_from, postfixes_form, base_form, Kind, Meaning, Writing, TheType, TheTree, ThePlace, TheValue}
use Rattle.mr_ast.specs.declared.expr.Place.TheVariants as place
use Rattle.mr_ast.specs.declared.expr.Value.TheVariants as value
use Rattle.mr_ast.specs.declared.types.Tree.TheVariants as tree
use Rattle.mr_ast.specs.declared.types.Ty.TheVariants as ty
use Rattle.mr_ast.specs.declared.words.TreeWord.TheVariants as tree_word
use Rattle.mr_ast.specs.declared.words.TypeWord.TheVariants as type_word
use Rattle.mr_ast.specs.declared.words.ValueWord.TheVariants as value_word
use Rattle.mr_grammar.proofs.Walk.Fair.{AreFair}
use Rattle.mr_grammar.proofs.Walk.FairJudges.{spelt, name_fair}
use Rattle.mr_grammar.proofs.Walk.HeightLaws.{SomePart, SomeInside, settled}
use Rattle.mr_grammar.proofs.Walk.Says.{Sample}

-- each kind has one, wherever it stands
abbrev pub KindsSampled : Type 0
KindsSampled = (room : ℕ) (scope : Scope) (kind : Kind) → Sample (SomePart room scope kind)

-- Where parts have samples if they may stand outside brackets, a form has one.
pub sample_by : KindsSampled → (parts : Bool) (room : ℕ) (part : Scope → (kind : Kind) → Meaning kind → List Mark → Type 0)
    → (parts ≡ true → (scope : Scope) (kind : Kind) → Sample (part scope kind)) → (scope : Scope) {A : Type 0} (form : Writing A) → AreFair parts form
    → Sample (SpelledBy (room == 0) (SomeInside (room - 1)) part scope form)
unfolding SpelledInside
sample_by kinds parts room part given scope (Empty a) s = (a, [], (refl, refl))
sample_by kinds parts room part given scope (Then f a b) s =
    let (x, front, one) = sample_by kinds parts room part given scope a s.0 in
    let (y, back, other) = sample_by kinds parts room part given scope b s.1 in
    (f x y, front ++ back, (x, y, front, back, refl, refl, one, other))
sample_by kinds parts room part given scope (Cases judge form) s =
    let (word, i, flaw, judged) = s.0.takes scope in
    let (x, back, behind) = sample_by kinds parts room part given scope (form i) (s.1 i) in
    (x, record { word = word; flaw = flaw } ∷ back, (word, i, flaw, back, judged, refl, behind))
sample_by kinds parts room part given scope (Either test a b) s =
    let (x, marks, one) = sample_by kinds parts room part given scope a s.0 in
    (x, marks, inl one)
sample_by kinds parts room part given scope (Many test form) s = ([], [], refl)
sample_by kinds parts room part given scope (Within over bracket a) s =
    let (x, between, one) = sample_by kinds true (room - 1) (SomePart (room - 1)) (λ _. kinds (room - 1)) scope a s in
    let (height, written) = settled (room - 1) scope a x between one in
    let start : Word = record { text = opening bracket; place = 0 } in
    let end : Word = record { text = closing bracket; place = 0 } in (
      x,
      record { word = start; flaw = if over || (room == 0) then Some 7 else None } ∷ between ++ record { word = end; flaw = None } ∷ [],
      (start, end, between, refl, refl, refl, (suc height, written)),
    )
sample_by kinds parts room part given scope (Part kind) s = given s scope kind
sample_by kinds parts room part given scope (In into a) s = sample_by kinds parts room part given (into scope) a s.1

-- each kind has a sample
pub kinds_sampled : KindsSampled
unfolding type_form judged_type tree_form judged_tree value_form judged_value place_from postfixes_form base_form
kinds_sampled room scope TheType =
    let w = spelt (codes "bool") in (ty.Bool, record { word = w; flaw = None } ∷ [], (0, (w, type_word.Bool, None, [], refl, refl, (refl, refl))))
kinds_sampled room scope TheTree =
    let w = spelt (codes "invalid") in (tree.Invalid, record { word = w; flaw = None } ∷ [], (0, (w, tree_word.Invalid, None, [], refl, refl, (refl, refl))))
kinds_sampled room scope (ThePlace over) =
    let (w, i, flaw, judged) = (name_fair true over UsesLocal).0.takes scope in
    let marks : List Mark = record { word = w; flaw = flaw } ∷ [] in
    let x = place.Local (record { 0 = i }) in
    (x, marks, (0, (x, [], marks, [], refl, refl, inr (tt, i, [], marks, refl, refl, (refl, refl), (w, i, flaw, [], judged, refl, (refl, refl))), refl)))
kinds_sampled room scope TheValue =
    let w = spelt (codes "true") in (value.True, record { word = w; flaw = None } ∷ [], (0, (w, value_word.True, None, [], refl, refl, (refl, refl))))
