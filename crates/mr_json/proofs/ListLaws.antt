-- Lists of values that a loop makes, one after the other.
use Rattle.std.proofs.Common.{◌≡◌, ℕ, ◌+◌, List, [], ◌∷◌, ◌++◌, map, ap, ap₂, ◌∙◌}
use Rattle.std.proofs.lemmas.List.{map-append}
use Rattle.std.specs.List.{range_with_len}
use Rattle.serde_json.specs.Data.{Data}
use Rattle.serde_json.specs.View.{view}
use Rattle.serde_json.specs.declared.value.Value.{Value}
use Rattle.mr_labels.proofs.Growing.{pushed_next}

-- turn n pushes the value of number n
pub viewed_next : (f : ℕ → Data) (old now : List Value) (v : Value) (n : ℕ) → now ≡ old ++ v ∷ []
    → map view old ≡ map f (range_with_len 0 n) → view v ≡ f n → map view now ≡ map f (range_with_len 0 (n + 1))
viewed_next f old now v n grown here is =
    ap (map view) grown ∙ map-append view old (v ∷ []) ∙ ap (λ d. map view old ++ d ∷ []) is
    ∙ pushed_next f [] (map view old) n here
