-- The spans of a text.
use Rattle.mr_lex.proofs.Common.{◌≡◌, ℕ, zero, suc, ◌+◌, ◌<◌, ◌≤◌, List, [], ◌∷◌, ◌++◌, length, get_or, refl, sym, ap, ◌∙◌, arith, Some, slice_get, AreBetween}
use Rattle.std.proofs.lemmas.Option.{slice_get_read}
use Rattle.mr_lex.specs.declared.list.Span.{Span}

between_le : (from to : ℕ) (spans : List Span) → AreBetween from to spans → from ≤ to
between_le from to [] between = between
between_le from to (span ∷ spans) between = omega (arith, between.0, between_le (span.at + span.len) to spans between.1)

-- each span ends before the end
pub between_at : (from to : ℕ) (spans : List Span) (i : ℕ) (span : Span) → AreBetween from to spans → slice_get spans i ≡ Some span → span.at + span.len ≤ to
between_at from to [] i span between is = absurd (cc)
between_at from to (first ∷ spans) zero span between is =
    let same : first ≡ span = cc in
    omega (arith, ap (λ s. s.at) same, ap (λ s. s.len) same, between_le (first.at + first.len) to spans between.1)
between_at from to (first ∷ spans) (suc i) span between is =
    between_at (first.at + first.len) to spans i span between.1 is

-- a span behind the others
pub between_push : (from middle to : ℕ) (spans : List Span) (span : Span) → AreBetween from middle spans → middle ≤ span.at → span.at + span.len ≤ to → AreBetween from to (spans ++ span ∷ [])
between_push from middle to [] span between order end = (omega arith, end)
between_push from middle to (first ∷ spans) span between order end =
    (between.0, between_push (first.at + first.len) middle to spans span between.1 order end)

pub between_more : (from middle to : ℕ) (spans : List Span) → AreBetween from middle spans → middle ≤ to → AreBetween from to spans
between_more from middle to [] between order = omega arith
between_more from middle to (first ∷ spans) between order =
    (between.0, between_more (first.at + first.len) middle to spans between.1 order)

-- a span that was read from a slice of the spans
pub span_read : (spans slice : List Span) (i : ℕ) (span : Span) → slice ≡ spans → i < length slice → span ≡ get_or slice i span → slice_get spans i ≡ Some span
span_read spans slice i span same within is =
    ap (λ xs. slice_get xs i) (sym same) ∙ slice_get_read slice (length slice) i span refl within is
