-- How many steps of a part are drawn in the order of a witness, and how many it leaves out.
use Rattle.mr_picture.proofs.Common.{◌≡◌, ℕ, zero, suc, ◌+◌, ◌-◌, ◌<◌, ◌≤◌, inl, inr, Bool, true, false, List, [], ◌∷◌, ◌++◌, length, refl, ap, ◌∙◌, arith, and_parts, cases_Bool, nat_tests, filter-append, ◌==◌, ◌&&◌, ◌||◌, not, nat_lt, filter, range_with_len, Footprint, Pair, happens_before, Span, is_left_out, is_other, left_out, witness_steps}
use Rattle.std.proofs.Common.{length-append}
use Rattle.std.proofs.lemmas.Bool.{not-true}
use Rattle.std.proofs.lemmas.List.FromFn.{length-range_with_len}
use Rattle.std.proofs.lemmas.List.Sums.{count_by-le-length, length-filter}
use Rattle.mr_picture.proofs.WitnessLaws.{no_one, one, parts}

-- a filter keeps no more than there is
kept_few : (p : ℕ → Bool) (xs : List ℕ) → length (filter p xs) ≤ length xs
kept_few p xs = omega (arith, length-filter p xs, count_by-le-length p xs)

pub numbers_few : (p : ℕ → Bool) (a n : ℕ) → length (filter p (range_with_len a n)) ≤ n
numbers_few p a n = omega (arith, kept_few p (range_with_len a n), length-range_with_len a n)

pub witness_few : (run : List Footprint) (race : Pair) (from : ℕ)
    → length (witness_steps run race from) ≤ (race.second - from) + 2
witness_few run race from =
    let others = filter (is_other run race) (range_with_len from (race.second - from)) in
    omega (
      arith,
      length-append others (race.first ∷ race.second ∷ []),
      numbers_few (is_other run race) from (race.second - from),
    )

pub left_few : (run : List Footprint) (race : Pair) (span : Span)
    → length (left_out run race span) ≤ span.to - span.from
left_few run race span = numbers_few (is_left_out run race) span.from (span.to - span.from)

-- two tests, of which no number passes both, keep no more than there is
one_kind : (p q : ℕ → Bool) (k : ℕ) → (p k ≡ true → q k ≡ false)
    → length (filter p (k ∷ [])) + length (filter q (k ∷ [])) ≤ 1
one_kind p q k h =
    elim (cases_Bool (p k)) [
      | inl e ↦ omega (arith, ap length (one p k e), ap length (no_one q k (h e)))
      | inr e ↦ omega (arith, ap length (no_one p k e), kept_few q (k ∷ []))
    ]

two_kinds : (p q : ℕ → Bool) (a n : ℕ) → ((k : ℕ) → k < a + n → p k ≡ true → q k ≡ false)
    → length (filter p (range_with_len a n)) + length (filter q (range_with_len a n)) ≤ n
two_kinds p q a zero h = omega arith
two_kinds p q a (suc n) h =
    let rest = range_with_len (a + 1) n in
    let first = one_kind p q a (h a (omega arith)) in
    let others = two_kinds p q (a + 1) n (λ k lt. h k (omega (arith, lt))) in
    omega (
      arith,
      first,
      others,
      ap length (filter-append p (a ∷ []) rest),
      ap length (filter-append q (a ∷ []) rest),
      length-append (filter p (a ∷ [])) (filter p rest),
      length-append (filter q (a ∷ [])) (filter q rest),
    )

-- a step before the race's second one isn't left out if it is one of the others
apart : (run : List Footprint) (race : Pair) (k : ℕ) → k < race.second → is_other run race k ≡ true
    → is_left_out run race k ≡ false
apart run race k lt e =
    let both = and_parts (not (happens_before run race.first k)) (not (k == race.first)) e in
    let above : nat_lt race.second k ≡ false = grind (arith, nat_tests) in
    ap (λ c. c || (nat_lt k race.second && happens_before run race.first k)) above
    ∙ ap (λ c. nat_lt k race.second && c) (not-true (happens_before run race.first k) both.0)
    ∙ and_no (nat_lt k race.second)
  where
    and_no : (b : Bool) → (b && false) ≡ false
    and_no true = refl
    and_no false = refl

-- all of them together are the steps of the part, and the race's two once more at most
pub rows_few : (run : List Footprint) (race : Pair) (span : Span) → span.from ≤ race.second → race.second < span.to
    → length (witness_steps run race span.from) + length (left_out run race span) ≤ (span.to - span.from) + 2
rows_few run race span low high =
    let from = span.from in
    let j = race.second in
    let near = range_with_len from (j - from) in
    let far = range_with_len (from + (j - from)) (span.to - j) in
    let other = is_other run race in
    let left = is_left_out run race in
    let size : span.to - from ≡ (j - from) + (span.to - j) = omega (arith, low, high) in
    let whole : left_out run race span ≡ filter left near ++ filter left far =
    ap (λ n. filter left (range_with_len from n)) size ∙ ap (filter left) (parts from (j - from) (span.to - j))
    ∙ filter-append left near far in
    let none = two_kinds other left from (j - from) (λ k lt. apart run race k (omega (arith, lt, low))) in
    omega (
      arith,
      low,
      high,
      none,
      length-append (filter other near) (race.first ∷ j ∷ []),
      ap length whole,
      length-append (filter left near) (filter left far),
      numbers_few left (from + (j - from)) (span.to - j),
    )
