-- Each race of either list is of the places of exactly one group that is told.
use Rattle.mr_two_orders.proofs.Common.{◌≡◌, ℕ, suc, ◌+◌, Bool, true, false, cond, arith, List, [], ◌∷◌, ◌++◌, length, refl, sym, ap, ap₂, inl, inr, ◌∙◌, ne_eqb, ◌==◌, not, count_by, Contains, Pair, rust_races, Group, ranked, same_places, Seen, by_rust}
use Rattle.std.proofs.Common.{◌⊎◌}
use Rattle.std.proofs.lemmas.Bool.{false≢true}
use Rattle.std.proofs.lemmas.List.{length-append}
use Rattle.std.proofs.lemmas.List.Elements.{filter-append, filter_agree}
use Rattle.std.proofs.lemmas.List.Folds.{list_any_at}
use Rattle.std.proofs.lemmas.List.Sorted.{sum_by-IsPermutation}
use Rattle.std.proofs.lemmas.List.Sums.{length-filter}
use Rattle.std.specs.Prelude.{◌&&◌, ◌||◌}
use Rattle.std.specs.List.{filter, list_any}
use Rattle.mr_listing.specs.Races.{groups, is_in_group}
use Rattle.mr_listing.proofs.GroupLaws.{ranked_permutes}
use Rattle.mr_listing.proofs.OnceLaws.{any_agrees, groups_at, places_agree, places_itself}
use Rattle.mr_listing.proofs.PartnerLaws.{filter_twice}
use Rattle.mr_two_orders.specs.Texts.{is_alone, told_groups}

-- ---- lists

none_kept : {X : Type 0} (p : X → Bool) (xs : List X) → (length (filter p xs) == 0) ≡ not (list_any p xs)
none_kept p [] = refl
none_kept p (x ∷ xs) = by (p x) (none_kept p xs)
  where
    by : (b : Bool) → (length (filter p xs) == 0) ≡ not (list_any p xs)
        → (length (cond b (x ∷ filter p xs) (filter p xs)) == 0) ≡ not (b || list_any p xs)
    by true h = ne_eqb (suc (length (filter p xs))) 0 (λ e. omega (arith, e))
    by false h = h

-- there is none exactly where no element passes
none_counted : {X : Type 0} (p : X → Bool) (xs : List X) → (count_by p xs == 0) ≡ not (list_any p xs)
none_counted p xs = ap (λ n. n == 0) (sym (length-filter p xs)) ∙ none_kept p xs

and_true : (b : Bool) → (b && true) ≡ b
and_true true = refl
and_true false = refl

and_false : (b : Bool) → (b && false) ≡ false
and_false true = refl
and_false false = refl

kept_none : {X : Type 0} (p : X → Bool) (xs : List X) → length (filter (λ x. p x && false) xs) ≡ 0
kept_none p [] = refl
kept_none p (x ∷ xs) =
    ap (λ b. length (cond b (x ∷ filter (λ y. p y && false) xs) (filter (λ y. p y && false) xs))) (and_false (p x))
    ∙ kept_none p xs

-- what passes a test and a fixed one
kept_fixed : {X : Type 0} (p : X → Bool) (b : Bool) (xs : List X)
    → length (filter (λ x. p x && not b) xs) ≡ cond b 0 (length (filter p xs))
kept_fixed p true xs = kept_none p xs
kept_fixed p false xs = ap length (filter_agree (λ x. p x && true) p (λ x. and_true (p x)) xs)

-- ---- groups

module _ (s : Seen) (q : Pair) where
  -- so many groups of a list are of the places
  groups_of : length (filter (is_in_group s q) (ranked s)) ≡ cond (list_any (same_places s q) s.races) 1 0
  groups_of =
      length-filter (is_in_group s q) (ranked s)
      ∙ sum_by-IsPermutation (λ g. cond (is_in_group s q g) 1 0) (groups s) (ranked s) (ranked_permutes s)
      ∙ sym (length-filter (is_in_group s q) (groups s)) ∙ groups_at s q

  there : Contains s.races q → list_any (same_places s q) s.races ≡ true
  there (k, lt, is) = list_any_at (same_places s q) s.races k q lt (ap (same_places s q) is ∙ places_itself s q)

  -- whether a race of Rust's list is of the places
  abbrev any_rust : Bool
  any_rust = list_any (same_places s q) (rust_races s.feet)

  each : (g : Group) → (is_alone s g && is_in_group s q g) ≡ (is_in_group s q g && not any_rust)
  each g = by (is_in_group s q g) refl
    where
      by : (b : Bool) → is_in_group s q g ≡ b → (is_alone s g && b) ≡ (b && not any_rust)
      by false e = and_false (is_alone s g)
      by true e =
          and_true (is_alone s g) ∙ none_counted (same_places s g.first) (rust_races s.feet)
          ∙ ap not
          (any_agrees (same_places s g.first) (same_places s q) (λ x. sym (places_agree s g.first q e x)) (rust_races s.feet))

  -- the same of those that the machine's list has alone
  alone_of : length (filter (is_in_group s q) (filter (is_alone s) (ranked s)))
      ≡ cond any_rust 0 (cond (list_any (same_places s q) s.races) 1 0)
  alone_of =
      ap length
      (filter_twice (is_alone s) (is_in_group s q) (ranked s)
      ∙ filter_agree (λ g. is_alone s g && is_in_group s q g) (λ g. is_in_group s q g && not any_rust) each (ranked s))
      ∙ kept_fixed (is_in_group s q) any_rust (ranked s) ∙ ap (cond any_rust 0) groups_of

-- one of two lists has a race there
one_of : (a b : Bool) → (a ≡ true) ⊎ (b ≡ true) → cond a 1 0 + cond a 0 (cond b 1 0) ≡ 1
one_of true b h = refl
one_of false true h = refl
one_of false false h = elim h [ inl e ↦ absurd (false≢true e) | inr e ↦ absurd (false≢true e) ]

listed : (s : Seen) (q : Pair) → Contains (rust_races s.feet) q ⊎ Contains s.races q
    → (list_any (same_places s q) (rust_races s.feet) ≡ true) ⊎ (list_any (same_places s q) s.races ≡ true)
listed s q (inl c) = inl (there (by_rust s) q c)
listed s q (inr c) = inr (there s q c)

pub told_once : (s : Seen) (q : Pair) → Contains (rust_races s.feet) q ⊎ Contains s.races q
    → length (filter (is_in_group s q) (told_groups s)) ≡ 1
told_once s q h =
    ap length (filter-append (is_in_group s q) (ranked (by_rust s)) (filter (is_alone s) (ranked s)))
    ∙ length-append (filter (is_in_group s q) (ranked (by_rust s))) (filter (is_in_group s q) (filter (is_alone s) (ranked s)))
    ∙ ap₂ (λ (m n : ℕ). m + n) (groups_of (by_rust s) q) (alone_of s q)
    ∙ one_of (list_any (same_places s q) (rust_races s.feet)) (list_any (same_places s q) s.races) (listed s q h)
