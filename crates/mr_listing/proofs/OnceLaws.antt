-- Each race is of the places of exactly one group.
use Rattle.mr_listing.proofs.Common.{◌≡◌, ℕ, zero, suc, ◌+◌, ◌<◌, ◌≤◌, Bool, true, false, cond, arith, List, [], ◌∷◌, ◌++◌, length, get_or, take, refl, sym, ap, ap₂, ◌∙◌, nat_tests, ◌&&◌, ◌||◌, ◌==◌, if◌then◌else◌, flat_map, Option, None, Some, slice_get, filter, list_any, range_with_len, Pair, Stand, appended_next, Group, before_of, first_group, group_of, groups, numbered_group, same_places, same_stand, Seen}
use Rattle.std.proofs.lemmas.Bool.{eq-eqb, eqb-true}
use Rattle.std.proofs.lemmas.List.{length-append, take_all}
use Rattle.std.proofs.lemmas.List.Elements.{filter-append}
use Rattle.std.proofs.lemmas.List.Folds.{list_any_at, list_any_more}
use Rattle.std.proofs.lemmas.Option.{slice_get-get_or}
use Rattle.std.specs.List.{Contains}
use Rattle.mr_listing.specs.Races.{is_in_group}

-- ---- the same place

both : (a b : Bool) → (a && b) ≡ true → (a ≡ true) × (b ≡ true)
both true b e = (refl, e)
both false b e = absurd (cc)

together : (a b : Bool) → a ≡ true → b ≡ true → (a && b) ≡ true
together a b d e = ap₂ (λ (x y : Bool). x && y) d e

turned : (a b : ℕ) → (a == b) ≡ (b == a)
turned a b = grind (arith, nat_tests)

stand_turned : (a b : Option Stand) → same_stand a b ≡ same_stand b a
stand_turned None None = refl
stand_turned None (Some b) = refl
stand_turned (Some a) None = refl
stand_turned (Some a) (Some b) =
    ap₂ (λ (x y : Bool). x && y) (turned a.function b.function)
    (ap₂ (λ (x y : Bool). x && y) (turned a.block b.block) (turned a.at b.at))

stand_itself : (a : Option Stand) → same_stand a a ≡ true
stand_itself None = refl
stand_itself (Some a) =
    together (a.function == a.function) ((a.block == a.block) && (a.at == a.at)) (eq-eqb a.function a.function refl)
    (together (a.block == a.block) (a.at == a.at) (eq-eqb a.block a.block refl) (eq-eqb a.at a.at refl))

-- what is at the place of one is at the place of the other
stand_agrees : (a b : Option Stand) → same_stand a b ≡ true → (x : Option Stand) → same_stand b x ≡ same_stand a x
stand_agrees None None e x = refl
stand_agrees None (Some b) e x = absurd (cc)
stand_agrees (Some a) None e x = absurd (cc)
stand_agrees (Some a) (Some b) e None = refl
stand_agrees (Some a) (Some b) e (Some c) =
    let function = both (a.function == b.function) ((a.block == b.block) && (a.at == b.at)) e in
    let block = both (a.block == b.block) (a.at == b.at) function.1 in
    ap₂ (λ (x y : Bool). x && y) (ap (λ n. n == c.function) (sym (eqb-true a.function b.function function.0)))
    (ap₂ (λ (x y : Bool). x && y) (ap (λ n. n == c.block) (sym (eqb-true a.block b.block block.0)))
    (ap (λ n. n == c.at) (sym (eqb-true a.at b.at block.1))))

pub any_agrees : {X : Type 0} (p q : X → Bool) → ((x : X) → p x ≡ q x) → (xs : List X) → list_any p xs ≡ list_any q xs
any_agrees p q h [] = refl
any_agrees p q h (x ∷ xs) = ap₂ (λ (a b : Bool). a || b) (h x) (any_agrees p q h xs)

module _ (s : Seen) where
  abbrev at_step : ℕ → Option Stand
  at_step number = before_of (slice_get s.stands number)

  pub places_turned : (a b : Pair) → same_places s a b ≡ same_places s b a
  places_turned a b =
      ap₂ (λ (x y : Bool). x && y) (stand_turned (at_step a.first) (at_step b.first))
      (stand_turned (at_step a.second) (at_step b.second))

  pub places_itself : (a : Pair) → same_places s a a ≡ true
  places_itself a =
      together (same_stand (at_step a.first) (at_step a.first)) (same_stand (at_step a.second) (at_step a.second))
      (stand_itself (at_step a.first)) (stand_itself (at_step a.second))

  pub places_agree : (a b : Pair) → same_places s a b ≡ true → (x : Pair) → same_places s b x ≡ same_places s a x
  places_agree a b e x =
      let each = both (same_stand (at_step a.first) (at_step b.first)) (same_stand (at_step a.second) (at_step b.second)) e in
      ap₂ (λ (x y : Bool). x && y) (stand_agrees (at_step a.first) (at_step b.first) each.0 (at_step x.first))
      (stand_agrees (at_step a.second) (at_step b.second) each.1 (at_step x.second))

  module _ (q : Pair) where
    -- the groups that begin with one of so many races
    abbrev first_groups : ℕ → List Group
    first_groups n = flat_map (numbered_group s) (range_with_len 0 n)

    abbrev mine : List Group → ℕ
    mine gs = length (filter (is_in_group s q) gs)

    -- how many of one group are of the places
    single : (p : Pair) (b : Bool) → same_places s p q ≡ b → mine (group_of s p ∷ []) ≡ cond b 1 0
    single p true e = ap (λ b. length (cond b (group_of s p ∷ []) [])) e
    single p false e = ap (λ b. length (cond b (group_of s p ∷ []) [])) e

    -- what the next race adds
    added : (n : ℕ) (p : Pair) (b c : Bool) → list_any (same_places s q) (take n s.races) ≡ b → same_places s q p ≡ c
        → cond b 1 0 + mine (first_group s n (Some p)) ≡ cond (b || c) 1 0
    added n p true true known here =
        let again : list_any (same_places s p) (take n s.races) ≡ true =
        any_agrees (same_places s p) (same_places s q) (places_agree q p here) (take n s.races) ∙ known in
        ap (λ b. 1 + mine (if b then [] else group_of s p ∷ [])) again
    added n p false true known here =
        let first : list_any (same_places s p) (take n s.races) ≡ false =
        any_agrees (same_places s p) (same_places s q) (places_agree q p here) (take n s.races) ∙ known in
        ap (λ b. 0 + mine (if b then [] else group_of s p ∷ [])) first
        ∙ ap (λ n. 0 + n) (single p true (places_turned p q ∙ here))
    added n p b false known here = by_first (list_any (same_places s p) (take n s.races)) b
      where
        by_first : (d e : Bool) → cond e 1 0 + mine (if d then [] else group_of s p ∷ []) ≡ cond (e || false) 1 0
        by_first true true = refl
        by_first true false = refl
        by_first false true = ap (λ n. 1 + n) (single p false (places_turned p q ∙ here))
        by_first false false = ap (λ n. 0 + n) (single p false (places_turned p q ∙ here))

    -- so many groups are of the places among the first ones
    counted : (n : ℕ) → n ≤ length s.races
        → mine (first_groups n) ≡ cond (list_any (same_places s q) (take n s.races)) 1 0
    counted zero h = refl
    counted (suc n) h =
        let within : n < length s.races = omega arith in
        let next : n + 1 ≡ suc n = omega arith in
        let p = get_or s.races n q in
        let grown : first_groups n ++ numbered_group s n ≡ first_groups (n + 1) =
        appended_next (numbered_group s) [] (first_groups n) 0 n n (omega arith) refl in
        ap (λ k. mine (first_groups k)) (sym next)
        ∙ ap mine (sym grown)
        ∙ ap length (filter-append (is_in_group s q) (first_groups n) (numbered_group s n))
        ∙ length-append (filter (is_in_group s q) (first_groups n)) (filter (is_in_group s q) (numbered_group s n))
        ∙ ap₂ (λ (a b : ℕ). a + b) (counted n (omega arith))
        (ap (λ (o : Option Pair). mine (first_group s n o)) (slice_get-get_or s.races n q within))
        ∙ added n p (list_any (same_places s q) (take n s.races)) (same_places s q p) refl refl
        ∙ ap (λ b. cond b 1 0) (sym (list_any_more (same_places s q) s.races n q within))
        ∙ ap (λ k. cond (list_any (same_places s q) (take k s.races)) 1 0) next

    -- one group is of the places, where a race is of them
    pub groups_at : length (filter (is_in_group s q) (groups s)) ≡ cond (list_any (same_places s q) s.races) 1 0
    groups_at =
        counted (length s.races) (omega arith)
        ∙ ap (λ (xs : List Pair). cond (list_any (same_places s q) xs) 1 0) (take_all (length s.races) s.races (omega arith))

    -- A RACE is of the places of exactly one group
    pub in_one_group : Contains s.races q → length (filter (is_in_group s q) (groups s)) ≡ 1
    in_one_group (k, within, is) =
        let there : same_places s q (get_or s.races k q) ≡ true = ap (same_places s q) is ∙ places_itself q in
        groups_at ∙ ap (λ b. cond b 1 0) (list_any_at (same_places s q) s.races k q within there)
