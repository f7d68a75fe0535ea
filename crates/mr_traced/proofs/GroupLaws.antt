-- The groups that the code counts are those of the definition.
use Rattle.mr_traced.proofs.Common.{◌≡◌, ℕ, arith, Contains, ◌+◌, ◌<◌, ◌≤◌, Bool, true, cond, List, [], ◌∷◌, ◌++◌, length, get_or, take, map, refl, sym, ap, ap₂, ◌∙◌, subst, All-map, none-some, same_Some, BTreeMap, IsOrdered, get, Any, find, IsStrictlySortedBy, values_of, ◌&&◌, All, count_by, IfSome, Option, None, Some, slice_get, Equal, Less, Pair, Group, Both, AreGroups, both_cmp, both_of, group_at, grouped, is_at, raised, same_both, Seen}
use Rattle.std.proofs.Common.{suc, option_map}
use Rattle.std.proofs.lemmas.List.{take_more}
use Rattle.std.proofs.lemmas.List.Elements.{Contains-get_or}
use Rattle.std.proofs.lemmas.Simd.{map-map}
use Rattle.std.proofs.lemmas.Map.Entries.{place_from_lookup}
use Rattle.std.proofs.lemmas.Option.{get_or_from_slice_get, slice_get-map, slice_get_within}
use Rattle.std.specs.Cmp.{IsTotalOrder, eq_by_cmp_equiv, nat_cmp_total, on_total, then_total, tied_itself}
use Rattle.std.specs.Ordering.{is_eq, nat_cmp, ordering_then}
use Rattle.std.specs.declared.cmp.Ordering.{Ordering}
use Rattle.std.specs.declared.cmp.Ordering.TheVariants.{Greater}
use Rattle.mr_listing.proofs.AlikeLaws.{eq_numbers, eq_then}
use Rattle.std.specs.FinMap as fin
use Rattle.mr_traced.proofs.CountLaws.{few_grouped, found_passes, group, grouped_more, not_missed}

-- ---- the order of places

pub both_total : IsTotalOrder both_cmp
both_total =
    then_total (on_total (λ (b : Both). b.first) nat_cmp_total) (on_total (λ (b : Both). b.second) nat_cmp_total)

then_equal : (a b : Ordering) → ordering_then a b ≡ Equal → (a ≡ Equal) × (b ≡ Equal)
then_equal Less b e = cc
then_equal Equal b e = (refl, e)
then_equal Greater b e = cc

-- places that compare alike are the same
pub both_exact : (x y : Both) → both_cmp x y ≡ Equal → x ≡ y
both_exact x y e =
    let t = then_equal (nat_cmp x.first y.first) (nat_cmp x.second y.second) e in
    let a : x.first ≡ y.first = fin.nat_cmp-IsAntisymmetric x.first y.first t.0 in
    let b : x.second ≡ y.second = fin.nat_cmp-IsAntisymmetric x.second y.second t.1 in
    λ i. record { first = a i; second = b i }

-- they tie where their numbers are the same
pub eq_both : (a b : Both) → is_eq (both_cmp a b) ≡ same_both a b
eq_both a b =
    eq_then (nat_cmp a.first b.first) (nat_cmp a.second b.second)
    ∙ ap₂ (λ (x y : Bool). x && y) (eq_numbers a.first b.first) (eq_numbers a.second b.second)

both_itself : (b : Both) → same_both b b ≡ true
both_itself b = sym (eq_both b b) ∙ ap is_eq (tied_itself both_total b)

pub is_equal : (r : Ordering) → is_eq r ≡ true → r ≡ Equal
is_equal Less e = cc
is_equal Equal e = refl
is_equal Greater e = cc

-- ---- lists

-- two maps of a list whose elements they take to the same
maps_agree : {X Y : Type 0} (f g : X → Y) (xs : List X) → All (λ x. f x ≡ g x) xs → map f xs ≡ map g xs
maps_agree f g [] h = refl
maps_agree f g (x ∷ xs) h =
    ap₂ (λ y ys. y ∷ ys) (h 0 x (omega arith)) (maps_agree f g xs (λ k d l. h (suc k) d (omega arith)))

module _ (s : Seen) where
  -- places that are the same have the same groups
  same_group : (q here : Both) (rs : List Pair) (p : Pair) (r : Ordering) → both_cmp here q ≡ r
      → cond (is_eq r) (Some (raised (group_at s q rs) p)) (group_at s q rs)
      ≡ cond (is_eq r) (Some (raised (group_at s here rs) p)) (group_at s q rs)
  same_group q here rs p Less e = refl
  same_group q here rs p Equal e = ap (λ x. Some (raised (group_at s x rs) p)) (sym (both_exact here q e))
  same_group q here rs p Greater e = refl

  -- ONE RACE MORE, counted under its places
  pub one_more : (q : Both) (rs : List Pair) (p : Pair)
      → group_at s q (rs ++ p ∷ [])
      ≡ cond (is_eq (both_cmp (both_of s p) q)) (Some (raised (group_at s (both_of s p) rs) p)) (group_at s q rs)
  one_more q rs p =
      grouped_more (is_at s q) rs p
      ∙ ap (λ b. cond b (Some (raised (group_at s q rs) p)) (group_at s q rs))
      (sym (eq_both q (both_of s p)) ∙ (eq_by_cmp_equiv both_total).symm q (both_of s p))
      ∙ same_group q (both_of s p) rs p (both_cmp (both_of s p) q) refl

  -- the same of the next of a list
  pub next_counted : (old new : Both → Option Group) (rs : List Pair) (i : ℕ) (d : Pair) (here : Both) → i < length rs
      → here ≡ both_of s (get_or rs i d) → ((q : Both) → old q ≡ group_at s q (take i rs))
      → ((q : Both) → new q ≡ cond (is_eq (both_cmp here q)) (Some (raised (old here) (get_or rs i d))) (old q))
      → (q : Both) → new q ≡ group_at s q (take (i + 1) rs)
  next_counted old new rs i d here inside at before now q =
      let p = get_or rs i d in
      now q
      ∙ ap₂ (λ (g h : Option Group). cond (is_eq (both_cmp here q)) (Some (raised g p)) h) (before here) (before q)
      ∙ ap
      (λ (b : Both). cond (is_eq (both_cmp b q)) (Some (raised (group_at s b (take i rs)) p)) (group_at s q (take i rs)))
      at
      ∙ sym (one_more q (take i rs) p)
      ∙ ap (group_at s q) (sym (take_more rs i d inside))

  -- what is counted so far is no more than there is
  pub few_so_far : (q : Both) (rs : List Pair) → IfSome (group_at s q rs) (λ g. g.count ≤ length rs)
  few_so_far q rs = few_grouped (is_at s q) rs (find (is_at s q) rs)

  -- a group is that of the places of its first race
  first_is : (q : Both) (rs : List Pair) (g : Group) → group_at s q rs ≡ Some g → q ≡ both_of s g.first
  first_is q rs g e = by (find (is_at s q) rs) refl e
    where
      by : (o : Option Pair) → find (is_at s q) rs ≡ o → grouped (is_at s q) rs o ≡ Some g → q ≡ both_of s g.first
      by None found is = absurd (none-some g is)
      by (Some x) found is =
          let passes : is_at s q x ≡ true = found_passes (is_at s q) rs x found in
          both_exact q (both_of s x) (is_equal (both_cmp q (both_of s x)) (eq_both q (both_of s x) ∙ passes))
          ∙ ap (λ (g : Group). both_of s g.first) (same_Some (group x (count_by (is_at s q) rs)) g is)

  -- a race is in the group of its places
  has_group : (rs : List Pair) (p : Pair) → Contains rs p → (g : Group) × (group_at s (both_of s p) rs ≡ Some g)
  has_group rs p inside = by (find (is_at s (both_of s p)) rs) refl
    where
      by : (o : Option Pair) → find (is_at s (both_of s p)) rs ≡ o
          → (g : Group) × (grouped (is_at s (both_of s p)) rs o ≡ Some g)
      by None found =
          absurd (not_missed (is_at s (both_of s p)) rs p inside (both_itself (both_of s p)) found)
      by (Some x) found = (group x (count_by (is_at s (both_of s p)) rs), refl)

  module _ (m : BTreeMap Both Group) (gs : List Group) (counted : (q : Both) → get both_cmp m q ≡ group_at s q s.races)
      (found : All (λ (e : Both × Group). get both_cmp m e.0 ≡ Some e.1) m.entries) (order : IsOrdered both_cmp m)
      (values : gs ≡ values_of m.entries) where
    abbrev at_key : Both × Group → Type 0
    at_key e = e.0 ≡ both_of s e.1.first

    keys_are : All at_key m.entries
    keys_are k d l =
        let e = get_or m.entries k d in
        first_is e.0 s.races e.1 (sym (counted e.0) ∙ found k d l)

    entries_right : All (λ (e : Both × Group). group_at s (both_of s e.1.first) s.races ≡ Some e.1) m.entries
    entries_right k d l =
        let e = get_or m.entries k d in
        ap (λ q. group_at s q s.races) (sym (keys_are k d l)) ∙ sym (counted e.0) ∙ found k d l

    -- THE GROUPS of the map are those of the definition
    pub are_groups : AreGroups s gs
    are_groups = record {
      right = subst (All (λ (g : Group). group_at s (both_of s g.first) s.races ≡ Some g)) (sym values)
          (All-map (λ (g : Group). group_at s (both_of s g.first) s.races ≡ Some g)
          (λ (e : Both × Group). e.1) m.entries entries_right);
      rising = subst (IsStrictlySortedBy both_cmp)
          (maps_agree (λ (e : Both × Group). e.0) (λ (e : Both × Group). both_of s e.1.first) m.entries keys_are
          ∙ sym (map-map (λ (g : Group). both_of s g.first) (λ (e : Both × Group). e.1) m.entries)
          ∙ ap (map (λ (g : Group). both_of s g.first)) (sym values))
          order;
      whole = λ i d l. of_one (get_or s.races i d) (Contains-get_or s.races i d l);
    }
      where
        of_one : (p : Pair) → Contains s.races p → Any (λ (g : Group). is_at s (both_of s g.first) p ≡ true) gs
        of_one p inside =
            let here = has_group s.races p inside in
            let g = here.0 in
            let place =
            place_from_lookup (λ k. is_eq (both_cmp (both_of s p) k)) m.entries g (counted (both_of s p) ∙ here.1) in
            let there : slice_get gs place.0 ≡ Some g =
            ap (λ (xs : List Group). slice_get xs place.0) values
            ∙ slice_get-map (λ (e : Both × Group). e.1) m.entries place.0
            ∙ ap (option_map (λ (e : Both × Group). e.1)) place.2 in (
              place.0,
              g,
              slice_get_within gs place.0 g there,
              get_or_from_slice_get gs place.0 g g there,
              ap (λ q. same_both q (both_of s p)) (sym (first_is (both_of s p) s.races g here.1))
                  ∙ both_itself (both_of s p),
            )

-- ---- how many a group has

-- none has more races than there are
pub few_groups : (s : Seen) (gs : List Group) → AreGroups s gs → All (λ (g : Group). g.count ≤ length s.races) gs
few_groups s gs are k d l =
    let g = get_or gs k d in
    few_of (group_at s (both_of s g.first) s.races) g (are.right k d l) (few_so_far s (both_of s g.first) s.races)
  where
    few_of : (o : Option Group) (g : Group) → o ≡ Some g → IfSome o (λ (g : Group). g.count ≤ length s.races)
        → g.count ≤ length s.races
    few_of None g is few = absurd (none-some g is)
    few_of (Some h) g is few = subst (λ (g : Group). g.count ≤ length s.races) (same_Some h g is) few
