-- The map that the code counts in is that of the definition.
use Rattle.mr_traced.proofs.Common.{◌≡◌, Bool, true, false, cond, List, [], ◌∷◌, map, refl, sym, ap, ◌∙◌, subst, none-some, BTreeMap, IsOrdered, get, AllByRecursion, find, IsStrictlySortedBy, values_of, ◌&&◌, count_by, Option, None, Some, Less, Pair, Group, Both, both_cmp, both_of, group_at, grouped, is_at, Seen}
use Rattle.std.proofs.Common.{T}
use Rattle.std.proofs.lemmas.Map.Keys.{sorted_head, sorted_tail}
use Rattle.std.specs.FinMap.Entries.{below_all, is_sorted, same_entries}
use Rattle.std.specs.Map.{keys_of, lookup}
use Rattle.std.specs.Ordering.{is_eq, is_lt}
use Rattle.std.specs.declared.cmp.Ordering.{Ordering}
use Rattle.mr_traced.specs.Groups.{first_or, group_of, groups, placed}
use Rattle.std.specs.FinMap as fin
use Rattle.mr_traced.proofs.CountLaws.{group}
use Rattle.mr_traced.proofs.GroupLaws.{both_exact, both_total, eq_both, is_equal}

-- ---- entries in order

both_true : (a b : Bool) → T a → T b → T (a && b)
both_true true b h k = k
both_true false b h k = absurd h

below_is : (x : Both) (es : List (Both × Group)) → AllByRecursion (λ y. both_cmp x y ≡ Less) (keys_of es)
    → T (below_all both_cmp x es)
below_is x [] h = tt
below_is x (e ∷ es) h =
    both_true (is_lt (both_cmp x e.0)) (below_all both_cmp x es) (subst (λ (r : Ordering). T (is_lt r)) (sym h.0) tt)
    (below_is x es h.1)

sorted_is : (es : List (Both × Group)) → IsStrictlySortedBy both_cmp (keys_of es) → T (is_sorted both_cmp es)
sorted_is [] h = tt
sorted_is (e ∷ es) h =
    both_true (below_all both_cmp e.0 es) (is_sorted both_cmp es)
    (below_is e.0 es (sorted_head both_cmp e.0 (keys_of es) h))
    (sorted_is es (sorted_tail both_cmp e.0 (keys_of es) h))

found_up : (es : List (Both × Group)) (q : Both) → fin.find both_cmp q es ≡ lookup (λ k. is_eq (both_cmp q k)) es
found_up [] q = refl
found_up (e ∷ es) q = ap (cond (is_eq (both_cmp q e.0)) (Some e.1)) (found_up es q)

-- ---- what is placed

module _ (s : Seen) (q : Both) where
  abbrev test : Pair → Bool
  test = is_at s q

  abbrev among : List Pair → Option Group
  among rs = fin.find both_cmp q (map (placed s) rs)

  -- whether a race is placed there
  at_first : (p : Pair) (rs : List Pair) (b : Bool) → test p ≡ b
      → among (p ∷ rs) ≡ cond b (Some (group_of s p)) (among rs)
  at_first p rs b is =
      ap (λ (c : Bool). cond c (Some (group_of s p)) (among rs)) (eq_both q (both_of s p) ∙ is)

  missed_in : (rs : List Pair) → find test rs ≡ None → among rs ≡ None
  missed_in [] e = refl
  missed_in (p ∷ rs) e = by (test p) refl e (missed_in rs)
    where
      by : (b : Bool) → test p ≡ b → cond b (Some p) (find test rs) ≡ None → (find test rs ≡ None → among rs ≡ None)
          → among (p ∷ rs) ≡ None
      by true is none later = absurd (none-some p (sym none))
      by false is none later = at_first p rs false is ∙ later none

  -- the group with another race for want of a first one
  abbrev group_by : Pair → Both → Group
  group_by p b = record { first = first_or p (find (is_at s b) s.races); count = count_by (is_at s b) s.races }

  same_place : (p : Pair) → test p ≡ true → q ≡ both_of s p
  same_place p is = both_exact q (both_of s p) (is_equal (both_cmp q (both_of s p)) (eq_both q (both_of s p) ∙ is))

  found_in : (x : Pair) → find test s.races ≡ Some x → (rs : List Pair) (y : Pair) → find test rs ≡ Some y
      → among rs ≡ Some (group x (count_by test s.races))
  found_in x all [] y e = absurd (none-some y e)
  found_in x all (p ∷ rs) y e = by (test p) refl e (found_in x all rs y)
    where
      by : (b : Bool) → test p ≡ b → cond b (Some p) (find test rs) ≡ Some y
          → (find test rs ≡ Some y → among rs ≡ Some (group x (count_by test s.races)))
          → among (p ∷ rs) ≡ Some (group x (count_by test s.races))
      by true is some later =
          at_first p rs true is
          ∙ ap (λ (b : Both). Some (group_by p b)) (sym (same_place p is))
          ∙ ap (λ (o : Option Pair). Some (group (first_or p o) (count_by test s.races))) all
      by false is some later = at_first p rs false is ∙ later some

  placed_there : among s.races ≡ group_at s q s.races
  placed_there = by (find test s.races) refl
    where
      by : (o : Option Pair) → find test s.races ≡ o → among s.races ≡ grouped test s.races o
      by None e = missed_in s.races e
      by (Some x) e = found_in x e s.races x e

-- THE GROUPS of the map are all groups
pub groups_are : (s : Seen) (m : BTreeMap Both Group) (gs : List Group)
    → ((q : Both) → get both_cmp m q ≡ group_at s q s.races) → IsOrdered both_cmp m → gs ≡ values_of m.entries
    → gs ≡ groups s
groups_are s m gs counted order values =
    let all = fin.from_entries {R = both_cmp} (map (placed s) s.races) in
    values
    ∙ ap (map (λ (e : Both × Group). e.1))
    (same_entries both_cmp both_total both_exact m.entries (fin.entries all) (sorted_is m.entries order)
    (fin.entries_sorted all)
    (λ q.
    found_up m.entries q ∙ counted q ∙ sym (placed_there s q)
    ∙ sym (fin.get-from_entries both_total (map (placed s) s.races) q) ∙ fin.get-entries all q))
