-- Each race is of the places of exactly one group.
use Rattle.mr_traced.proofs.Common.{◌≡◌, Bool, true, false, cond, true≢false, List, [], ◌∷◌, length, map, refl, sym, ap, ◌∙◌, All-contains, AllByRecursion, Any, filter, IsStrictlySortedBy, Equal, Less, Pair, Group, Both, AreGroups, both_cmp, both_of, is_at, same_both, Seen}
use Rattle.std.proofs.lemmas.List.Folds.{list_any-from_Any}
use Rattle.std.proofs.lemmas.Map.Keys.{sorted_head, sorted_tail}
use Rattle.std.specs.Cmp.{tied_itself}
use Rattle.std.specs.List.{Contains, list_any}
use Rattle.std.specs.Prelude.{◌||◌}
use Rattle.mr_traced.proofs.GroupLaws.{both_exact, both_total, eq_both, is_equal}

less_equal : Less ≡ Equal → ⊥
less_equal e = cc

not_less : (b : Both) → both_cmp b b ≡ Less → ⊥
not_less b e = less_equal (sym e ∙ tied_itself both_total b)

module _ (s : Seen) (q : Both) where
  abbrev key : Group → Both
  key g = both_of s g.first

  abbrev here : Group → Bool
  here g = same_both (key g) q

  exact : (b : Both) → same_both b q ≡ true → b ≡ q
  exact b e = both_exact b q (is_equal (both_cmp b q) (eq_both b q ∙ e))

  -- behind a group of these places none has them
  none_behind : (b : Both) (gs : List Group) → b ≡ q → AllByRecursion (λ y. both_cmp b y ≡ Less) (map key gs)
      → filter here gs ≡ []
  none_behind b [] same h = refl
  none_behind b (g ∷ gs) same h = by (here g) refl (none_behind b gs same h.1)
    where
      by : (t : Bool) → here g ≡ t → filter here gs ≡ [] → cond t (g ∷ filter here gs) (filter here gs) ≡ []
      by true is later = absurd (not_less b (ap (both_cmp b) (same ∙ sym (exact (key g) is)) ∙ h.0))
      by false is later = later

  one_group : (gs : List Group) → IsStrictlySortedBy both_cmp (map key gs) → list_any here gs ≡ true
      → length (filter here gs) ≡ 1
  one_group [] h e = absurd (true≢false (sym e))
  one_group (g ∷ gs) h e = by (here g) refl e (one_group gs (sorted_tail both_cmp (key g) (map key gs) h))
    where
      by : (t : Bool) → here g ≡ t → (t || list_any here gs) ≡ true
          → (list_any here gs ≡ true → length (filter here gs) ≡ 1)
          → length (cond t (g ∷ filter here gs) (filter here gs)) ≡ 1
      by true is any later =
          ap (λ (xs : List Group). length (g ∷ xs))
          (none_behind (key g) gs (exact (key g) is) (sorted_head both_cmp (key g) (map key gs) h))
      by false is any later = later any

-- A RACE is of the places of exactly one
pub in_one_group : (s : Seen) (groups : List Group) (pair : Pair) → AreGroups s groups → Contains s.races pair
    → length (filter (λ (g : Group). is_at s (both_of s g.first) pair) groups) ≡ 1
in_one_group s groups pair are inside =
    one_group s (both_of s pair) groups are.rising
    (list_any-from_Any (λ (g : Group). is_at s (both_of s g.first) pair) groups
    (All-contains (λ (p : Pair). Any (λ (g : Group). is_at s (both_of s g.first) p ≡ true) groups) s.races pair are.whole
    inside))
