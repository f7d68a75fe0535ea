-- Identities are in a total order, and those that compare alike are one.
use Rattle.mr_mem.proofs.Common.{◌≡◌, ◌≢◌, refl, sym, ap, ◌∙◌, cond, true, false, true≢false, Some, nat_cmp, is_eq, is_lt, Ordering, Less, Equal, Greater, nat_cmp_total, tied_itself, AllocId, id_cmp, Memory, Allocation}
use Rattle.std.proofs.lemmas.List.MinMax.{ranks_by}
use Rattle.std.specs.Ordering.{ordering_then, ordering_reverse}
use Rattle.std.specs.Cmp.{IsStrictWeakOrder, IsTotalOrder, on_total, then_total}
use Rattle.std.specs.FinMap as map

pub id_total : IsTotalOrder id_cmp
id_total = then_total (on_total (λ (i : AllocId). i.thread) nat_cmp_total) (on_total (λ (i : AllocId). i.count) nat_cmp_total)

then_equal : (a b : Ordering) → ordering_then a b ≡ Equal → (a ≡ Equal) × (b ≡ Equal)
then_equal Less b e = cc
then_equal Equal b e = (refl, e)
then_equal Greater b e = cc

pub id_exact : map.IsAntisymmetric id_cmp
id_exact x y e =
    let t = then_equal (nat_cmp x.thread y.thread) (nat_cmp x.count y.count) e in
    let a : x.thread ≡ y.thread = map.nat_cmp-IsAntisymmetric x.thread y.thread t.0 in
    let b : x.count ≡ y.count = map.nat_cmp-IsAntisymmetric x.count y.count t.1 in
    λ i. record { thread = a i; count = b i }

-- ---- which identity is less

pub id_rank : IsStrictWeakOrder (λ (x y : AllocId). is_lt (id_cmp x y))
id_rank = ranks_by id_total (λ (i : AllocId). i)

pub not_less : (x : AllocId) → is_lt (id_cmp x x) ≡ false
not_less x = ap is_lt (tied_itself id_total x)

pub is_less : (r : Ordering) → is_lt r ≡ true → r ≡ Less
is_less Less p = refl
is_less Equal p = cc
is_less Greater p = cc

pub turned_round : (x y : AllocId) → id_cmp x y ≡ Less → id_cmp y x ≡ Greater
turned_round x y e = id_total.antisymm y x ∙ ap ordering_reverse e

-- two of which neither is less are one
pub none_less : (x y : AllocId) → is_lt (id_cmp x y) ≡ false → is_lt (id_cmp y x) ≡ false → x ≡ y
none_less x y h k = by_order (id_cmp x y) refl h
  where
    by_order : (r : Ordering) → id_cmp x y ≡ r → is_lt r ≡ false → x ≡ y
    by_order Less is n = absurd (true≢false n)
    by_order Equal is n = id_exact x y is
    by_order Greater is n = absurd (true≢false (sym (ap is_lt (id_total.antisymm y x ∙ ap ordering_reverse is)) ∙ k))

module _ (m : Memory) (k : AllocId) (v : Allocation) where
  pub get_here : map.get (map.insert m k v) k ≡ Some v
  get_here = map.get-insert id_total m k v k ∙ ap (λ r. cond (is_eq r) (Some v) (map.get m k)) (tied_itself id_total k)

  by_test : (q : AllocId) (r : Ordering) → id_cmp q k ≡ r → q ≢ k → cond (is_eq r) (Some v) (map.get m q) ≡ map.get m q
  by_test q Less e n = refl
  by_test q Equal e n = absurd (n (id_exact q k e))
  by_test q Greater e n = refl

  -- another identity has what it had
  pub get_there : (q : AllocId) → q ≢ k → map.get (map.insert m k v) q ≡ map.get m q
  get_there q n = map.get-insert id_total m k v q ∙ by_test q (id_cmp q k) refl n
