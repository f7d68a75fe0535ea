-- What lists of ranges contain: of all allocations, and with one range more.
use Rattle.mr_exchange.proofs.Common.{◌≡◌, ◌≢◌, refl, sym, ap, ◌∙◌, subst, List, [], ◌∷◌, ◌⊎◌, inl, inr, Bool, true, false, cond, Some, Contains, and_parts, same_Some, AllocId, Allocation, Memory, Range, Ranges, id_cmp, ranges_of, Contains-nil, Contains-one}
use Rattle.std.specs.Prelude.{T}
use Rattle.std.specs.FinMap.Entries.{put, by_order, find, is_sorted, below_all}
use Rattle.std.specs.Cmp.{tied_itself}
use Rattle.std.specs.Ordering.{is_eq, is_lt, ordering_reverse}
use Rattle.std.specs.declared.cmp.Ordering.{Ordering}
use Rattle.std.specs.declared.cmp.Ordering.TheVariants.{Less, Equal, Greater}
use Rattle.mr_mem.specs.Memory.{range_of}
use Rattle.mr_mem.proofs.Identities.{id_exact, id_total, is_less}
use Rattle.std.specs.FinMap as fin
use Rattle.mr_exchange.proofs.ElementTests.{from_map, front_cases, here, in_map, there}

-- ---- one range more

module _ (id : AllocId) (v : Range) where
  pub put_has : (rs : Ranges) → Contains (put id_cmp id v rs) (id, v)
  put_has [] = here (id, v) []
  put_has (e ∷ rs) = by_test (put_has rs) (id_cmp id e.0) refl
    where
      by_test : Contains (put id_cmp id v rs) (id, v) → (o : Ordering) → id_cmp id e.0 ≡ o
          → Contains (by_order o ((id, v) ∷ e ∷ rs) ((e.0, v) ∷ rs) (e ∷ put id_cmp id v rs)) (id, v)
      by_test more Less p = here (id, v) (e ∷ rs)
      by_test more Equal p = subst (λ (i : AllocId). Contains ((i, v) ∷ rs) (id, v)) (id_exact id e.0 p) (here (id, v) rs)
      by_test more Greater p = there e (put id_cmp id v rs) (id, v) more

  pub put_keeps : (rs : Ranges) (x : AllocId × Range) → x.0 ≢ id → Contains rs x → Contains (put id_cmp id v rs) x
  put_keeps [] x n h = absurd (Contains-nil x h)
  put_keeps (e ∷ rs) x n h = by_test (put_keeps rs x n) (id_cmp id e.0) refl (front_cases e rs x h)
    where
      by_test : (Contains rs x → Contains (put id_cmp id v rs) x) → (o : Ordering) → id_cmp id e.0 ≡ o → (e ≡ x) ⊎ Contains rs x
          → Contains (by_order o ((id, v) ∷ e ∷ rs) ((e.0, v) ∷ rs) (e ∷ put id_cmp id v rs)) x
      by_test more Less p c = there (id, v) (e ∷ rs) x h
      by_test more Equal p (inl k) = absurd (n (ap (λ (w : AllocId × Range). w.0) (sym k) ∙ sym (id_exact id e.0 p)))
      by_test more Equal p (inr k) = there (e.0, v) rs x k
      by_test more Greater p (inl k) = subst (Contains (e ∷ put id_cmp id v rs)) k (here e (put id_cmp id v rs))
      by_test more Greater p (inr k) = there e (put id_cmp id v rs) x (more k)

  pub put_from : (rs : Ranges) (x : AllocId × Range) → Contains (put id_cmp id v rs) x → (x ≡ (id, v)) ⊎ Contains rs x
  put_from [] x h = inl (sym (Contains-one (id, v) x h))
  put_from (e ∷ rs) x h = by_test (put_from rs x) (id_cmp id e.0) refl h
    where
      by_test : (Contains (put id_cmp id v rs) x → (x ≡ (id, v)) ⊎ Contains rs x) → (o : Ordering) → id_cmp id e.0 ≡ o
          → Contains (by_order o ((id, v) ∷ e ∷ rs) ((e.0, v) ∷ rs) (e ∷ put id_cmp id v rs)) x → (x ≡ (id, v)) ⊎ Contains (e ∷ rs) x
      by_test more Less p c = elim (front_cases (id, v) (e ∷ rs) x c) [ inl k ↦ inl (sym k) | inr k ↦ inr k ]
      by_test more Equal p c =
          elim (front_cases (e.0, v) rs x c) [
            | inl k ↦ inl (sym k ∙ ap (λ (i : AllocId). (i, v)) (sym (id_exact id e.0 p)))
            | inr k ↦ inr (there e rs x k)
          ]
      by_test more Greater p c =
          elim (front_cases e (put id_cmp id v rs) x c) [
            | inl k ↦ inr (subst (Contains (e ∷ rs)) k (here e rs))
            | inr k ↦ elim (more k) [ inl m ↦ inl m | inr m ↦ inr (there e rs x m) ]
          ]

-- ---- the ranges of a memory

test_true : (b : Bool) → T b → b ≡ true
test_true true h = refl
test_true false h = absurd h

below_each : (id : AllocId) (es : List (AllocId × Allocation)) → below_all id_cmp id es ≡ true → (x : AllocId × Allocation) → Contains es x → id_cmp id x.0 ≡ Less
below_each id [] h x c = absurd (Contains-nil x c)
below_each id (e ∷ es) h x c =
    let p = and_parts (is_lt (id_cmp id e.0)) (below_all id_cmp id es) h in
    elim (front_cases e es x c) [
      | inl k ↦ subst (λ (w : AllocId × Allocation). id_cmp id w.0 ≡ Less) k (is_less (id_cmp id e.0) p.0)
      | inr k ↦ below_each id es p.1 x k
    ]

-- the entry of an identity is found
found_entry : (es : List (AllocId × Allocation)) → is_sorted id_cmp es ≡ true → (x : AllocId × Allocation) → Contains es x → find id_cmp x.0 es ≡ Some x.1
found_entry [] h x c = absurd (Contains-nil x c)
found_entry (e ∷ es) h x c =
    let p = and_parts (below_all id_cmp e.0 es) (is_sorted id_cmp es) h in
    elim (front_cases e es x c) [
      | inl k ↦ subst (λ (w : AllocId × Allocation). find id_cmp w.0 (e ∷ es) ≡ Some w.1) k (ap (λ o. cond (is_eq o) (Some e.1) (find id_cmp e.0 es)) (tied_itself id_total e.0))
      | inr k ↦
          let greater : id_cmp x.0 e.0 ≡ Greater = id_total.antisymm x.0 e.0 ∙ ap ordering_reverse (below_each e.0 es p.0 x k) in
          ap (λ o. cond (is_eq o) (Some e.1) (find id_cmp x.0 es)) greater ∙ found_entry es p.1 x k
    ]

-- what is found is an entry
entry_found : (es : List (AllocId × Allocation)) (id : AllocId) (a : Allocation) → find id_cmp id es ≡ Some a → Contains es (id, a)
entry_found [] id a h = absurd (cc)
entry_found (e ∷ es) id a h = by_test (entry_found es id a) (id_cmp id e.0) refl h
  where
    by_test : (find id_cmp id es ≡ Some a → Contains es (id, a)) → (o : Ordering) → id_cmp id e.0 ≡ o → cond (is_eq o) (Some e.1) (find id_cmp id es) ≡ Some a → Contains (e ∷ es) (id, a)
    by_test more Less p k = there e es (id, a) (more k)
    by_test more Equal p k =
        let same : e ≡ (id, a) = λ i. (sym (id_exact id e.0 p) i, same_Some e.1 a k i) in
        subst (Contains (e ∷ es)) same (here e es)
    by_test more Greater p k = there e es (id, a) (more k)

-- each allocation has its range among those of the memory
pub range_there : (m : Memory) (id : AllocId) (a : Allocation) → fin.get m id ≡ Some a → Contains (ranges_of m) (range_of (id, a))
unfolding ranges_of
range_there m id a h = in_map range_of (fin.entries m) (id, a) (entry_found (fin.entries m) id a (sym (fin.get-entries m id) ∙ h))

-- each range of the memory is an allocation's
pub range_from : (m : Memory) (id : AllocId) (q : Range) → Contains (ranges_of m) (id, q) → (a : Allocation) × (fin.get m id ≡ Some a) × (a.addr ≡ q.addr) × (a.span ≡ q.size)
unfolding ranges_of
range_from m id q h =
    let r = from_map range_of (fin.entries m) (id, q) h in
    let same : r.0.0 ≡ id = ap (λ (w : AllocId × Range). w.0) r.2 in
    let is = fin.get-entries m r.0.0 ∙ found_entry (fin.entries m) (test_true _ (fin.entries_sorted m)) r.0 r.1 in (
      r.0.1,
      ap (fin.get m) (sym same) ∙ is,
      ap (λ (w : AllocId × Range). w.1.addr) r.2,
      ap (λ (w : AllocId × Range). w.1.size) r.2,
    )
