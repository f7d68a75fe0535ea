-- What a change of one allocation's bytes makes of the memory.
use Rattle.mr_mem.proofs.Common.{◌≡◌, ℕ, Bool, true, false, cond, refl, sym, ap, ◌∙◌, List, Some, Result, Ok, Err, OnErr, option_map, eq_by_cmp, is_eq, Ordering, Less, Equal, Greater, AllocId, AbstractByte, Stored, Allocation, id_cmp, put_at, then_give, IsStored, allocation_of, memory_of}
use Rattle.std.specs.Map.{lookup}
use Rattle.mr_mem.specs.declared.fault.Fault.{Fault}
use Rattle.mr_mem.specs.Stored.{IsStoredIn}
use Rattle.std.specs.FinMap as fin
use Rattle.mr_mem.specs.declared.fault.Fault.TheVariants as fault
use Rattle.mr_mem.proofs.Identities.{id_exact, id_total}
use Rattle.mr_mem.proofs.Views.{get_view, one_changed}

same_identity : (i q : AllocId) → eq_by_cmp id_cmp i q ≡ true → i ≡ q
same_identity i q e = by_order (id_cmp i q) refl e
  where
    by_order : (r : Ordering) → id_cmp i q ≡ r → is_eq r ≡ true → i ≡ q
    by_order Less is h = absurd (cc)
    by_order Equal is h = id_exact i q is
    by_order Greater is h = absurd (cc)

module _ (es fs : List (AllocId × Stored)) (id : AllocId) (a x : Stored) (here : lookup (eq_by_cmp id_cmp id) es ≡ Some a)
    (changed : (q : AllocId) → lookup (eq_by_cmp id_cmp q) fs ≡ cond (eq_by_cmp id_cmp id q) (Some x) (lookup (eq_by_cmp id_cmp q) es)) where
  there : fin.get (memory_of es) id ≡ Some (allocation_of a)
  there = get_view es id ∙ ap (option_map allocation_of) here

  -- what is stored in the allocation is stored in the memory
  pub put_stored : (addr : ℕ) (bytes : List AbstractByte) (result : Result (Unit {0}) Fault)
      → IsStoredIn (allocation_of a) addr bytes (allocation_of x) result → IsStored (put_at (memory_of es) id (fin.get (memory_of es) id) addr bytes) (memory_of fs) result
  put_stored addr bytes (Ok u) h =
      ap (λ o. put_at (memory_of es) id o addr bytes) there
      ∙ ap (λ r. then_give r (fin.insert (memory_of es) id)) h
      ∙ ap (λ m. Ok m) (sym (one_changed es fs id x changed))
  put_stored addr bytes (Err (fault.Undefined r)) h =
      ap (λ o. put_at (memory_of es) id o addr bytes) there ∙ ap (λ s. then_give s (fin.insert (memory_of es) id)) h
  put_stored addr bytes (Err fault.Memory) h = tt

  -- what is at an identity, where the allocation is as before
  at_identity : allocation_of x ≡ allocation_of a → (q : AllocId) (b : Bool) → eq_by_cmp id_cmp id q ≡ b
      → option_map allocation_of (cond b (Some x) (lookup (eq_by_cmp id_cmp q) es)) ≡ option_map allocation_of (lookup (eq_by_cmp id_cmp q) es)
  at_identity same q true e =
      ap (λ (y : Allocation). Some y) same ∙ sym (ap (option_map allocation_of) here)
      ∙ ap (λ (i : AllocId). option_map allocation_of (lookup (eq_by_cmp id_cmp i) es)) (same_identity id q e)
  at_identity same q false e = refl

  -- where the allocation is as before, the memory is
  pub put_nothing : allocation_of x ≡ allocation_of a → memory_of fs ≡ memory_of es
  put_nothing same = fin.same_map id_total id_exact _ _ (λ q.
      get_view fs q ∙ ap (option_map allocation_of) (changed q)
      ∙ at_identity same q (eq_by_cmp id_cmp id q) refl
      ∙ sym (get_view es q))

  pub put_refused : (result : Result (Unit {0}) Fault) → OnErr result (allocation_of x ≡ allocation_of a) → OnErr result (memory_of fs ≡ memory_of es)
  put_refused (Ok u) h = tt
  put_refused (Err e) h = put_nothing h
