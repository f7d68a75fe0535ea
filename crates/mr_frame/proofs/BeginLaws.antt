-- The start of a function, part by part.
use Rattle.mr_frame.proofs.Common.{◌≡◌, ℕ, ◌+◌, refl, ap, ◌∙◌, subst, arith, true, List, [], ◌∷◌, ◌++◌, Option, None, Some, if◌then◌else◌, Stop, Function, Ty, AllocId, Pointer, align_of, size_of, allocated, fresh, pick_fault, range_fault, ranges_of, get_there, Val, Broken, Done, IllFormed, Outcome, Refused, Went, on, run, begins_regular, Allocate, memory_answer, next_id, World, picks_fault, on_then, CanAllocate, allocated_each, stored_each, allocate_each, behind_first, enter_at, enter_with, first_frame, kept_types, storage_asks, store_each, store, entered, stored_in}
use Rattle.mr_mem.specs.Memory.{with_range}
use Rattle.mr_mem.specs.declared.fault.PickFault.{PickFault}
use Rattle.mr_mem.specs.declared.fault.PickFault.TheVariants.{BadAddress, Reused}
use Rattle.mr_mem.proofs.RangeLaws.{ranges-allocated}
use Rattle.mr_plan.specs.Legal.{address_fault, else_fault}
use Rattle.mr_plan.proofs.LegalLaws.{no_faults}
use Rattle.mr_frame.specs.Standing.{IsUncounted}
use Rattle.std.specs.FinMap as fin
use Rattle.mr_base.specs.declared.byte.Kind.TheVariants.{Stack as OnStack}
use Rattle.mr_frame.proofs.ActedLaws.{memory_bind, on_same}

-- ---- one allocation after another

no_address_fault : (o : Option PickFault) → address_fault o ≡ None → o ≡ None
no_address_fault None e = refl
no_address_fault (Some BadAddress) e = absurd (cc)
no_address_fault (Some (Reused id)) e = absurd (cc)

module _ (t : Ty) (types : List Ty) (a : ℕ) (picks : List ℕ) (w : World) (can : CanAllocate (t ∷ types) (a ∷ picks) w) where
  faults : (address_fault (range_fault (ranges_of w.0) a (size_of t) (align_of t)) ≡ None)
      × (picks_fault [] (with_range (ranges_of w.0) (record { thread = w.1.thread; count = w.1.count }) a (size_of t)) w.1.thread (w.1.count + 1) (storage_asks types) picks ≡ None)
  faults = no_faults (address_fault (range_fault (ranges_of w.0) a (size_of t) (align_of t))) _ can.lawful

  pub first_lawful : pick_fault w.0 a (size_of t) (align_of t) ≡ None
  first_lawful = no_address_fault (range_fault (ranges_of w.0) a (size_of t) (align_of t)) faults.0

  pub first_new : fin.get w.0 (next_id w.1) ≡ None
  first_new = can.uncounted (next_id w.1) refl (omega arith)

  pub first_can : CanAllocate (t ∷ []) (a ∷ []) w
  first_can = record {
    lawful = ap (λ o. else_fault (address_fault o) None) first_lawful;
    uncounted = can.uncounted;
    room = (let r = can.room in omega arith);
  }

  -- the world behind it
  abbrev behind : World
  behind = (allocated w.0 (next_id w.1) OnStack (size_of t) (align_of t) a, record w.1 { made = w.1.made ++ next_id w.1 ∷ []; ranges = w.1.ranges ++ (a, size_of t) ∷ []; count = w.1.count + 1 })

  still_uncounted : IsUncounted behind.0 behind.1.thread behind.1.count
  still_uncounted id same above =
      get_there w.0 (next_id w.1) (fresh OnStack (size_of t) (align_of t) a) id (λ e. let n : id.count ≡ w.1.count = ap (λ (i : AllocId). i.count) e in absurd (omega arith))
      ∙ can.uncounted id same (omega arith)

  can_behind : CanAllocate types picks behind
  can_behind = record {
    lawful = ap (λ rs. picks_fault [] rs w.1.thread (w.1.count + 1) (storage_asks types) picks) (ranges-allocated w.0 (next_id w.1) OnStack (size_of t) (align_of t) a) ∙ faults.1;
    uncounted = still_uncounted;
    room = (let r = can.room in omega arith);
  }

  -- what is left can be allocated
  pub rest_can : (p : Pointer) (v : World) → memory_answer (Allocate OnStack (size_of t) (align_of t) a) w ≡ Went p v → CanAllocate types picks v
  rest_can p v e = subst (CanAllocate types picks) (ap world_in e) can_behind
    where
      world_in : Outcome Pointer World → World
      world_in (Went q u) = u
      world_in (Refused r) = behind
      world_in Broken = behind

  -- and is, behind what was
  pub next_allocated : (p : Pointer) (v : World) → memory_answer (Allocate OnStack (size_of t) (align_of t) a) w ≡ Went p v
      → allocated_each (t ∷ types) (a ∷ picks) w ≡ on (allocated_each types picks v) (λ ps u. Went (p ∷ ps) u)
  unfolding allocated_each
  next_allocated p v e =
      on_same (memory_answer (Allocate OnStack (size_of t) (align_of t) a) w) _ _ (λ q u. memory_bind (allocate_each types picks) (λ ps. Done (q ∷ ps)) u)
      ∙ ap (λ (o : Outcome Pointer World). on o (λ q u. on (run memory_answer (allocate_each types picks) u) (λ ps x. Went (q ∷ ps) x))) e

-- nothing more
pub none_allocated : (w : World) → allocated_each [] [] w ≡ Went [] w
unfolding allocated_each
none_allocated w = refl

-- pointers that were there before
pub allocated_behind : (o : Outcome (List Pointer) World) (done : List Pointer) (p : Pointer) → on (on o (λ ps u. Went (p ∷ ps) u)) (λ ps u. Went (done ++ ps) u) ≡ on o (λ ps u. Went (done ++ p ∷ ps) u)
allocated_behind o done p = on_then o (λ ps u. Went (p ∷ ps) u) (λ ps u. Went (done ++ ps) u)

-- ---- one store after another

pub next_stored : (t : Ty) (types : List Ty) (p : Pointer) (ps : List Pointer) (v : Val) (vs : List Val) (w u : World) → stored_in t p v w ≡ Went tt u → stored_each (t ∷ types) (p ∷ ps) (v ∷ vs) w ≡ stored_each types ps vs u
unfolding stored_each stored_in
next_stored t types p ps v vs w u e =
    memory_bind (store t p v) (λ _. store_each types ps vs) w
    ∙ ap (λ (o : Outcome (Unit {0}) World). on o (λ _ x. run memory_answer (store_each types ps vs) x)) e

pub stop_stored : (t : Ty) (types : List Ty) (p : Pointer) (ps : List Pointer) (v : Val) (vs : List Val) (w : World) (r : Stop) → stored_in t p v w ≡ Refused r → stored_each (t ∷ types) (p ∷ ps) (v ∷ vs) w ≡ Refused r
unfolding stored_each stored_in
stop_stored t types p ps v vs w r e =
    memory_bind (store t p v) (λ _. store_each types ps vs) w
    ∙ ap (λ (o : Outcome (Unit {0}) World). on o (λ _ x. run memory_answer (store_each types ps vs) x)) e

pub none_stored : (w : World) → stored_each [] [] [] w ≡ Went tt w
unfolding stored_each
none_stored w = refl

-- ---- the whole

pub entered_is : (number : ℕ) (fn : Function) (types : List Ty) (vs : List Val) (picks : List ℕ) (w : World) → kept_types fn ≡ Some types → begins_regular fn.blocks ≡ true
    → entered number (Some fn) vs picks w ≡ on (allocated_each types picks w) (λ ps u. on (stored_each (behind_first types) (behind_first ps) vs u) (λ _ v. Went (first_frame number fn ps) v))
unfolding entered allocated_each stored_each
entered_is number fn types vs picks w typed regular =
    ap (λ o. run memory_answer (enter_at number fn o vs picks) w) typed
    ∙ ap (λ b. run memory_answer (if b then enter_with number fn types vs picks else IllFormed) w) regular
    ∙ memory_bind (allocate_each types picks) _ w
    ∙ on_same (run memory_answer (allocate_each types picks) w) _ _ (λ ps u. memory_bind (store_each (behind_first types) (behind_first ps) vs) _ u)
