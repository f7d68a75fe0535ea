-- The state behind a legal start line keeps the machine's limits.
use Rattle.mr_start.proofs.Common.{◌≡◌, ℕ, ◌+◌, ◌≤◌, ◌^◌, refl, sym, ap, ◌∙◌, subst, inl, inr, List, [], ◌∷◌, length, map, arith, Bool, true, false, not, Option, None, Some, Ok, Err, ltb-false, or_parts, same_Some, ◌==◌, ◌||◌, nat_lt, AllocId, Pointer, Enabled, Global_, Program, Allocation, Memory, Ranges, allocated, fresh, id_cmp, is_multiple, range_fault, with_range, written, get_here, get_there, address_fault, picks_fault, State, no_faults, put_one, rewritten, rewritten_size, stored_in, written_is, Own, Piece, ask_of, behind_store, filled, global_bytes, look_of, pieces, placed, start_config, start_fault, start_memory, start_placed}
use Rattle.std.proofs.Common.{Result}
use Rattle.mr_base.specs.declared.byte.AbstractByte.{AbstractByte}
use Rattle.mr_base.specs.declared.reason.Reason.{Reason}
use Rattle.mr_frame.specs.PlanLimits.{ArePlaced, AreWithin, IsPlaced, IsWithin}
use Rattle.mr_frame.proofs.PlanIdentityCases.{id_cases}
use Rattle.mr_frame.proofs.PlanMemoryFacts.{fresh_fits}
use Rattle.std.specs.FinMap as fin
use Rattle.mr_frame.proofs.PlanRangeChecks.{Gave, aligned_ok, empty, filled as fills, gave, ranged}
use Rattle.mr_start.proofs.Overlaps.{id_of}
use Rattle.mr_start.proofs.StartStores.{lawful_address, low_range}

-- one more allocation that lies among the addresses
more_placed : (m : Memory) (id : AllocId) (b : Allocation) → ArePlaced m → IsPlaced b → ArePlaced (fin.insert m id b)
more_placed m id b h good q x is = elim (id_cases q id) [
  | inl e ↦ subst IsPlaced (same_Some b x (sym (ap (fin.get (fin.insert m id b)) e ∙ get_here m id b) ∙ is)) good
  | inr d ↦ h q x (sym (get_there m id b q d) ∙ is)
]

none_placed : ArePlaced fin.empty
none_placed id a h = let none : fin.get fin.empty id ≡ None = fin.get-empty id_cmp id in absurd (not_both none h)
  where
    not_both : {x : Option Allocation} → x ≡ None → x ≡ Some a → ⊥
    not_both n s = cc

-- picks that break no rule
pieces_placed : (m : Memory) (rs : Ranges) (count : ℕ) (xs : List Piece) (picks : List ℕ) → picks_fault (Enabled ∷ []) rs 0 count (map ask_of xs) picks ≡ None → ArePlaced m → ArePlaced (placed m count xs picks).memory
pieces_placed m rs count [] picks h good = good
pieces_placed m rs count (x ∷ xs) [] h good = good
pieces_placed m rs count (x ∷ xs) (addr ∷ picks) h good =
    let parts = no_faults (address_fault (range_fault rs addr x.size x.align)) _ h in
    let low = low_range rs addr x.size x.align (lawful_address (range_fault rs addr x.size x.align) parts.0) in
    pieces_placed (allocated m (id_of 0 count) x.kind x.size x.align addr) (with_range rs (id_of 0 count) addr x.size) (count + 1) xs picks parts.1
    (more_placed m (id_of 0 count) (fresh x.kind x.size x.align addr) good (fresh_fits x.kind x.size, low))

-- a store
bytes_placed : (m : Memory) (p : Pointer) (ys : List AbstractByte) (after : Memory) → Gave m p (length ys) m (stored_in m p ys) after → ArePlaced m → ArePlaced after
bytes_placed m p ys after (empty z e) good = subst ArePlaced e good
bytes_placed m p ys after (fills id a ne w e) good =
    let b = good id a w.there in
    let in_it = b.0 in
    let size = rewritten_size a p.addr ys w.range.from w.range.to in
    subst ArePlaced (sym (ap (λ o. put_one m o (rewritten a p.addr ys)) w.prov) ∙ e)
    (more_placed m id (rewritten a p.addr ys) good (omega arith, b.1))

store_placed : (m : Memory) (p : Pointer) (ys : List AbstractByte) (align : ℕ) (r : Result Memory Reason) → written m p ys align ≡ r → ArePlaced m → ArePlaced (behind_store m r)
store_placed m p ys align (Ok new) h good =
    let ok = aligned_ok p align (ranged m p (length ys) m (stored_in m p ys)) new (sym (written_is m p ys align) ∙ h) in
    bytes_placed m p ys new (gave m p (length ys) m (stored_in m p ys) new ok.1) good
store_placed m p ys align (Err r) h good = good

globals_placed : (functions globals : List Pointer) (m : Memory) (gs : List Global_) (ps : List Pointer) → ArePlaced m → ArePlaced (filled functions globals m gs ps)
globals_placed functions globals m [] ps good = good
globals_placed functions globals m (g ∷ gs) [] good = good
globals_placed functions globals m (g ∷ gs) (p ∷ ps) good =
    let bytes = global_bytes functions globals g.items in
    globals_placed functions globals (behind_store m (written m p bytes g.align)) gs ps (store_placed m p bytes g.align (written m p bytes g.align) refl good)

module _ (p : Program) (picks : List ℕ) (legal : start_fault p picks ≡ None) where
  memory_placed : ArePlaced (start_memory p picks)
  unfolding start_fault
  memory_placed = globals_placed (look_of p picks).functions (look_of p picks).globals (start_placed p picks).memory p.globals (look_of p picks).globals (pieces_placed fin.empty [] 0 (pieces p) picks legal none_placed)

  -- WHERE A RUN BEGINS, the limits are kept
  pub start_within : AreWithin (start_config p picks)
  unfolding start_config
  start_within s e = subst (λ (x : State Own). IsWithin x) (same_Some _ s e) (record { threads = omega arith; locks = omega arith; placed = memory_placed })
