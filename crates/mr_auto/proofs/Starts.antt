-- The picks of the start line are lawful, and what is found behind them lies behind all that the start allocates.
use Rattle.mr_auto.proofs.Common.{◌≡◌, ℕ, ◌+◌, ◌-◌, refl, sym, ap, ◌∙◌, subst, inl, inr, arith, List, [], ◌∷◌, length, map, Bool, true, false, Option, Some, None, Result, Ok, Err, ◌==◌, if◌then◌else◌, same_Some, Program, Enabled, first_chooser, State, Contains-nil, Own, Piece, ask_of, look_of, pieces, start_config, start_fault, IsTaken, Picked, start_picked, EndsBy, LiesBehind}
use Rattle.mr_ast.specs.declared.program.Global_.{Global_}
use Rattle.mr_base.specs.declared.byte.AbstractByte.{AbstractByte}
use Rattle.mr_base.specs.declared.byte.AllocId.{AllocId}
use Rattle.mr_base.specs.declared.byte.Pointer.{Pointer}
use Rattle.mr_base.specs.declared.reason.Reason.{Reason}
use Rattle.mr_base.specs.declared.reason.Reason.TheVariants.{Misaligned, NoProvenance}
use Rattle.mr_start.specs.MemMemory.{Allocation, Memory, allocated, inside, is_multiple, put_at, put_in, ranges_of, then_give, written}
use Rattle.mr_start.proofs.MemIdentities.{get_here, get_there}
use Rattle.mr_start.proofs.MemRangeLaws.{ranges-allocated, ranges-empty}
use Rattle.mr_runs.specs.Ranges.{with_range_replaced}
use Rattle.mr_run.proofs.StepPlanIdentityCases.{id_cases}
use Rattle.mr_run.proofs.StepPlanMemoryFacts.{Ranged}
use Rattle.mr_start.specs.Start.{behind_store, filled, global_bytes, placed, start_memory, start_placed}
use Rattle.mr_run.specs.StepSwapMeets.{ranges_after}
use Rattle.mr_run.proofs.StepSwapMeetsLaws.{after_only, legal_of_meets, taken_in, taken_of_memory}
use Rattle.std.specs.FinMap as fin
use Rattle.mr_auto.proofs.Picks.{ArePicks, picks_are}

-- ---- stores take no range

abbrev KeepsRanges : Memory → Result Memory Reason → Type 0
KeepsRanges m r = (q : ℕ × ℕ) → Ranged (behind_store m r) q → Ranged m q

-- an allocation with other bytes
rewritten_ranged : (m : Memory) (id : AllocId) (a b : Allocation) → fin.get m id ≡ Some a → b.addr ≡ a.addr → b.span ≡ a.span → (q : ℕ × ℕ) → Ranged (fin.insert m id b) q → Ranged m q
rewritten_ranged m id a b there addr span q r =
    elim (id_cases r.id id) [
      | inl e ↦
          let same : b ≡ r.alloc = same_Some b r.alloc (sym (ap (fin.get (fin.insert m id b)) e ∙ get_here m id b) ∙ r.there) in
          record { id = id; alloc = a; there = there; addr = sym addr ∙ ap (λ (w : Allocation). w.addr) same ∙ r.addr; span = sym span ∙ ap (λ (w : Allocation). w.span) same ∙ r.span }
      | inr d ↦ record { id = r.id; alloc = r.alloc; there = sym (get_there m id b r.id d) ∙ r.there; addr = r.addr; span = r.span }
    ]

module _ (m : Memory) (p : Pointer) (bytes : List AbstractByte) where
  put_keeps : (id : AllocId) (a : Allocation) → fin.get m id ≡ Some a → (r : Result Allocation Reason)
      → KeepsRanges m (then_give (then_give r (λ _. record a { bytes = with_range_replaced a.bytes (p.addr - a.addr) bytes })) (fin.insert m id))
  put_keeps id a there (Ok x) q h = rewritten_ranged m id a (record a { bytes = with_range_replaced a.bytes (p.addr - a.addr) bytes }) there refl refl q h
  put_keeps id a there (Err r) q h = h

  at_keeps : (id : AllocId) (o : Option Allocation) → fin.get m id ≡ o → KeepsRanges m (put_at m id o p.addr bytes)
  at_keeps id None there q h = h
  at_keeps id (Some a) there q h = put_keeps id a there (inside (Some a) p.addr (length bytes)) q h

  in_keeps : (o : Option AllocId) → KeepsRanges m (elim o as (λ _. Result Memory Reason) [ None ↦ Err NoProvenance | Some id ↦ put_at m id (fin.get m id) p.addr bytes ])
  in_keeps None q h = h
  in_keeps (Some id) q h = at_keeps id (fin.get m id) refl q h

  some_keeps : (b : Bool) → KeepsRanges m (if b then Ok m else put_in m p bytes)
  some_keeps true q h = h
  some_keeps false q h = in_keeps p.prov q h

  by_multiple : (align : ℕ) (b : Bool) → KeepsRanges m (if b then (if length bytes == 0 then Ok m else put_in m p bytes) else Err Misaligned)
  by_multiple align true q h = some_keeps (length bytes == 0) q h
  by_multiple align false q h = h

  store_keeps : (align : ℕ) → KeepsRanges m (written m p bytes align)
  store_keeps align q h = by_multiple align (is_multiple p.addr align) q h

filled_keeps : (functions globals : List Pointer) (m : Memory) (gs : List Global_) (ps : List Pointer) (q : ℕ × ℕ) → Ranged (filled functions globals m gs ps) q → Ranged m q
filled_keeps functions globals m [] ps q h = h
filled_keeps functions globals m (g ∷ gs) [] q h = h
filled_keeps functions globals m (g ∷ gs) (p ∷ ps) q h =
    let bytes = global_bytes functions globals g.items in
    store_keeps m p bytes g.align q (filled_keeps functions globals (behind_store m (written m p bytes g.align)) gs ps q h)

-- ---- what the start allocates

placed_ranges : (m : Memory) (count : ℕ) (ps : List Piece) (picks : List ℕ) → ranges_of (placed m count ps picks).memory ≡ ranges_after (ranges_of m) 0 count (map ask_of ps) picks
placed_ranges m count [] picks = refl
placed_ranges m count (p ∷ ps) [] = refl
placed_ranges m count (p ∷ ps) (addr ∷ picks) =
    let id : AllocId = record { thread = 0; count = count } in
    placed_ranges (allocated m id p.kind p.size p.align addr) (count + 1) ps picks
    ∙ ap (λ rs. ranges_after rs 0 (count + 1) (map ask_of ps) picks) (ranges-allocated m id p.kind p.size p.align addr)

none_taken : (q : ℕ × ℕ) → IsTaken [] q → ⊥
none_taken q h = Contains-nil (h.0, record { addr = q.0; size = q.1 }) h.1

module _ (p : Program) (number : ℕ) (r : Picked) (e : start_picked p number ≡ Some r) where
  pub start_picks : ArePicks (Enabled ∷ []) [] [] (first_chooser number) (map ask_of (pieces p)) r
  start_picks = picks_are (Enabled ∷ []) [] [] (first_chooser number) (map ask_of (pieces p)) r e (omega arith) (λ q k. absurd (none_taken q k)) (λ q k. absurd (Contains-nil q k))

  -- the start line breaks no rule
  pub start_legal : start_fault p r.picks ≡ None
  unfolding start_fault
  start_legal = legal_of_meets (Enabled ∷ []) [] 0 0 (map ask_of (pieces p)) r.picks start_picks.meets

  placed_behind : (q : ℕ × ℕ) → Ranged (start_placed p r.picks).memory q → EndsBy r.chooser.next q
  placed_behind q k =
      let t : IsTaken (ranges_after [] 0 0 (map ask_of (pieces p)) r.picks) q =
      subst (λ rs. IsTaken rs q) (placed_ranges fin.empty 0 (pieces p) r.picks ∙ ap (λ rs. ranges_after rs 0 0 (map ask_of (pieces p)) r.picks) ranges-empty) (taken_of_memory (start_placed p r.picks).memory q k) in
      elim (after_only [] 0 0 (map ask_of (pieces p)) r.picks q t) [
        | inl none ↦ absurd (none_taken q none)
        | inr made ↦ start_picks.ends q made
      ]

  memory_behind : (q : ℕ × ℕ) → IsTaken (ranges_of (start_memory p r.picks)) q → EndsBy r.chooser.next q
  memory_behind q k =
      placed_behind q
      (filled_keeps (look_of p r.picks).functions (look_of p r.picks).globals (start_placed p r.picks).memory p.globals (look_of p r.picks).globals q (taken_in (start_memory p r.picks) q k))

  pub start_lies : LiesBehind (start_config p r.picks) r.chooser
  unfolding start_config
  start_lies = record {
    positive = (let up = start_picks.grows in omega arith);
    behind = λ s h q k. memory_behind q (subst (λ (x : State Own). IsTaken (ranges_of x.shared.memory) q) (sym (same_Some _ s h)) k);
  }
