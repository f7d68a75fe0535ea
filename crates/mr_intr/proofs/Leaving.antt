-- What an intrinsic's operation leaves, on the way to what the next state keeps.
use Rattle.mr_intr.proofs.Common.{◌≡◌, ◌≢◌, ℕ, ◌<◌, refl, subst, sym, ap, ◌∙◌, List, length, Option, Some, None, false, slice_get, Ty, Enabled, Memory, Val, run, MemoryScript, IsSoundTables, over, needs_fault, Plan, Notes, start_notes, Shared, StepScript, answer, memory_part, tables_of, AreHeld, Slot, Leaves, Left, leaves_then, After, FitsPlace}
use Rattle.mr_eval.specs.Tally.{Tally}
use Rattle.mr_plan.specs.Safety.{IsSafeChange}
use Rattle.mr_plan.proofs.MemoryFacts.{MemoryFacts}
use Rattle.mr_plan.proofs.MemoryParts.{memory_after}
use Rattle.mr_plan.proofs.Outcomes.{after_weaker}
use Rattle.mr_plan.proofs.StorageRuns.{Keeps}

-- What it leaves of a state in which thread t, which can go on, began its step: sound tables, in which no thread ended or came back, and the
-- storage of all rooms.
pub record OpLeaves (s : Shared) (t c : ℕ) (rooms : List Slot) (u : Shared × Notes) : Type 0 where
  pub tables : IsSoundTables (tables_of u.0)
  pub many : length u.0.statuses ≡ length s.statuses
  pub own : over (slice_get u.0.statuses t) ≡ Some false
  pub other : (k : ℕ) → k ≢ t → k < length s.statuses → over (slice_get u.0.statuses k) ≡ over (slice_get s.statuses k)
  pub facts : MemoryFacts s.memory t c u.0.memory u.1.tally
  pub held : AreHeld u.0.memory rooms

-- its result, and what it leaves
abbrev pub AfterOp : Shared → ℕ → ℕ → List Slot → Option Ty → Option Val → Shared × Notes → Type 0
AfterOp s t c rooms result v u = FitsPlace result v × OpLeaves s t c rooms u

-- whatever picks an entry brings that breaks no rule
abbrev pub OpPlan : Shared → ℕ → ℕ → List Slot → Option Ty → Plan (StepScript (Option Val)) → Shared × Notes → Type 0
OpPlan s t c rooms result plan v =
    (picks : List ℕ) → needs_fault s t c (record { creates = plan.creates; asks = plan.asks }) picks ≡ None → After (AfterOp s t c rooms result) (run answer (plan.go picks) v)

module _ (s : Shared) (t c : ℕ) (sound : IsSoundTables (tables_of s)) (enabled : slice_get s.statuses t ≡ Some Enabled) (rooms : List Slot) where
  -- other tables over the memory and the notes of a state
  pub with_other : (w u : Shared × Notes) → Leaves s.memory t c (s, start_notes t c) w → AreHeld w.0.memory rooms → u.0.memory ≡ w.0.memory → u.1.tally ≡ w.1.tally
      → IsSoundTables (tables_of u.0) → length u.0.statuses ≡ length s.statuses → over (slice_get u.0.statuses t) ≡ Some false
      → ((k : ℕ) → k ≢ t → k < length s.statuses → over (slice_get u.0.statuses k) ≡ over (slice_get s.statuses k)) → OpLeaves s t c rooms u
  with_other w u leaves held memory tally tables many own other = record {
    tables = tables;
    many = many;
    own = own;
    other = other;
    facts = subst (λ (x : Memory × Tally). MemoryFacts s.memory t c x.0 x.1) (λ i. (sym memory i, sym tally i)) leaves.facts;
    held = subst (λ m. AreHeld m rooms) (sym memory) held;
  }

  -- the same tables
  pub same_left : (w u : Shared × Notes) → Leaves s.memory t c (s, start_notes t c) w → AreHeld w.0.memory rooms → u.0 ≡ w.0 → u.1.tally ≡ w.1.tally → OpLeaves s t c rooms u
  same_left w u leaves held shared tally =
      let all : u.0 ≡ record s { memory = w.0.memory } = shared ∙ leaves.shared in
      with_other w u leaves held (ap (λ (x : Shared). x.memory) shared) tally
      (subst (λ (x : Shared). IsSoundTables (tables_of x)) (sym all) sound)
      (ap (λ (x : Shared). length x.statuses) all)
      (ap (λ (x : Shared). over (slice_get x.statuses t)) all ∙ ap over enabled)
      (λ k d lt. ap (λ (x : Shared). over (slice_get x.statuses k)) all)

  -- a part that asks memory alone
  pub memory_op : (result : Option Ty) (script : MemoryScript (Option Val)) → IsSafeChange (FitsPlace result) script → Keeps (λ r. rooms) rooms script
      → (w : Shared × Notes) → Leaves s.memory t c (s, start_notes t c) w → AreHeld w.0.memory rooms → After (AfterOp s t c rooms result) (run answer (memory_part script) w)
  memory_op result script safe keeps w leaves held =
      after_weaker (Left s.memory t c (FitsPlace result) (λ r. rooms) w) (AfterOp s t c rooms result) (run answer (memory_part script) w)
      (memory_after s.memory t c (FitsPlace result) (λ r. rooms) rooms script safe keeps w leaves.facts held)
      (λ v u left. (left.value, same_left u u (leaves_then s.memory t c (s, start_notes t c) w u leaves left.leaves) left.held refl refl))
