-- What one turn of a thread leaves, on the way to what the next state keeps.
use Rattle.mr_start.proofs.Common.{◌≡◌, ◌≢◌, ℕ, ◌<◌, ◌+◌, refl, subst, sym, ap, ◌∙◌, arith, List, [], length, Option, Some, None, slice_get, Program, Status, Enabled, Ended, OnJoin, OnLock, IsSoundTables, over, Aborts, Exits, Goes, Notes, Shared, tables_of, AreHeld, Slot, MemoryFacts, Leaves, FitsStack, Stack, frame_slots, FitsStatus, Own, Turn}
use Rattle.mr_frame.specs.MemMemory.{Memory}
use Rattle.mr_frame.specs.PlanMachine.{Flow}

-- how many threads a turn starts
abbrev pub many_started : Option Own → ℕ
many_started None = 0
many_started (Some new) = 1

-- the rooms of the thread that a turn starts, in front of others
abbrev pub started_slots : Program → Option Own → List Slot → List Slot
started_slots p None others = others
started_slots p (Some new) others = frame_slots p new.stack.frames others

-- the thread that it starts, behind the last one
abbrev pub StartedFits : Program → ℕ → List Status → Option Own → Type 0
StartedFits p n statuses None = Unit {0}
StartedFits p n statuses (Some new) = (new.thread ≡ n) × (slice_get statuses n ≡ Some Enabled) × FitsStack p new.stack

-- What a turn of thread t leaves, which had made c allocations when it began with all this shared: sound tables; its own status fits its
-- frames, no other thread ended or came back, and a new one stands last; and the storage of all rooms.
pub record TurnLeaves (p : Program) (s : Shared) (t c : ℕ) (others : List Slot) (own : Own) (started : Option Own) (w : Shared × Notes) : Type 0 where
  pub thread : own.thread ≡ t
  pub tables : IsSoundTables (tables_of w.0)
  pub many : length w.0.statuses ≡ length s.statuses + many_started started
  pub own_fits : (status : Status) → slice_get w.0.statuses t ≡ Some status → FitsStatus p status own.stack
  pub other : (u : ℕ) → u ≢ t → u < length s.statuses → over (slice_get w.0.statuses u) ≡ over (slice_get s.statuses u)
  pub new_fits : StartedFits p (length s.statuses) w.0.statuses started
  pub facts : MemoryFacts s.memory t c w.0.memory w.1.tally
  pub held : AreHeld w.0.memory (started_slots p started (frame_slots p own.stack.frames others))

-- of a turn that goes on
abbrev pub AfterTurn : Program → Shared → ℕ → ℕ → List Slot → Turn → Shared × Notes → Type 0
AfterTurn p s t c others (Goes own started) w = TurnLeaves p s t c others own started w
AfterTurn p s t c others Exits w = Unit {0}
AfterTurn p s t c others Aborts w = Unit {0}

-- ---- statuses

-- frames fit one status where they fit another, if both or neither are of an ended thread
pub fits_over : (p : Program) (a b : Status) (s : Stack) → over (Some a) ≡ over (Some b) → FitsStatus p a s → FitsStatus p b s
fits_over p Ended Ended s e h = h
fits_over p Ended Enabled s e h = absurd (cc)
fits_over p Ended (OnJoin u) s e h = absurd (cc)
fits_over p Ended (OnLock l) s e h = absurd (cc)
fits_over p Enabled Ended s e h = absurd (cc)
fits_over p Enabled Enabled s e h = h
fits_over p Enabled (OnJoin u) s e h = h
fits_over p Enabled (OnLock l) s e h = h
fits_over p (OnJoin k) Ended s e h = absurd (cc)
fits_over p (OnJoin k) Enabled s e h = h
fits_over p (OnJoin k) (OnJoin u) s e h = h
fits_over p (OnJoin k) (OnLock l) s e h = h
fits_over p (OnLock k) Ended s e h = absurd (cc)
fits_over p (OnLock k) Enabled s e h = h
fits_over p (OnLock k) (OnJoin u) s e h = h
fits_over p (OnLock k) (OnLock l) s e h = h

-- a turn that leaves the tables, of a thread that could go on
pub same_tables : (p : Program) (t c : ℕ) (w w' : Shared × Notes) (others : List Slot) (own : Own) → own.thread ≡ t → IsSoundTables (tables_of w.0) → slice_get w.0.statuses t ≡ Some Enabled → FitsStack p own.stack
    → Leaves w.0.memory t c w w' → AreHeld w'.0.memory (frame_slots p own.stack.frames others) → TurnLeaves p w.0 t c others own None w'
same_tables p t c w w' others own is sound enabled fits leaves held = record {
  thread = is;
  tables = subst (λ (x : Shared). IsSoundTables (tables_of x)) (sym leaves.shared) sound;
  many = ap (λ (x : Shared). length x.statuses) leaves.shared ∙ plus_none (length w.0.statuses);
  own_fits = λ status e. by_status status (sym (ap (λ (x : Shared). slice_get x.statuses t) leaves.shared ∙ enabled) ∙ e);
  other = λ u d lt. ap (λ (x : Shared). over (slice_get x.statuses u)) leaves.shared;
  new_fits = tt;
  facts = leaves.facts;
  held = held;
}
  where
    plus_none : (n : ℕ) → n ≡ n + 0
    plus_none n = omega arith

    by_status : (status : Status) → Some Enabled ≡ Some status → FitsStatus p status own.stack
    by_status status e = fits_over p Enabled status own.stack (ap over e) fits
