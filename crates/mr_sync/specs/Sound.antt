-- What holds of the tables of a run. (MiniRust, lang: threads and locks.)
use Rattle.std.specs.Prelude.{◌≡◌, ℕ, Bool, false, Option, Some, Ok, slice_get}
use Rattle.mr_base.specs.declared.thread.Status.TheVariants.{OnJoin, OnLock}
use Rattle.mr_sync.specs.Tables.{Tables, IsEnabled, acquired, any_waits, created, ended, holder_of, joined}
use Rattle.mr_sync.specs.Tables.{names_waiter, over, released, spawned, start_tables}

-- a thread that waits for a lock waits for one that exists and has a holder; one that waits for a join waits for a
-- thread that exists and hasn't ended
pub record IsSoundTables (s : Tables) : Type 0 where
  pub locks : (t l : ℕ) → slice_get s.statuses t ≡ Some (OnLock l) → (h : ℕ) × (holder_of l s ≡ Some h)
  pub joins : (t u : ℕ) → slice_get s.statuses t ≡ Some (OnJoin u) → over (slice_get s.statuses u) ≡ Some false

-- the first tables are sound, and each call on sound tables, under its condition, leaves sound tables
pub record StaySound : Type 0 where
  pub new : IsSoundTables start_tables
  pub spawn : (s : Tables) → IsSoundTables s → IsSoundTables (spawned s).1
  pub create : (s : Tables) → IsSoundTables s → IsSoundTables (created s).1
  pub acquire :
      (t l : ℕ) (s s' : Tables) (b : Bool)
      → IsEnabled t s → acquired t l s ≡ Ok (b, s') → IsSoundTables s → IsSoundTables s'
  pub release :
      (t l : ℕ) (to : Option ℕ) (s s' : Tables) → (holder_of l s ≡ Some t → names_waiter l to s ≡ any_waits l s)
      → released t l to s ≡ Ok s' → IsSoundTables s → IsSoundTables s'
  pub join :
      (t u : ℕ) (s s' : Tables) (b : Bool)
      → IsEnabled t s → joined t u s ≡ Ok (b, s') → IsSoundTables s → IsSoundTables s'
  pub end : (t : ℕ) (s : Tables) → IsEnabled t s → IsSoundTables s → IsSoundTables (ended t s).0
