-- Which rows are partners of a step: their latest step races with it and doesn't happen before it.
use Rattle.std.specs.Prelude.{◌≡◌, ℕ, ◌≤◌, List, slice_index, Bool, not, ◌&&◌, ◌==◌, nat_le}
use Rattle.std.specs.List.{Contains}
use Rattle.mr_base.specs.Accesses.{races}
use Rattle.mr_base.specs.declared.access.Access.{Access}
use Rattle.mr_event.specs.Footprint.{Footprint}
use Rattle.mr_rust_order.specs.declared.rows.Row.{Row}
use Rattle.mr_rust_order.specs.Rows.{Passes, row_at}

-- whether a row is of another thread, its access races with one of a step, and its latest step isn't under the clock
abbrev pub is_partner : ℕ → Access → List ℕ → Row → Bool
is_partner thread access clock row =
    not (row.thread == thread) && races row.range access && nat_le (slice_index clock row.thread) row.last

-- the row at a place is a partner of a step of a thread, by one of the step's accesses
abbrev pub IsPartnerBy : List Row → List Access → ℕ → List ℕ → ℕ → Type 0
IsPartnerBy rows accesses thread clock x =
    (a : Access) × Contains accesses a × Passes rows (is_partner thread a clock) x

abbrev pub IsPartner : List Row → Footprint → List ℕ → ℕ → Type 0
IsPartner rows f clock x = IsPartnerBy rows f.accesses f.thread clock x

-- no row is a partner
abbrev pub HasNoPartner : List Row → Footprint → List ℕ → Type 0
HasNoPartner rows f clock = (x : ℕ) → ¬ IsPartner rows f clock x

-- i is the greatest of the partners' latest steps
pub record IsGreatestPartner (rows : List Row) (f : Footprint) (clock : List ℕ) (i : ℕ) : Type 0 where
  pub step : (x : ℕ) × IsPartner rows f clock x × ((row_at rows x).last ≡ i)
  pub greatest : (x : ℕ) → IsPartner rows f clock x → (row_at rows x).last ≤ i
