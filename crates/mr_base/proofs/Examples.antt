-- Reasons and pairs of accesses, and what is said of them, computed.
use Rattle.std.proofs.Common.{◌≡◌, ℕ, true, false, refl}
use Rattle.std.specs.Prelude.{codes}
use Rattle.mr_base.specs.declared.access.Access.{Access}
use Rattle.mr_base.specs.declared.reason.Reason.TheVariants.{DataRace, NotHolder}
use Rattle.mr_base.specs.Accesses.{overlaps, conflicts, races}
use Rattle.mr_base.specs.Reasons.{code_of, name_of}

first_number : code_of DataRace ≡ 100
first_number = refl

first_name : name_of DataRace ≡ codes "DataRace"
first_name = refl

last_number : code_of NotHolder ≡ 133
last_number = refl

last_name : name_of NotHolder ≡ codes "NotHolder"
last_name = refl

abbrev load : ℕ → ℕ → Access
load addr len = record { store = false; atomic = false; addr = addr; len = len }

abbrev store : ℕ → ℕ → Access
store addr len = record { store = true; atomic = false; addr = addr; len = len }

abbrev atomic_load : ℕ → ℕ → Access
atomic_load addr len = record { store = false; atomic = true; addr = addr; len = len }

abbrev atomic_store : ℕ → ℕ → Access
atomic_store addr len = record { store = true; atomic = true; addr = addr; len = len }

-- bytes 8 to 11, and bytes 11 and 12
one_byte_shared : overlaps (load 8 4) (load 11 2) ≡ true
one_byte_shared = refl

-- bytes 8 to 11, and bytes 12 to 15, in both orders
adjacent : overlaps (load 8 4) (load 12 4) ≡ false
adjacent = refl

adjacent_reversed : overlaps (load 12 4) (load 8 4) ≡ false
adjacent_reversed = refl

-- a range of length 0 overlaps none, also where it lies inside
empty_inside : overlaps (load 10 0) (load 8 4) ≡ false
empty_inside = refl

-- two loads don't conflict, a load and a store do
loads : conflicts (load 8 4) (load 8 4) ≡ false
loads = refl

load_and_store : conflicts (load 8 4) (store 8 4) ≡ true
load_and_store = refl

stores_apart : conflicts (store 8 4) (store 12 4) ≡ false
stores_apart = refl

-- two atomic accesses conflict, but don't race
atomics_conflict : conflicts (atomic_load 8 4) (atomic_store 8 4) ≡ true
atomics_conflict = refl

atomics : races (atomic_load 8 4) (atomic_store 8 4) ≡ false
atomics = refl

one_is_atomic : races (load 8 4) (atomic_store 8 4) ≡ true
one_is_atomic = refl
