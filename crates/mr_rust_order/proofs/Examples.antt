-- Rust's order, computed with examples: a flag that is raised behind a store, and a flag that is raised once more.
use Rattle.mr_rust_order.proofs.Common.{◌≡◌, ℕ, zero, suc, List, [], ◌∷◌, true, false, refl, ap, ◌∙◌, arith, Access, Quiet, Footprint, HappensBefore, IsReadBy, Makes, is_plain_store, in_thread, stored, edge, chain}

abbrev flag_store : Access
flag_store = record { store = true; atomic = true; addr = 100; len = 4 }

abbrev flag_load : Access
flag_load = record { store = false; atomic = true; addr = 100; len = 4 }

abbrev data_store : Access
data_store = record { store = true; atomic = false; addr = 8; len = 4 }

abbrev data_load : Access
data_load = record { store = false; atomic = false; addr = 8; len = 4 }

abbrev step : ℕ → Access → Footprint
step thread a =
    record { thread = thread; accesses = a ∷ []; allocated = []; freed = []; touched = []; event = Quiet; ended = false; woken = [] }

-- a thread stores, and raises a flag; another one sees the flag, and loads
abbrev seen : List Footprint
seen = step 0 data_store ∷ step 0 flag_store ∷ step 1 flag_load ∷ step 1 data_load ∷ []

not_plain : Makes is_plain_store (step 0 flag_store) 100 → ⊥
not_plain (a, (zero, lt, e), is) = let no : false ≡ true = ap (λ (x : Access). is_plain_store x 100) e ∙ is in absurd (cc)
not_plain (a, (suc k, lt, e), is) = absurd (omega (arith, lt))

flag_read : IsReadBy seen 1 2 100
flag_read =
    record {
      before = omega arith;
      load = (flag_load, (0, omega arith, refl), refl);
      store = (flag_store, (0, omega arith, refl), refl);
      atomic = not_plain;
      last = λ k low high m. absurd (omega (arith, low, high));
    }

data_seen : HappensBefore seen 0 3
data_seen = chain (edge (in_thread (omega arith) refl)) (chain (edge (stored 100 flag_read)) (edge (in_thread (omega arith) refl)))

-- a third thread raises the flag too, before it is seen
abbrev raised_twice : List Footprint
raised_twice = step 0 data_store ∷ step 0 flag_store ∷ step 2 flag_store ∷ step 1 flag_load ∷ step 1 data_load ∷ []

first_is_overwritten : IsReadBy raised_twice 1 3 100 → ⊥
first_is_overwritten r = r.last 2 (omega arith) (omega arith) (flag_store, (0, omega arith, refl), refl)
