-- A lock is waited for exactly where some thread waits for it.
use Rattle.std.proofs.Common.{◌≡◌, ℕ, ◌<◌, zero, suc, refl, ap, List, [], ◌∷◌, length, Bool, true, false, cond, arith}
use Rattle.std.specs.Prelude.{slice_get, Some}
use Rattle.mr_base.specs.declared.thread.Status.{Status}
use Rattle.mr_sync.specs.Tables.{any_waiting, on_lock}

pub waiter_counts : (l : ℕ) (xs : List Status) (t : ℕ) → on_lock l (slice_get xs t) ≡ true → any_waiting l xs ≡ true
waiter_counts l [] t h = cc
waiter_counts l (x ∷ xs) zero h = ap (λ b. cond b true (any_waiting l xs)) h
waiter_counts l (x ∷ xs) (suc t) h = elim (on_lock l (Some x)) as (λ b. cond b true (any_waiting l xs) ≡ true) [ true ↦ refl | false ↦ waiter_counts l xs t h ]

-- where no thread that exists waits for the lock, none does
pub none_waiting : (l : ℕ) (xs : List Status) → ((t : ℕ) → t < length xs → on_lock l (slice_get xs t) ≡ false) → any_waiting l xs ≡ false
none_waiting l [] h = refl
none_waiting l (x ∷ xs) h = rw (h 0 (omega arith)) (none_waiting l xs (λ t lt. h (suc t) (omega arith)))
