-- Threads and their numbers.
use Rattle.mr_step.proofs.Common.{◌≡◌, ℕ, zero, suc, ◌+◌, refl, ap, arith, List, [], ◌∷◌, ◌++◌, length, Some, same_Some, slice_get, slice_set, Thread, Own, numbered, standing_thread}
use Rattle.mr_step.specs.declared.progress.Thread.{Thread as KeptThread}

abbrev pub thread_as : ℕ → KeptThread → Thread Own
thread_as n th = standing_thread n th.ended th.count th.stack

-- a thread has the number of its position
pub numbered_at : (n m k : ℕ) (threads : List KeptThread) (th : KeptThread) → m ≡ n + k → slice_get threads k ≡ Some th → slice_get (numbered n threads) k ≡ Some (thread_as m th)
numbered_at n m k [] th e h = absurd (cc)
numbered_at n m zero (x ∷ threads) th e h =
    let z : n ≡ m = omega arith in
    let s = same_Some x th h in
    λ i. Some (thread_as (z i) (s i))
numbered_at n m (suc k) (x ∷ threads) th e h = numbered_at (suc n) m k threads th (omega arith) h

-- a thread in the place of another
pub numbered_set : (n m k : ℕ) (threads : List KeptThread) (th : KeptThread) → m ≡ n + k → numbered n (slice_set threads k th) ≡ slice_set (numbered n threads) k (thread_as m th)
numbered_set n m k [] th e = refl
numbered_set n m zero (x ∷ threads) th e =
    let z : n ≡ m = omega arith in
    λ i. thread_as (z i) th ∷ numbered (suc n) threads
numbered_set n m (suc k) (x ∷ threads) th e = ap (λ ts. thread_as n x ∷ ts) (numbered_set (suc n) m k threads th (omega arith))

-- threads behind others
pub numbered_append : (n m : ℕ) (front threads : List KeptThread) → m ≡ n + length front → numbered n (front ++ threads) ≡ numbered n front ++ numbered m threads
numbered_append n m [] threads e =
    let z : n ≡ m = omega arith in
    λ i. numbered (z i) threads
numbered_append n m (x ∷ front) threads e = ap (λ ts. thread_as n x ∷ ts) (numbered_append (suc n) m front threads (omega arith))

-- there are as many
pub numbered_length : (n : ℕ) (threads : List KeptThread) → length (numbered n threads) ≡ length threads
numbered_length n [] = refl
numbered_length n (x ∷ threads) = ap suc (numbered_length (suc n) threads)

-- the last thing put in a place stands there
pub set_twice : {A : Type 0} (xs : List A) (k : ℕ) (x y : A) → slice_set (slice_set xs k x) k y ≡ slice_set xs k y
set_twice [] k x y = refl
set_twice (z ∷ xs) zero x y = refl
set_twice (z ∷ xs) (suc k) x y = ap (λ zs. z ∷ zs) (set_twice xs k x y)
