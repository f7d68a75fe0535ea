-- The reasons of threads, locks and sizes speak of no bytes.
use Rattle.mr_intr.proofs.Common.{◌≡◌, ℕ, Bool, true, false, Option, None, Some, Result, Ok, Err, refl, subst, ◌==◌, ◌-◌, ◌^◌, if◌then◌else◌, nat_lt, slice_get, speaks, Reason, BadAlign, NotHolder, SizeTooLarge, Tables, acquired, awaiting, handed, holding, joined, over, released, trying, allocation_fault, is_power_of_two}
use Rattle.mr_eval.proofs.OwnReasons.{IsOwnResult}

-- ---- tables

awaiting_own : (t u : ℕ) (o : Option Bool) (s : Tables) → IsOwnResult (awaiting t u o s)
awaiting_own t u None s = refl
awaiting_own t u (Some true) s = tt
awaiting_own t u (Some false) s = tt

trying_own : (t l : ℕ) (o : Option (Option ℕ)) (s : Tables) → IsOwnResult (trying t l o s)
trying_own t l None s = refl
trying_own t l (Some None) s = tt
trying_own t l (Some (Some h)) s = tt

holding_own : {A : Type 0} (t : ℕ) (o : Option (Option ℕ)) (a : A) → IsOwnResult (holding t o a)
holding_own t None a = refl
holding_own t (Some None) a = refl
holding_own {A} t (Some (Some h)) a = by (h == t)
  where
    by : (b : Bool) → IsOwnResult {X = A} (if b then Ok a else Err NotHolder)
    by true = tt
    by false = refl

pub join_own : (t u : ℕ) (x : Tables) (r : Reason) → joined t u x ≡ Err r → speaks r ≡ false
join_own t u x r is = subst IsOwnResult is (awaiting_own t u (over (slice_get x.statuses u)) x)

pub acquire_own : (t l : ℕ) (x : Tables) (r : Reason) → acquired t l x ≡ Err r → speaks r ≡ false
acquire_own t l x r is = subst IsOwnResult is (trying_own t l (slice_get x.holders l) x)

pub hold_own : {A : Type 0} (t : ℕ) (o : Option (Option ℕ)) (a : A) (r : Reason) → holding t o a ≡ Err r → speaks r ≡ false
hold_own t o a r is = subst IsOwnResult is (holding_own t o a)

pub release_own : (t l : ℕ) (to : Option ℕ) (x : Tables) (r : Reason) → released t l to x ≡ Err r → speaks r ≡ false
release_own t l to x r is = hold_own t (slice_get x.holders l) (handed l to x) r is

-- ---- sizes

abbrev IsOwnOption : Option Reason → Type 0
IsOwnOption None = Unit {0}
IsOwnOption (Some r) = speaks r ≡ false

pub allocation_own : (size align : ℕ) (r : Reason) → allocation_fault size align ≡ Some r → speaks r ≡ false
allocation_own size align r is = subst IsOwnOption is (by (nat_lt (2 ^ 63 - 1) size) (is_power_of_two align))
  where
    by : (large power : Bool) → IsOwnOption (if large then Some SizeTooLarge else (if power then None else Some BadAlign))
    by true power = refl
    by false true = tt
    by false false = refl
