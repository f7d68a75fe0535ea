-- The picks of a turn meet what is asked, behind all that was picked before.
use Rattle.mr_fill.proofs.Common.{◌≡◌, ℕ, zero, suc, ◌<◌, ◌≤◌, refl, sym, ap, ◌∙◌, subst, inl, inr, arith, List, [], ◌∷◌, length, Bool, true, false, Option, Some, None, Contains, slice_get, if◌then◌else◌, filter, same_Some, Status, Chooser, Ask, Picked, EndsBy, behind_given, given}
use Rattle.std.specs.List.{range_with_len}
use Rattle.mr_start.specs.MemMemory.{Ranges}
use Rattle.mr_sched.specs.Chooser.{behind_address}
use Rattle.mr_sched.specs.declared.schedule.Ask.TheVariants.{Address, Waiter}
use Rattle.mr_start.specs.SyncTables.{on_lock}
use Rattle.mr_step.proofs.PlanElementLaws.{Contains-nil}
use Rattle.mr_step.specs.SwapMeets.{IsTaken, MeetsAfter, addresses}
use Rattle.mr_step.proofs.SwapElementTests.{front_cases}
use Rattle.mr_step.proofs.SwapMeetsLaws.{clear_from}
use Rattle.mr_auto.specs.Drawing.{found, waiting_in}
use Rattle.mr_auto.proofs.Addresses.{apart_behind, bytes_behind, found_is, not_bad}
use Rattle.mr_auto.proofs.Picks.{ArePicks, put_some}
use Rattle.mr_fill.specs.Filling.{receiver_in}

-- ---- the thread that gets a lock waits for it

-- the first that passes a test does
first_passes : (test : ℕ → Bool) (xs : List ℕ) (t : ℕ) → slice_get (filter test xs) 0 ≡ Some t → test t ≡ true
first_passes test [] t h = absurd (cc)
first_passes test (x ∷ xs) t h = by (test x) refl h (first_passes test xs t)
  where
    by : (b : Bool) → test x ≡ b → slice_get (if b then x ∷ filter test xs else filter test xs) 0 ≡ Some t → (slice_get (filter test xs) 0 ≡ Some t → test t ≡ true) → test t ≡ true
    by true e k more = ap test (sym (same_Some x t k)) ∙ e
    by false e k more = more k

receiver_waits : (statuses : List Status) (lock : ℕ) (receiver : Option ℕ) (t : ℕ) → receiver_in statuses lock receiver ≡ Some t → on_lock lock (slice_get statuses t) ≡ true
receiver_waits statuses lock None t h = first_passes (λ u. on_lock lock (slice_get statuses u)) (range_with_len 0 (length statuses)) t h
receiver_waits statuses lock (Some u) t h = by (on_lock lock (slice_get statuses u)) refl h
  where
    by : (b : Bool) → on_lock lock (slice_get statuses u) ≡ b → (if b then Some u else None) ≡ Some t → on_lock lock (slice_get statuses t) ≡ true
    by true e k = ap (λ v. on_lock lock (slice_get statuses v)) (sym (same_Some u t k)) ∙ e
    by false e k = absurd (cc)

-- ---- picks

pub given_are : (statuses : List Status) (rs : Ranges) (es : List (ℕ × ℕ)) (receiver : Option ℕ) (c : Chooser) (asks : List Ask) (r : Picked) → given statuses receiver c asks ≡ Some r → 0 < c.next
    → ((q : ℕ × ℕ) → IsTaken rs q → EndsBy c.next q) → ((q : ℕ × ℕ) → Contains es q → EndsBy c.next q) → ArePicks statuses rs es c asks r
given_are statuses rs es receiver c [] r h pos low mine =
    subst (ArePicks statuses rs es c []) (same_Some (record { picks = []; chooser = c }) r h) (record { meets = tt; grows = omega arith; ends = λ q k. absurd (Contains-nil q k) })
given_are statuses rs es receiver c (Address size align ∷ asks) r h pos low mine =
    let p = put_some (found c size align) (given statuses receiver (behind_address c size align) asks) r h in
    let f = found_is c size align p.pick p.is in
    let at = f.low in
    let on = f.next in
    let one = bytes_behind p.pick size in
    let later : (q : ℕ × ℕ) → EndsBy c.next q → EndsBy (behind_address c size align).next q = λ q k. omega arith in
    let here : EndsBy (behind_address c size align).next (p.pick, size) = omega arith in
    let rest = given_are statuses rs ((p.pick, size) ∷ es) receiver (behind_address c size align) asks p.behind p.there (omega arith) (λ q k. later q (low q k))
    (λ q k. elim (front_cases (p.pick, size) es q k) [
      | inl e ↦ subst (EndsBy (behind_address c size align).next) e here
      | inr t ↦ later q (mine q t)
    ]) in
    let more = rest.grows in
    let last : EndsBy p.behind.chooser.next (p.pick, size) = omega arith in
    subst (ArePicks statuses rs es c (Address size align ∷ asks)) (sym p.made)
    (record {
      meets = (
        not_bad c size align p.pick f pos,
        clear_from rs (p.pick, size) (λ q k. apart_behind p.pick size q.0 q.1 c.next (low q k) f.low),
        λ q k. apart_behind p.pick size q.0 q.1 c.next (mine q k) f.low,
        rest.meets,
      );
      grows = omega arith;
      ends = λ q k. elim (front_cases (p.pick, size) (addresses asks p.behind.picks) q k) [
        | inl e ↦ subst (EndsBy p.behind.chooser.next) e last
        | inr t ↦ rest.ends q t
      ];
    })
given_are statuses rs es receiver c (Waiter lock ∷ asks) r h pos low mine =
    let p = put_some (receiver_in statuses lock receiver) (given statuses receiver c asks) r h in
    let rest = given_are statuses rs es receiver c asks p.behind p.there pos low mine in
    subst (ArePicks statuses rs es c (Waiter lock ∷ asks)) (sym p.made)
    (record {
      meets = (receiver_waits statuses lock receiver p.pick p.is, rest.meets);
      grows = rest.grows;
      ends = rest.ends;
    })
