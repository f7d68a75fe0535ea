-- The picks that are drawn meet what is asked, behind all that was picked before.
use Rattle.mr_auto.proofs.Common.{◌≡◌, ℕ, zero, suc, ◌<◌, ◌≤◌, ◌/◌, ◌^◌, refl, sym, ap, ◌∙◌, subst, inl, inr, arith, List, [], ◌∷◌, length, get_or, Bool, true, false, Option, Some, None, Contains, slice_get, if◌then◌else◌, filter, range_with_len, mod-lt, same_Some, Status, behind_address, behind_draw, Chooser, Ask, on_lock, Contains-nil, IsTaken, addresses, Picked, candidate, found, picked, put, EndsBy}
use Rattle.mr_start.specs.MemMemory.{Ranges}
use Rattle.mr_sched.specs.Chooser.{drawn, position_in}
use Rattle.mr_sched.specs.declared.schedule.Ask.TheVariants.{Address, Waiter}
use Rattle.mr_run.specs.StepSwapMeets.{MeetsAfter}
use Rattle.mr_run.proofs.StepSwapElementTests.{front_cases}
use Rattle.mr_run.proofs.StepSwapMeetsLaws.{clear_from}
use Rattle.mr_auto.specs.Drawing.{threads_where, waiting_in}
use Rattle.mr_auto.proofs.Addresses.{apart_behind, bytes_behind, found_is, not_bad}

-- ---- candidates

passed : (test : ℕ → Bool) (xs : List ℕ) (k : ℕ) → k < length (filter test xs) → test (get_or (filter test xs) k 0) ≡ true
passed test [] k lt = absurd (omega arith)
passed test (x ∷ xs) k lt = by_test (test x) refl (passed test xs) k lt
  where
    by_test : (b : Bool) → test x ≡ b → ((k : ℕ) → k < length (filter test xs) → test (get_or (filter test xs) k 0) ≡ true)
        → (k : ℕ) → k < length (if b then x ∷ filter test xs else filter test xs) → test (get_or (if b then x ∷ filter test xs else filter test xs) k 0) ≡ true
    by_test true e more zero lt = e
    by_test true e more (suc k) lt = more k (omega arith)
    by_test false e more k lt = more k lt

-- a candidate is at some place
drawn_there : (c : Chooser) (xs : List ℕ) (t : ℕ) → candidate c xs ≡ Some t → (k : ℕ) × (k < length xs) × (t ≡ get_or xs k 0)
drawn_there c [] t h = absurd (cc)
drawn_there c (x ∷ xs) t h =
    let some : 0 < length (x ∷ xs) = omega arith in
    (position_in (drawn c.number) (length (x ∷ xs)), mod-lt (drawn c.number / 2 ^ 33) some, sym (same_Some _ t h))

-- so it passes the test
pub candidate_passes : (test : Option Status → Bool) (statuses : List Status) (c : Chooser) (t : ℕ) → candidate c (threads_where test statuses) ≡ Some t → test (slice_get statuses t) ≡ true
candidate_passes test statuses c t h =
    let (k, lt, is) = drawn_there c (threads_where test statuses) t h in
    ap (λ u. test (slice_get statuses u)) is ∙ passed (λ u. test (slice_get statuses u)) (range_with_len 0 (length statuses)) k lt

-- ---- picks

pub record PutSome (o : Option ℕ) (rest : Option Picked) (r : Picked) : Type 0 where
  pub pick : ℕ
  pub is : o ≡ Some pick
  pub behind : Picked
  pub there : rest ≡ Some behind
  pub made : r ≡ record { picks = pick ∷ behind.picks; chooser = behind.chooser }

pub put_some : (o : Option ℕ) (rest : Option Picked) (r : Picked) → put o rest ≡ Some r → PutSome o rest r
put_some None rest r h = absurd (cc)
put_some (Some pick) None r h = absurd (cc)
put_some (Some pick) (Some b) r h = record { pick = pick; is = refl; behind = b; there = refl; made = sym (same_Some _ r h) }

-- The picks meet what is asked, and the addresses that are found next lie behind those picked.
pub record ArePicks (statuses : List Status) (rs : Ranges) (es : List (ℕ × ℕ)) (c : Chooser) (asks : List Ask) (r : Picked) : Type 0 where
  pub meets : MeetsAfter statuses rs es asks r.picks
  pub grows : c.next ≤ r.chooser.next
  pub ends : (q : ℕ × ℕ) → Contains (addresses asks r.picks) q → EndsBy r.chooser.next q

pub picks_are : (statuses : List Status) (rs : Ranges) (es : List (ℕ × ℕ)) (c : Chooser) (asks : List Ask) (r : Picked) → picked statuses c asks ≡ Some r → 0 < c.next
    → ((q : ℕ × ℕ) → IsTaken rs q → EndsBy c.next q) → ((q : ℕ × ℕ) → Contains es q → EndsBy c.next q) → ArePicks statuses rs es c asks r
picks_are statuses rs es c [] r h pos low mine =
    subst (ArePicks statuses rs es c []) (same_Some (record { picks = []; chooser = c }) r h) (record { meets = tt; grows = omega arith; ends = λ q k. absurd (Contains-nil q k) })
picks_are statuses rs es c (Address size align ∷ asks) r h pos low mine =
    let p = put_some (found c size align) (picked statuses (behind_address c size align) asks) r h in
    let f = found_is c size align p.pick p.is in
    let at = f.low in
    let on = f.next in
    let one = bytes_behind p.pick size in
    let later : (q : ℕ × ℕ) → EndsBy c.next q → EndsBy (behind_address c size align).next q = λ q k. omega arith in
    let here : EndsBy (behind_address c size align).next (p.pick, size) = omega arith in
    let rest = picks_are statuses rs ((p.pick, size) ∷ es) (behind_address c size align) asks p.behind p.there (omega arith) (λ q k. later q (low q k))
    (λ q k. elim (front_cases (p.pick, size) es q k) [
      | inl e ↦ subst (EndsBy (behind_address c size align).next) e here
      | inr t ↦ later q (mine q t)
    ]) in
    let more = rest.grows in
    let last : EndsBy p.behind.chooser.next (p.pick, size) = omega arith in
    subst (ArePicks statuses rs es c (Address size align ∷ asks)) (sym p.made)
    (record {
      meets = (
        not_bad c size align p.pick f pos,
        clear_from rs (p.pick, size) (λ q k. apart_behind p.pick size q.0 q.1 c.next (low q k) f.low),
        λ q k. apart_behind p.pick size q.0 q.1 c.next (mine q k) f.low,
        rest.meets,
      );
      grows = omega arith;
      ends = λ q k. elim (front_cases (p.pick, size) (addresses asks p.behind.picks) q k) [
        | inl e ↦ subst (EndsBy p.behind.chooser.next) e last
        | inr t ↦ rest.ends q t
      ];
    })
picks_are statuses rs es c (Waiter lock ∷ asks) r h pos low mine =
    let p = put_some (candidate c (waiting_in lock statuses)) (picked statuses (behind_draw c) asks) r h in
    let rest = picks_are statuses rs es (behind_draw c) asks p.behind p.there pos low mine in
    subst (ArePicks statuses rs es c (Waiter lock ∷ asks)) (sym p.made)
    (record {
      meets = (candidate_passes (on_lock lock) statuses c p.pick p.is, rest.meets);
      grows = rest.grows;
      ends = rest.ends;
    })
