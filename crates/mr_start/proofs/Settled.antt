-- The state behind a turn keeps what each state keeps.
use Rattle.mr_start.proofs.Common.{◌≡◌, ◌≢◌, ℕ, zero, suc, ◌+◌, ◌<◌, refl, sym, ap, ◌∙◌, subst, arith, List, [], ◌++◌, length, inl, inr, Option, Some, None, cases_eq, same_Some, slice_get_within, length-set, slice_get, slice_set, Program, AllocId, Status, Enabled, over, State, Thread, started_threads, thread_of, Notes, Shared, set_here, FitsStatus, SoundState, Own, item_there, set_there}
use Rattle.std.proofs.lemmas.List.{length-append}
use Rattle.mr_frame.specs.MemMemory.{Allocation}
use Rattle.mr_frame.proofs.PlanRooms.{append_cases, behind, in_front}
use Rattle.mr_frame.proofs.PlanStorageRuns.{set_cases}
use Rattle.mr_start.specs.SoundState.{IsCounted}
use Rattle.std.specs.FinMap as fin
use Rattle.mr_start.proofs.ThreadRooms.{back_in_place, other_slots}
use Rattle.mr_start.proofs.Turns.{StartedFits, TurnLeaves, fits_over, many_started}

-- which thread stands at a position behind the turn
pub data Stands (threads : List (Thread Own)) (t : ℕ) (now : Thread Own) (started : Option Own) (u : ℕ) (x : Thread Own) : Type 0 where
  itself : u ≡ t → x ≡ now → Stands threads t now started u x
  another : u ≢ t → slice_get threads u ≡ Some x → Stands threads t now started u x
  new : (own : Own) → started ≡ Some own → u ≡ length threads → x ≡ thread_of own 0 → Stands threads t now started u x

started_at : (started : Option Own) (k : ℕ) (x : Thread Own) → slice_get (started_threads started) k ≡ Some x → (own : Own) × (started ≡ Some own) × (k ≡ 0) × (x ≡ thread_of own 0)
started_at None k x h = absurd (cc)
started_at (Some own) zero x h = (own, refl, refl, sym (same_Some (thread_of own 0) x h))
started_at (Some own) (suc k) x h = absurd (cc)

pub which : (threads : List (Thread Own)) (t : ℕ) (now : Thread Own) (started : Option Own) (u : ℕ) (x : Thread Own) → slice_get (slice_set threads t now ++ started_threads started) u ≡ Some x → Stands threads t now started u x
which threads t now started u x h = elim (append_cases (slice_set threads t now) (started_threads started) u x h) [
  | inl l ↦ elim (set_cases threads t now x u l.1) [ inl e ↦ itself e.0 e.1 | inr d ↦ another d.0 d.1 ]
  | inr r ↦
      let s = started_at started r.0 x r.2 in
      new s.0 s.1 (let e = r.1 in let z = s.2 in let same = length-set threads t now in omega arith) s.3
]

module _ (p : Program) (s : State Own) (sound : SoundState p s) (t : ℕ) (th : Thread Own) (is : slice_get s.threads t ≡ Some th) (own : Own) (started : Option Own) (w : Shared × Notes) (turn : TurnLeaves p s.shared t th.count (other_slots p s.threads t) own started w) where
  abbrev now : Thread Own
  now = thread_of own w.1.tally.count

  abbrev threads : List (Thread Own)
  threads = slice_set s.threads t now ++ started_threads started

  abbrev settled_state : State Own
  settled_state = record { shared = w.0; threads = threads }

  t_within : t < length s.threads
  t_within = slice_get_within s.threads t th is

  many_threads : (o : Option Own) → length (started_threads o) ≡ many_started o
  many_threads None = refl
  many_threads (Some own') = refl

  many_now : length w.0.statuses ≡ length threads
  many_now =
      let all = length-append (slice_set s.threads t now) (started_threads started) in
      let set = length-set s.threads t now in
      let had = sound.many in
      let got = turn.many in
      let last = many_threads started in
      omega arith

  -- the thread itself, in its place
  here : slice_get threads t ≡ Some now
  here = in_front (slice_set s.threads t now) (started_threads started) t now (set_here s.threads t now t_within)

  there : (u : ℕ) (x : Thread Own) → u ≢ t → slice_get s.threads u ≡ Some x → slice_get threads u ≡ Some x
  there u x d h = in_front (slice_set s.threads t now) (started_threads started) u x (set_there s.threads t u now d ∙ h)

  new_number : (o : Option Own) (own' : Own) → o ≡ Some own' → StartedFits p (length s.shared.statuses) w.0.statuses o → StartedFits p (length s.shared.statuses) w.0.statuses (Some own')
  new_number o own' e h = subst (StartedFits p (length s.shared.statuses) w.0.statuses) e h

  numbered_now : (u : ℕ) (x : Thread Own) → Stands s.threads t now started u x → x.own.thread ≡ u
  numbered_now u x (itself e f) = ap (λ (y : Thread Own). y.own.thread) f ∙ turn.thread ∙ sym e
  numbered_now u x (another d h) = sound.numbered u x h
  numbered_now u x (new own' e at f) = ap (λ (y : Thread Own). y.own.thread) f ∙ (new_number started own' e turn.new_fits).0 ∙ sound.many ∙ sym at

  other_fits : (u : ℕ) (status : Status) (x : Thread Own) → u ≢ t → slice_get w.0.statuses u ≡ Some status → slice_get s.threads u ≡ Some x → FitsStatus p status x.own.stack
  other_fits u status x d has h =
      let lt : u < length s.shared.statuses = (let k = slice_get_within s.threads u x h in let m = sound.many in omega arith) in
      let old = item_there s.shared.statuses u lt in
      fits_over p old.0 status x.own.stack (ap over (sym old.1) ∙ sym (turn.other u d lt) ∙ ap over has) (sound.fits u old.0 x old.1 h)

  fits_now : (u : ℕ) (status : Status) (x : Thread Own) → slice_get w.0.statuses u ≡ Some status → Stands s.threads t now started u x → FitsStatus p status x.own.stack
  fits_now u status x has (itself e f) =
      subst (λ (y : Thread Own). FitsStatus p status y.own.stack) (sym f) (turn.own_fits status (subst (λ k. slice_get w.0.statuses k ≡ Some status) e has))
  fits_now u status x has (another d h) = other_fits u status x d has h
  fits_now u status x has (new own' e at f) =
      let k = new_number started own' e turn.new_fits in
      let same : Some Enabled ≡ Some status = sym k.1 ∙ ap (slice_get w.0.statuses) (sound.many ∙ sym at) ∙ has in
      subst (λ (y : Thread Own). FitsStatus p status y.own.stack) (sym f) (fits_over p Enabled status own'.stack (ap over same) k.2)

  counted_now : (id : AllocId) (a : Allocation) → fin.get w.0.memory id ≡ Some a → IsCounted threads id
  counted_now id a h = elim (cases_eq id.thread t) [
    | inl e ↦ record { thread = now; is = ap (slice_get threads) e ∙ here; below = turn.facts.counted id a h e }
    | inr d ↦ elim (turn.facts.from id a h) [
      | inl m ↦ absurd (d (turn.facts.made id m.0).0)
      | inr b ↦ let c = sound.counted id b.alloc b.there in record { thread = c.thread; is = there id.thread c.thread d c.is; below = c.below }
    ]
  ]

  -- WHAT A STATE KEEPS, behind a turn
  pub settled_sound : SoundState p settled_state
  settled_sound = record {
    tables = turn.tables;
    many = many_now;
    numbered = λ u x h. numbered_now u x (which s.threads t now started u x h);
    fits = λ u status x has h. fits_now u status x has (which s.threads t now started u x h);
    counted = counted_now;
    held = back_in_place p s.threads t th is own w.1.tally.count w.0.memory started turn.held;
  }
