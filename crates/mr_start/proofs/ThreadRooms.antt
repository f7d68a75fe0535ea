-- The rooms of all threads, and those of one of them in front.
use Rattle.mr_start.proofs.Common.{◌≡◌, ℕ, zero, suc, refl, sym, ap, ◌∙◌, subst, List, [], ◌∷◌, ◌++◌, Option, Some, None, append-nil, append_assoc, same_Some, slice_get, slice_set, Program, Thread, started_threads, thread_of, AreHeld, Slot, Frame, frame_slots, slots_with, thread_slots, Own}
use Rattle.mr_frame.specs.MemMemory.{Memory}
use Rattle.mr_frame.proofs.PlanRooms.{change_places}
use Rattle.mr_start.specs.SoundState.{own_slots}
use Rattle.mr_start.proofs.Turns.{started_slots}

-- those of the threads before one, and behind it
abbrev pub before_slots : Program → List (Thread Own) → ℕ → List Slot
before_slots p [] t = []
before_slots p (th ∷ threads) zero = []
before_slots p (th ∷ threads) (suc t) = own_slots p th.own ++ before_slots p threads t

abbrev pub behind_slots : Program → List (Thread Own) → ℕ → List Slot
behind_slots p [] t = []
behind_slots p (th ∷ threads) zero = thread_slots p threads
behind_slots p (th ∷ threads) (suc t) = behind_slots p threads t

-- those of all other threads
abbrev pub other_slots : Program → List (Thread Own) → ℕ → List Slot
other_slots p threads t = before_slots p threads t ++ behind_slots p threads t

front_slots : (p : Program) (frames : List Frame) (others : List Slot) → frame_slots p frames others ≡ frame_slots p frames [] ++ others
front_slots p [] others = refl
front_slots p (f ∷ below) others =
    let own = slots_with (slice_get p.functions f.function) f.locals in
    ap (λ rest. own ++ rest) (front_slots p below others) ∙ sym (append_assoc own (frame_slots p below []) others)

slots_append : (p : Program) (a b : List (Thread Own)) → thread_slots p (a ++ b) ≡ thread_slots p a ++ thread_slots p b
slots_append p [] b = refl
slots_append p (th ∷ a) b = ap (λ rest. own_slots p th.own ++ rest) (slots_append p a b) ∙ sym (append_assoc (own_slots p th.own) (thread_slots p a) (thread_slots p b))

split_slots : (p : Program) (threads : List (Thread Own)) (t : ℕ) (th : Thread Own) → slice_get threads t ≡ Some th
    → thread_slots p threads ≡ before_slots p threads t ++ (own_slots p th.own ++ behind_slots p threads t)
split_slots p [] t th is = absurd (cc)
split_slots p (x ∷ threads) zero th is = ap (λ (y : Thread Own). own_slots p y.own ++ thread_slots p threads) (same_Some x th is)
split_slots p (x ∷ threads) (suc t) th is =
    ap (λ rest. own_slots p x.own ++ rest) (split_slots p threads t th is)
    ∙ sym (append_assoc (own_slots p x.own) (before_slots p threads t) (own_slots p th.own ++ behind_slots p threads t))

set_slots : (p : Program) (threads started : List (Thread Own)) (t : ℕ) (th new : Thread Own) → slice_get threads t ≡ Some th
    → thread_slots p (slice_set threads t new ++ started) ≡ before_slots p threads t ++ (own_slots p new.own ++ (behind_slots p threads t ++ thread_slots p started))
set_slots p [] started t th new is = absurd (cc)
set_slots p (x ∷ threads) started zero th new is = ap (λ rest. own_slots p new.own ++ rest) (slots_append p threads started)
set_slots p (x ∷ threads) started (suc t) th new is =
    ap (λ rest. own_slots p x.own ++ rest) (set_slots p threads started t th new is)
    ∙ sym (append_assoc (own_slots p x.own) (before_slots p threads t) (own_slots p new.own ++ (behind_slots p threads t ++ thread_slots p started)))

module _ (p : Program) (threads : List (Thread Own)) (t : ℕ) (th : Thread Own) (is : slice_get threads t ≡ Some th) where
  abbrev before : List Slot
  before = before_slots p threads t

  abbrev behind : List Slot
  behind = behind_slots p threads t

  -- a thread's rooms come in front
  pub in_front_of_others : (m : Memory) → AreHeld m (thread_slots p threads) → AreHeld m (frame_slots p th.own.stack.frames (other_slots p threads t))
  in_front_of_others m h =
      subst (AreHeld m) (sym (front_slots p th.own.stack.frames (before ++ behind)))
      (change_places before (own_slots p th.own) behind m (subst (AreHeld m) (split_slots p threads t th is) h))

  -- the rooms of a thread and of one that it started go back to their places
  module _ (own : Own) (count : ℕ) (m : Memory) where
    put_back : (last : List Slot) → AreHeld m (own_slots p own ++ (before ++ (behind ++ last))) → AreHeld m (before ++ (own_slots p own ++ (behind ++ last)))
    put_back last h = change_places (own_slots p own) before (behind ++ last) m h

    pub back_in_place : (started : Option Own) → AreHeld m (started_slots p started (frame_slots p own.stack.frames (other_slots p threads t)))
        → AreHeld m (thread_slots p (slice_set threads t (thread_of own count) ++ started_threads started))
    back_in_place None h =
        subst (AreHeld m) (sym (set_slots p threads [] t th (thread_of own count) is))
        (put_back []
        (subst (λ rest. AreHeld m (own_slots p own ++ (before ++ rest))) (sym (append-nil behind))
        (subst (AreHeld m) (front_slots p own.stack.frames (before ++ behind)) h)))
    back_in_place (Some new) h =
        let first = own_slots p new in
        let mine = own_slots p own in
        let rest = mine ++ (before ++ behind) in
        let in_row : AreHeld m (first ++ rest) =
        subst (AreHeld m) (front_slots p new.stack.frames (frame_slots p own.stack.frames (before ++ behind)) ∙ ap (λ l. first ++ l) (front_slots p own.stack.frames (before ++ behind))) h in
        let last : AreHeld m (rest ++ (first ++ [])) = change_places first rest [] m (subst (λ l. AreHeld m (first ++ l)) (sym (append-nil rest)) in_row) in
        subst (AreHeld m) (sym (set_slots p threads (thread_of new 0 ∷ []) t th (thread_of own count) is))
        (put_back (first ++ [])
        (subst (AreHeld m) (append_assoc mine (before ++ behind) (first ++ []) ∙ ap (λ l. mine ++ l) (append_assoc before behind (first ++ []))) last))
