-- The operations on threads and locks have a rule, and what they leave.
use Rattle.mr_intr.proofs.Common.{◌≡◌, ◌≢◌, ℕ, ◌<◌, ◌^◌, refl, subst, sym, ap, ◌∙◌, arith, List, [], ◌∷◌, length, Option, Some, None, Bool, true, false, Result, Ok, Err, not, ◌==◌, slice_get_within, slice_get, if◌then◌else◌, nat_lt, U32, Ty, lt_from, lt_test, Reason, NotHolder, Acquire, CreateLock, Join, Release, Status, Enabled, ranges_of, Waiter, Val, out-Val, has_shape, has_int, is_int, Went, Broken, on, run, IsSoundTables, Tables, acquired, any_waits, awaiting, created, handed, holding, joined, names_waiter, on_lock, over, released, trying, waits, creation_fault, picks_fault, CreatesNothing, Notes, start_notes, Await, Shared, TryLock, Waiting, answer, blocked, fits, giving, going, note, tables_of, telling, with_tables, woke, AreHeld, Slot, no_faults, one_waiter, picks_length, Leaves, After, FitsPlace, acquire, create_lock, join, number_in, release, releasing, unlocking}
use Rattle.std.proofs.Common.{inl, inr}
use Rattle.std.proofs.lemmas.Bool.{cases_eq}
use Rattle.std.proofs.Math.ListN.{length-set}
use Rattle.std.specs.Prelude.{slice_set}
use Rattle.mr_base.specs.declared.thread.Event.{Event}
use Rattle.mr_base.specs.declared.thread.Status.TheVariants.{Ended, OnJoin, OnLock}
use Rattle.mr_sync.proofs.SoundTables.{stay_sound}
use Rattle.mr_plan.specs.Legal.{fault}
use Rattle.mr_plan.specs.Machine.{CreatesLock}
use Rattle.mr_plan.specs.Queries.{Unlock}
use Rattle.mr_plan.proofs.Positions.{set_here}
use Rattle.mr_base.proofs.Lists.{set_there}
use Rattle.mr_ast.specs.declared.types.Ty.TheVariants as ty
use Rattle.mr_value.specs.declared.val.Val.TheVariants as val
use Rattle.mr_intr.proofs.Leaving.{AfterOp, OpLeaves, OpPlan, with_other}
use Rattle.mr_intr.proofs.OperationSafe.{found_then, int_there}
use Rattle.mr_sched.specs.declared.rule.ScheduleRule.TheVariants as rule

-- What a call leaves of sound tables in which thread t can go on: sound ones, in which no thread ended or came back.
pub record TablesLeft (s : Tables) (t : ℕ) (x : Tables) : Type 0 where
  pub sound : IsSoundTables x
  pub many : length x.statuses ≡ length s.statuses
  pub own : over (slice_get x.statuses t) ≡ Some false
  pub other : (k : ℕ) → k ≢ t → k < length s.statuses → over (slice_get x.statuses k) ≡ over (slice_get s.statuses k)

module _ (s : Tables) (t : ℕ) (enabled : slice_get s.statuses t ≡ Some Enabled) where
  same_statuses : (x : Tables) → IsSoundTables x → x.statuses ≡ s.statuses → TablesLeft s t x
  same_statuses x sound e = record {
    sound = sound;
    many = ap (λ l. length l) e;
    own = ap (λ l. over (slice_get l t)) e ∙ ap over enabled;
    other = λ k d lt. ap (λ l. over (slice_get l k)) e;
  }

  one_status : (x : Tables) (status : Status) → over (Some status) ≡ Some false → IsSoundTables x → x.statuses ≡ slice_set s.statuses t status → TablesLeft s t x
  one_status x status waits sound e = record {
    sound = sound;
    many = ap (λ l. length l) e ∙ length-set s.statuses t status;
    own = ap (λ l. over (slice_get l t)) e ∙ ap over (set_here s.statuses t status (slice_get_within s.statuses t Enabled enabled)) ∙ waits;
    other = λ k d lt. ap (λ l. over (slice_get l k)) e ∙ ap over (set_there s.statuses t k status d);
  }

  module _ (sound : IsSoundTables s) where
    ok_pair : (p q : Bool × Tables) → ◌≡◌ {A = Result (Bool × Tables) Reason} (Ok p) (Ok q) → p ≡ q
    ok_pair p q e = cc

    joined_left : (u : ℕ) (p : Bool × Tables) → joined t u s ≡ Ok p → TablesLeft s t p.1
    joined_left u p e = by_over (over (slice_get s.statuses u)) e (stay_sound.join t u s p.1 p.0 enabled e sound)
      where
        by_over : (o : Option Bool) → awaiting t u o s ≡ Ok p → IsSoundTables p.1 → TablesLeft s t p.1
        by_over None h after = absurd (cc)
        by_over (Some true) h after = same_statuses p.1 after (ap (λ (w : Bool × Tables). w.1.statuses) (sym (ok_pair (true, s) p h)))
        by_over (Some false) h after = one_status p.1 (OnJoin u) refl after (ap (λ (w : Bool × Tables). w.1.statuses) (sym (ok_pair (false, record s { statuses = slice_set s.statuses t (OnJoin u) }) p h)))

    acquired_left : (l : ℕ) (p : Bool × Tables) → acquired t l s ≡ Ok p → TablesLeft s t p.1
    acquired_left l p e = by_holder (slice_get s.holders l) e (stay_sound.acquire t l s p.1 p.0 enabled e sound)
      where
        by_holder : (o : Option (Option ℕ)) → trying t l o s ≡ Ok p → IsSoundTables p.1 → TablesLeft s t p.1
        by_holder None h after = absurd (cc)
        by_holder (Some None) h after = same_statuses p.1 after (ap (λ (w : Bool × Tables). w.1.statuses) (sym (ok_pair (true, record s { holders = slice_set s.holders l (Some t) }) p h)))
        by_holder (Some (Some k)) h after = one_status p.1 (OnLock l) refl after (ap (λ (w : Bool × Tables). w.1.statuses) (sym (ok_pair (false, record s { statuses = slice_set s.statuses t (OnLock l) }) p h)))

    -- a waiter that goes on hadn't ended
    waiter_over : (l u : ℕ) → waits l u s ≡ true → over (slice_get s.statuses u) ≡ Some false
    waiter_over l u h = by_status (slice_get s.statuses u) h
      where
        by_status : (o : Option Status) → on_lock l o ≡ true → over o ≡ Some false
        by_status None e = absurd (cc)
        by_status (Some Enabled) e = refl
        by_status (Some (OnJoin k)) e = refl
        by_status (Some (OnLock k)) e = refl
        by_status (Some Ended) e = absurd (cc)

    woken_left : (x : Tables) (l u : ℕ) → waits l u s ≡ true → IsSoundTables x → x.statuses ≡ slice_set s.statuses u Enabled → TablesLeft s t x
    woken_left x l u h after e = record {
      sound = after;
      many = ap (λ xs. length xs) e ∙ length-set s.statuses u Enabled;
      own = ap (λ xs. over (slice_get xs t)) e ∙ at t ∙ ap over enabled;
      other = λ k d lt. ap (λ xs. over (slice_get xs k)) e ∙ at k;
    }
      where
        within_u : (o : Option Status) → slice_get s.statuses u ≡ o → over o ≡ Some false → u < length s.statuses
        within_u None q z = absurd (cc)
        within_u (Some status) q z = slice_get_within s.statuses u status q

        at : (k : ℕ) → over (slice_get (slice_set s.statuses u Enabled) k) ≡ over (slice_get s.statuses k)
        at k = elim (cases_eq k u) [
          | inl same ↦
              ap (λ j. over (slice_get (slice_set s.statuses u Enabled) j)) same
              ∙ ap over (set_here s.statuses u Enabled (within_u (slice_get s.statuses u) refl (waiter_over l u h)))
              ∙ sym (waiter_over l u h)
              ∙ ap (λ j. over (slice_get s.statuses j)) (sym same)
          | inr d ↦ ap over (set_there s.statuses u k Enabled d)
        ]

    released_left : (l : ℕ) (to : Option ℕ) (x : Tables) → names_waiter l to s ≡ any_waits l s → released t l to s ≡ Ok x → TablesLeft s t x
    released_left l to x given e = by_waiter to given (handed_is l to x e) (stay_sound.release t l to s x (λ h. given) e sound)
      where
        handed_is : (k : ℕ) (o : Option ℕ) (y : Tables) → released t k o s ≡ Ok y → handed k o s ≡ y
        handed_is k o y h = by_holder (slice_get s.holders k) h
          where
            by_test : (h' : ℕ) (b : Bool) → (if b then Ok (handed k o s) else Err NotHolder) ≡ Ok y → handed k o s ≡ y
            by_test h' true z = cc
            by_test h' false z = absurd (cc)

            by_holder : (g : Option (Option ℕ)) → holding t g (handed k o s) ≡ Ok y → handed k o s ≡ y
            by_holder None z = absurd (cc)
            by_holder (Some None) z = absurd (cc)
            by_holder (Some (Some h')) z = by_test h' (h' == t) z

        by_waits : (u : ℕ) (b : Bool) → waits l u s ≡ b → (if b then record s { statuses = slice_set s.statuses u Enabled; holders = slice_set s.holders l (Some u) } else record s { holders = slice_set s.holders l None }) ≡ x → IsSoundTables x → TablesLeft s t x
        by_waits u true w is after = woken_left x l u w after (ap (λ (y : Tables). y.statuses) (sym is))
        by_waits u false w is after = same_statuses x after (ap (λ (y : Tables). y.statuses) (sym is))

        by_waiter : (o : Option ℕ) → names_waiter l o s ≡ any_waits l s → handed l o s ≡ x → IsSoundTables x → TablesLeft s t x
        by_waiter None g is after = same_statuses x after (ap (λ (y : Tables). y.statuses) (sym is))
        by_waiter (Some u) g is after = by_waits u (waits l u s) refl is after

-- ---- operations

module _ (s : Shared) (t c : ℕ) (sound : IsSoundTables (tables_of s)) (enabled : slice_get s.statuses t ≡ Some Enabled) (rooms : List Slot)
    (v : Shared × Notes) (leaves : Leaves s.memory t c (s, start_notes t c) v) (held : AreHeld v.0.memory rooms) where
  can_go : v.1.stopped ≡ false
  can_go = ap (λ (n : Notes). n.stopped) leaves.notes

  -- its tables are those with which the step began
  the_tables : tables_of v.0 ≡ tables_of s
  the_tables = ap tables_of leaves.shared

  abbrev Ends : Option Ty → Option Val → Shared × Notes → Type 0
  Ends result r u = AfterOp s t c rooms result r u

  -- other tables, and notes of the same memory
  left_with : (u : Shared × Notes) → u.0.memory ≡ v.0.memory → u.1.tally ≡ v.1.tally → TablesLeft (tables_of s) t (tables_of u.0) → OpLeaves s t c rooms u
  left_with u memory tally left = with_other s t c sound enabled rooms v u leaves held memory tally left.sound left.many left.own left.other

  -- a call that may block the thread
  going_ends : (result : Option Ty) → result ≡ None → (e : Event) (r : Result (Bool × Tables) Reason) → ((p : Bool × Tables) → r ≡ Ok p → TablesLeft (tables_of s) t p.1)
      → After (Ends result) (on (going e r v.0 v.1) (λ b u. Went None u))
  going_ends result none e (Err reason) left = tt
  going_ends result none e (Ok p) left =
      (subst (λ r. FitsPlace r None) (sym none) refl, left_with (with_tables v.0 p.1, if p.0 then note e v.1 else blocked e v.1) refl (same_tally p.0) (left p refl))
    where
      same_tally : (b : Bool) → (if b then note e v.1 else blocked e v.1).tally ≡ v.1.tally
      same_tally true = refl
      same_tally false = refl

  await_is : (u : ℕ) → answer (Await u) v ≡ going (Join u) (joined t u (tables_of s)) v.0 v.1
  await_is u =
      ap (λ b. if b then Broken else going (Join u) (joined v.1.tally.thread u (tables_of v.0)) v.0 v.1) can_go
      ∙ (λ i. going (Join u) (joined (leaves.facts.thread i) u (the_tables i)) v.0 v.1)

  take_is : (l : ℕ) → answer (TryLock l) v ≡ going (Acquire l) (acquired t l (tables_of s)) v.0 v.1
  take_is l =
      ap (λ b. if b then Broken else going (Acquire l) (acquired v.1.tally.thread l (tables_of v.0)) v.0 v.1) can_go
      ∙ (λ i. going (Acquire l) (acquired (leaves.facts.thread i) l (the_tables i)) v.0 v.1)

  pub join_safe : (a : Ty) (x : Val) (result : Option Ty) → is_int U32 a ≡ true → has_shape a x ≡ true → result ≡ None → After (OpPlan s t c rooms result) (run answer (join x) v)
  join_safe a x result is shape none =
      let n = int_there U32 a x is shape in
      λ picks legal.
      found_then s t c sound enabled rooms v leaves held (Ends result) (number_in (out-Val x)) n.0 _ n.1
      (subst (λ o. After (Ends result) (on o (λ b u. Went None u))) (sym (await_is n.0))
      (going_ends result none (Join n.0) (joined t n.0 (tables_of s)) (λ p e. joined_left (tables_of s) t enabled sound n.0 p e)))

  pub acquire_safe : (a : Ty) (x : Val) (result : Option Ty) → is_int U32 a ≡ true → has_shape a x ≡ true → result ≡ None → After (OpPlan s t c rooms result) (run answer (acquire x) v)
  acquire_safe a x result is shape none =
      let n = int_there U32 a x is shape in
      λ picks legal.
      found_then s t c sound enabled rooms v leaves held (Ends result) (number_in (out-Val x)) n.0 _ n.1
      (subst (λ o. After (Ends result) (on o (λ b u. Went None u))) (sym (take_is n.0))
      (going_ends result none (Acquire n.0) (acquired t n.0 (tables_of s)) (λ p e. acquired_left (tables_of s) t enabled sound n.0 p e)))

  -- fewer than 4,096 locks have numbers of 32 bits
  few_locks : creation_fault s CreatesLock ≡ None → length s.holders < 4096
  few_locks h = by_test (nat_lt (length s.holders) 4096) refl h
    where
      by_test : (b : Bool) → nat_lt (length s.holders) 4096 ≡ b → (if b then None else fault rule.TooManyLocks) ≡ None → length s.holders < 4096
      by_test true e k = lt_from (length s.holders) 4096 e
      by_test false e k = absurd (cc)

  pub create_safe : (result : Option Ty) → result ≡ Some (ty.Int U32) → After (OpPlan s t c rooms result) (run answer create_lock v)
  create_safe result int =
      λ picks legal.
      let parts = no_faults (creation_fault s CreatesLock) (picks_fault s.statuses (ranges_of s.memory) t c [] picks) legal in
      let few = few_locks parts.0 in
      let same : length v.0.holders ≡ length s.holders = ap (λ (x : Shared). length x.holders) leaves.shared in
      let after : TablesLeft (tables_of s) t (created (tables_of s)).1 = same_statuses (tables_of s) t enabled (created (tables_of s)).1 (stay_sound.create (tables_of s) sound) refl in
      let value : has_shape (ty.Int U32) (val.Int (length v.0.holders)) ≡ true = has_int U32 (length v.0.holders) ∙ lt_test (length v.0.holders) (2 ^ 32) (omega arith) in (
        subst (λ r. FitsPlace r (Some (val.Int (length v.0.holders)))) (sym int) (val.Int (length v.0.holders), refl, value),
        left_with (with_tables v.0 (created (tables_of v.0)).1, note (CreateLock (length v.0.holders)) v.1) refl refl
            (subst (λ (x : Tables). TablesLeft (tables_of s) t (created x).1) (sym the_tables) after),
      )

  -- ---- release

  module _ (l : ℕ) (result : Option Ty) (none : result ≡ None) where
    abbrev noted : Notes
    noted = note (Release l) v.1

    unlock_is : (to : Option ℕ) → answer (Unlock l to) (v.0, noted) ≡ giving l to (released t l to (tables_of s)) v.0 noted
    unlock_is to = λ i. giving l to (released (leaves.facts.thread i) l to (the_tables i)) v.0 noted

    gives : (to : Option ℕ) (r : Result Tables Reason) → fits l to (tables_of v.0) ≡ true → ((x : Tables) → r ≡ Ok x → TablesLeft (tables_of s) t x) → After (Ends result) (on (giving l to r v.0 noted) (λ y u. Went None u))
    gives to (Err reason) fit left = tt
    gives to (Ok x) fit left =
        subst (λ b. After (Ends result) (on (if b then Went tt (with_tables v.0 x, woke to (note (Release l) noted)) else Broken) (λ y u. Went None u))) (sym fit)
        (subst (λ r. FitsPlace r None) (sym none) refl, left_with (with_tables v.0 x, woke to (note (Release l) noted)) refl (same_tally to) (left x refl))
      where
        same_tally : (o : Option ℕ) → (woke o (note (Release l) noted)).tally ≡ v.1.tally
        same_tally None = refl
        same_tally (Some u) = refl

    unlocks : (to : Option ℕ) → fits l to (tables_of s) ≡ true → names_waiter l to (tables_of s) ≡ any_waits l (tables_of s) → After (Ends result) (run answer (unlocking l to) (v.0, noted))
    unlocks to fit given =
        subst (λ o. After (Ends result) (on o (λ y u. Went None u))) (sym (unlock_is to))
        (gives to (released t l to (tables_of s)) (ap (fits l to) the_tables ∙ fit) (λ x e. released_left (tables_of s) t enabled sound l to x given e))

    plans : (b : Bool) → any_waits l (tables_of s) ≡ b → OpPlan s t c rooms result (releasing l b) (v.0, noted)
    plans false waiting = λ picks legal. unlocks None (ap not waiting) (sym waiting)
    plans true waiting =
        λ picks legal.
        let parts = no_faults (creation_fault s CreatesNothing) (picks_fault s.statuses (ranges_of s.memory) t c (Waiter l ∷ []) picks) legal in
        by_picks picks parts.1 (picks_length s.statuses (ranges_of s.memory) t c (Waiter l ∷ []) picks parts.1)
      where
        by_picks : (picks : List ℕ) → picks_fault s.statuses (ranges_of s.memory) t c (Waiter l ∷ []) picks ≡ None → length picks ≡ 1 → After (Ends result) (run answer ((releasing l true).go picks) (v.0, noted))
        by_picks [] h e = absurd (omega arith)
        by_picks (u ∷ []) h e = let w = one_waiter s.statuses (ranges_of s.memory) t c l u h in unlocks (Some u) w (w ∙ sym waiting)
        by_picks (u ∷ w ∷ picks) h e = absurd (omega arith)

    waiting_is : answer (Waiting l) v ≡ telling (Release l) (holding t (slice_get s.holders l) (any_waits l (tables_of s))) v.0 v.1
    waiting_is = λ i. telling (Release l) (holding (leaves.facts.thread i) (slice_get (the_tables i).holders l) (any_waits l (the_tables i))) v.0 v.1

    told : (r : Result Bool Reason) → ((b : Bool) → r ≡ Ok b → any_waits l (tables_of s) ≡ b) → After (OpPlan s t c rooms result) (on (telling (Release l) r v.0 v.1) (λ b u. Went (releasing l b) u))
    told (Err reason) h = tt
    told (Ok b) h = plans b (h b refl)

    held_value : (b : Bool) → holding t (slice_get s.holders l) (any_waits l (tables_of s)) ≡ Ok b → any_waits l (tables_of s) ≡ b
    held_value b e = by_holder (slice_get s.holders l) e
      where
        by_test : (a : Bool) → (if a then Ok (any_waits l (tables_of s)) else Err NotHolder) ≡ Ok b → any_waits l (tables_of s) ≡ b
        by_test true z = cc
        by_test false z = absurd (cc)

        by_holder : (g : Option (Option ℕ)) → holding t g (any_waits l (tables_of s)) ≡ Ok b → any_waits l (tables_of s) ≡ b
        by_holder None z = absurd (cc)
        by_holder (Some None) z = absurd (cc)
        by_holder (Some (Some h)) z = by_test (h == t) z

  pub release_safe : (a : Ty) (x : Val) (result : Option Ty) → is_int U32 a ≡ true → has_shape a x ≡ true → result ≡ None → After (OpPlan s t c rooms result) (run answer (release x) v)
  release_safe a x result is shape none =
      let n = int_there U32 a x is shape in
      found_then s t c sound enabled rooms v leaves held (OpPlan s t c rooms result) (number_in (out-Val x)) n.0 _ n.1
      (subst (λ o. After (OpPlan s t c rooms result) (on o (λ b u. Went (releasing n.0 b) u))) (sym (waiting_is n.0 result none))
      (told n.0 result none (holding t (slice_get s.holders n.0) (any_waits n.0 (tables_of s))) (λ b e. held_value n.0 result none b e)))
