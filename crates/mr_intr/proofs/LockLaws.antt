-- What an operation on a thread or a lock comes to, by what the tables answer.
use Rattle.mr_intr.proofs.Common.{◌≡◌, ℕ, ◌<◌, refl, subst, sym, ap, ◌∙◌, arith, List, [], ◌∷◌, length, Option, Some, None, Bool, true, false, Result, Ok, Err, not, ◌==◌, same_Some, slice_get_within, slice_get, if◌then◌else◌, stop_with, Intrinsic, Ty, Reason, NotHolder, Acquire, CreateLock, Join, Release, Status, eq_test, ranges_of, Waiter, Val, tally_of, Scene, Tables, acquired, any_waits, created, handed, holding, joined, names_waiter, on_lock, released, waits, creation_fault, needs_fault, picks_fault, CreatesNothing, needs_of, Notes, Await, Shared, StepScript, TryLock, Waiting, answer, blocked, fits, giving, going, note, telling, with_tables, woke, no_faults, one_waiter, picks_length, AreLawful, CanTake, IsDone, Prints, begun, notes_in, operated, shared_in, found, operation, releasing, unlocking, Effect}
use Rattle.mr_base.specs.declared.thread.Event.{Event}
use Rattle.mr_sync.specs.Tables.{holder_of, taken_by}
use Rattle.mr_plan.specs.Notes.{event_of}
use Rattle.mr_intr.specs.Arguments.{PicksThread}
use Rattle.mr_intr.specs.Effects.{listed}
use Rattle.mr_eval.proofs.RefusedLaws.{stop_plainly}
use Rattle.mr_ast.specs.declared.program.Intrinsic.TheVariants as intrinsic
use Rattle.mr_value.specs.declared.val.Val.TheVariants as val
use Rattle.mr_base.specs.Script.{Done, Ask as Asks, ◌>>=◌, Outcome, Broken, Went, Refused, on, run}
use Rattle.mr_intr.proofs.Arguments.{acquire_takes, join_takes, one_read, release_takes}
use Rattle.mr_intr.proofs.OperatedLaws.{int_number}
use Rattle.mr_intr.proofs.OwnReasons.{acquire_own, join_own, release_own}

-- something done to a lock or a thread
abbrev pub noted : Event → Effect
noted e = record { value = None; event = e; woken = None }

-- ---- calls that may block

module _ (op : Intrinsic) (out : List ℕ) (prints : Prints op [] out out) (s : Scene) (x : Tables) (e : Event) where
  abbrev pub gone : Result (Bool × Tables) Reason → Outcome (Option Val) (Shared × Notes)
  gone r = on (going e r (shared_in s x) (notes_in s)) (λ b v. Went None v)

  pub going_done : (o : Outcome (Option Val) (Shared × Notes)) (b : Bool) (new : Tables) → o ≡ gone (Ok (b, new)) → IsDone op (noted e) o s new out out
  going_done o true new is = record { notes = note e (notes_in s); went = is; tally = refl; event = refl; going = refl; woken = refl; printed = prints }
  going_done o false new is = record { notes = blocked e (notes_in s); went = is; tally = refl; event = refl; going = refl; woken = refl; printed = prints }

module _ (types : List Ty) (place : Option Ty) (picks : List ℕ) (s : Scene) (x : Tables) (thread : ℕ) (same : s.thread ≡ thread) where
  pub operated_join : (u : ℕ) → operated intrinsic.Join (val.Int u ∷ []) types place picks (begun s x) ≡ on (going (Join u) (joined thread u x) (shared_in s x) (notes_in s)) (λ b v. Went None v)
  unfolding operated
  operated_join u =
      (λ i. run answer (found (int_number u i) >>= λ n. Asks (Await n) (λ goes. Done None)) (begun s x))
      ∙ ap (λ t. on (going (Join u) (joined t u x) (shared_in s x) (notes_in s)) (λ b v. Went None v)) same

  pub operated_acquire : (l : ℕ) → operated intrinsic.Acquire (val.Int l ∷ []) types place picks (begun s x) ≡ on (going (Acquire l) (acquired thread l x) (shared_in s x) (notes_in s)) (λ b v. Went None v)
  unfolding operated
  operated_acquire l =
      (λ i. run answer (found (int_number l i) >>= λ n. Asks (TryLock n) (λ has. Done None)) (begun s x))
      ∙ ap (λ t. on (going (Acquire l) (acquired t l x) (shared_in s x) (notes_in s)) (λ b v. Went None v)) same

  pub join_went : (out : List ℕ) (u : ℕ) (b : Bool) (new : Tables) → joined thread u x ≡ Ok (b, new)
      → IsDone intrinsic.Join (noted (Join u)) (operated intrinsic.Join (val.Int u ∷ []) types place picks (begun s x)) s new out out
  join_went out u b new h =
      going_done intrinsic.Join out (refl, refl) s x (Join u) _ b new (operated_join u ∙ ap (gone intrinsic.Join out (refl, refl) s x (Join u)) h)

  pub join_refused : (u : ℕ) (r : Reason) → joined thread u x ≡ Err r → operated intrinsic.Join (val.Int u ∷ []) types place picks (begun s x) ≡ Refused (stop_with s.notes.refused r)
  join_refused u r h = operated_join u ∙ ap (gone intrinsic.Join [] (refl, refl) s x (Join u)) h ∙ ap Refused (stop_plainly s.notes.refused r (join_own thread u x r h))

  pub acquire_went : (out : List ℕ) (l : ℕ) (b : Bool) (new : Tables) → acquired thread l x ≡ Ok (b, new)
      → IsDone intrinsic.Acquire (noted (Acquire l)) (operated intrinsic.Acquire (val.Int l ∷ []) types place picks (begun s x)) s new out out
  acquire_went out l b new h =
      going_done intrinsic.Acquire out (refl, refl) s x (Acquire l) _ b new (operated_acquire l ∙ ap (gone intrinsic.Acquire out (refl, refl) s x (Acquire l)) h)

  pub acquire_refused : (l : ℕ) (r : Reason) → acquired thread l x ≡ Err r → operated intrinsic.Acquire (val.Int l ∷ []) types place picks (begun s x) ≡ Refused (stop_with s.notes.refused r)
  acquire_refused l r h = operated_acquire l ∙ ap (gone intrinsic.Acquire [] (refl, refl) s x (Acquire l)) h ∙ ap Refused (stop_plainly s.notes.refused r (acquire_own thread l x r h))

-- ---- a new lock

module _ (types : List Ty) (place : Option Ty) (picks : List ℕ) (s : Scene) (x : Tables) where
  abbrev pub made : ℕ → Effect
  made l = record { value = Some (val.Int l); event = CreateLock l; woken = None }

  pub create_went : (out : List ℕ) → IsDone intrinsic.CreateLock (made (created x).0) (operated intrinsic.CreateLock [] types place picks (begun s x)) s (created x).1 out out
  unfolding operated
  create_went out = record { notes = note (CreateLock (created x).0) (notes_in s); went = refl; tally = refl; event = refl; going = refl; woken = refl; printed = (refl, refl) }

-- ---- release

-- who holds a lock decides, whatever is given then
holding_err : {A B : Type 0} (t : ℕ) (h : Option (Option ℕ)) (a : A) (b : B) (r : Reason) → holding t h a ≡ Err r → holding t h b ≡ Err r
holding_err t None a b r e = cc
holding_err t (Some None) a b r e = cc
holding_err {A = A} {B = B} t (Some (Some k)) a b r e = by_test (k == t) e
  where
    by_test : (c : Bool) → (if c then Ok a else Err NotHolder) ≡ Err r → (if c then Ok b else Err NotHolder) ≡ Err r
    by_test true h = absurd (cc)
    by_test false h = cc

holding_ok : {A B : Type 0} (t : ℕ) (h : Option (Option ℕ)) (a y : A) (b : B) → holding t h a ≡ Ok y → holding t h b ≡ Ok b
holding_ok t None a y b e = absurd (cc)
holding_ok t (Some None) a y b e = absurd (cc)
holding_ok t (Some (Some k)) a y b e = by_test (k == t) e
  where
    by_test : (c : Bool) → (if c then Ok a else Err NotHolder) ≡ Ok y → (if c then Ok b else Err NotHolder) ≡ Ok b
    by_test true h = refl
    by_test false h = absurd (cc)

-- Picks that a release takes: a waiter exactly where one waits for a lock that the thread holds, and none where it holds no such lock.
pub record ReleasesTo (thread l : ℕ) (x : Tables) (picks : List ℕ) : Type 0 where
  pub to : Option ℕ
  pub is : picks ≡ listed to
  pub waits : (u : ℕ) → to ≡ Some u → waits l u x ≡ true
  pub fits : holding thread (slice_get x.holders l) (any_waits l x) ≡ Ok (any_waits l x) → names_waiter l to x ≡ any_waits l x

module _ (types : List Ty) (place : Option Ty) (picks : List ℕ) (s : Scene) (x : Tables) (thread : ℕ) (same : s.thread ≡ thread) (l : ℕ) where
  abbrev held : Result Bool Reason
  held = holding thread (slice_get x.holders l) (any_waits l x)

  abbrev told : {A : Type 0} → (Bool → StepScript A) → Result Bool Reason → Outcome A (Shared × Notes)
  told k r = on (telling (Release l) r (shared_in s x) (notes_in s)) (λ b v. run answer (k b) v)

  released_is : {A : Type 0} (k : Bool → StepScript A) → run answer (Asks (Waiting l) k) (begun s x) ≡ told k held
  released_is k = ap (λ t. told k (holding t (slice_get x.holders l) (any_waits l x))) same

  pub operated_release : operated intrinsic.Release (val.Int l ∷ []) types place picks (begun s x) ≡ told (λ b. (releasing l b).go picks) held
  unfolding operated
  operated_release =
      (λ i. run answer ((found (int_number l i) >>= λ n. Asks (Waiting n) Done >>= λ waits. Done (releasing n waits)) >>= λ plan. plan.go picks) (begun s x))
      ∙ released_is (λ b. (releasing l b).go picks)

  pub release_planned : run answer (operation intrinsic.Release (val.Int l ∷ []) types place) (begun s x) ≡ told (λ b. Done (releasing l b)) held
  release_planned =
      (λ i. run answer (found (int_number l i) >>= λ n. Asks (Waiting n) Done >>= λ waits. Done (releasing n waits)) (begun s x))
      ∙ released_is (λ b. Done (releasing l b))

  pub release_refused : (to : Option ℕ) (r : Reason) → released thread l to x ≡ Err r → operated intrinsic.Release (val.Int l ∷ []) types place picks (begun s x) ≡ Refused (stop_with s.notes.refused r)
  release_refused to r h =
      operated_release ∙ ap (told (λ b. (releasing l b).go picks)) (holding_err thread (slice_get x.holders l) (handed l to x) (any_waits l x) r h)
      ∙ ap Refused (stop_plainly s.notes.refused r (release_own thread l to x r h))

  -- what the picks are, by who holds the lock and whether a thread waits for it
  pub lawful_picks : AreLawful intrinsic.Release (val.Int l ∷ []) types place picks s x → ReleasesTo thread l x picks
  lawful_picks lawful =
      by_held held refl (subst (λ o. needs_fault (shared_in s x) s.thread s.count (needs_of o) picks ≡ None) release_planned lawful)
    where
      no_picks : (ps : List ℕ) → picks_fault x.statuses (ranges_of s.memory) s.thread s.count [] ps ≡ None → ps ≡ []
      no_picks [] h = refl
      no_picks (p ∷ ps) h = absurd (cc)

      one_pick : (ps : List ℕ) → any_waits l x ≡ true → picks_fault x.statuses (ranges_of s.memory) s.thread s.count (Waiter l ∷ []) ps ≡ None → ReleasesTo thread l x ps
      one_pick [] waiting h = absurd (cc)
      one_pick (u ∷ []) waiting h =
          let w = one_waiter x.statuses (ranges_of s.memory) s.thread s.count l u h in
          record { to = Some u; is = refl; waits = λ v e. subst (λ k. waits l k x ≡ true) (same_Some u v e) w; fits = λ e. w ∙ sym waiting }
      one_pick (u ∷ v ∷ ps) waiting h = absurd (let k = picks_length x.statuses (ranges_of s.memory) s.thread s.count (Waiter l ∷ []) (u ∷ v ∷ ps) h in omega (arith, k))

      none_to : ((holding thread (slice_get x.holders l) (any_waits l x) ≡ Ok (any_waits l x)) → any_waits l x ≡ false) → picks ≡ [] → ReleasesTo thread l x picks
      none_to free is = record { to = None; is = is; waits = λ u e. absurd (cc); fits = λ e. sym (free e) }

      by_waits : (b : Bool) → any_waits l x ≡ b → needs_fault (shared_in s x) s.thread s.count (record { creates = (releasing l b).creates; asks = (releasing l b).asks }) picks ≡ None → ReleasesTo thread l x picks
      by_waits true e h = one_pick picks e (no_faults (creation_fault (shared_in s x) CreatesNothing) (picks_fault x.statuses (ranges_of s.memory) s.thread s.count (Waiter l ∷ []) picks) h).1
      by_waits false e h = none_to (λ k. e) (no_picks picks (no_faults (creation_fault (shared_in s x) CreatesNothing) (picks_fault x.statuses (ranges_of s.memory) s.thread s.count [] picks) h).1)

      by_held : (r : Result Bool Reason) → held ≡ r → needs_fault (shared_in s x) s.thread s.count (needs_of (told (λ b. Done (releasing l b)) r)) picks ≡ None → ReleasesTo thread l x picks
      by_held (Err reason) e h = none_to (λ k. absurd (err_ok (sym e ∙ k))) (no_picks picks (no_faults (creation_fault (shared_in s x) CreatesNothing) (picks_fault x.statuses (ranges_of s.memory) s.thread s.count [] picks) h).1)
        where
          err_ok : ◌≡◌ {A = Result Bool Reason} (Err reason) (Ok (any_waits l x)) → ⊥
          err_ok k = cc
      by_held (Ok b) e h = by_waits b (held_value b e) h
        where
          held_value : (b : Bool) → held ≡ Ok b → any_waits l x ≡ b
          held_value b k = same_ok (sym (holding_ok thread (slice_get x.holders l) (any_waits l x) b (any_waits l x) k) ∙ k)
            where
              same_ok : ◌≡◌ {A = Result Bool Reason} (Ok (any_waits l x)) (Ok b) → any_waits l x ≡ b
              same_ok q = cc

  -- the thread that the picks name waits, and so it is one
  pub waiter_known : ReleasesTo thread l x picks → PicksThread (length x.statuses) picks
  waiter_known to = record { to = to.to; is = to.is; known = λ u e. waits_known u (to.waits u e) }
    where
      waits_known : (u : ℕ) → waits l u x ≡ true → u < length x.statuses
      waits_known u h = by_status (slice_get x.statuses u) refl h
        where
          by_status : (o : Option Status) → slice_get x.statuses u ≡ o → on_lock l o ≡ true → u < length x.statuses
          by_status None e w = absurd (cc)
          by_status (Some status) e w = slice_get_within x.statuses u status e

  -- who holds a lock that is given back
  holder_holds : holder_of l x ≡ Some thread → holding thread (slice_get x.holders l) (any_waits l x) ≡ Ok (any_waits l x)
  holder_holds h = by_holder (slice_get x.holders l) h
    where
      by_holder : (o : Option (Option ℕ)) → taken_by o ≡ Some thread → holding thread o (any_waits l x) ≡ Ok (any_waits l x)
      by_holder None e = absurd (cc)
      by_holder (Some None) e = absurd (cc)
      by_holder (Some (Some k)) e = ap (λ (b : Bool). if b then Ok (any_waits l x) else Err NotHolder) (eq_test k thread (same_Some k thread e))

  listed_same : (a b : Option ℕ) → listed a ≡ listed b → a ≡ b
  listed_same None None e = refl
  listed_same None (Some u) e = absurd (cc)
  listed_same (Some u) None e = absurd (cc)
  listed_same (Some u) (Some v) e = cc

  pub waiter_given : (to : Option ℕ) → picks ≡ listed to → ReleasesTo thread l x picks → holder_of l x ≡ Some thread → names_waiter l to x ≡ any_waits l x
  waiter_given to is law h =
      subst (λ o. names_waiter l o x ≡ any_waits l x) (listed_same law.to to (sym law.is ∙ is)) (law.fits (holder_holds h))

  -- the notes of a release, whose event is noted twice
  abbrev gave : Option ℕ → Notes
  gave to = woke to (note (Release l) (note (Release l) (notes_in s)))

  abbrev pub handing : Option ℕ → Effect
  handing to = record { value = None; event = Release l; woken = to }

  abbrev after_given : Option ℕ → Result Tables Reason → Outcome (Option Val) (Shared × Notes)
  after_given to r = on (giving l to r (shared_in s x) (note (Release l) (notes_in s))) (λ u v. Went None v)

  abbrev given_by : Option ℕ → Tables → Bool → Outcome (Option Val) (Shared × Notes)
  given_by to new b = on (if b then Went tt (with_tables (shared_in s x) new, gave to) else Broken) (λ (u : Unit {0}) v. Went None v)

  pub release_went : (out : List ℕ) (to : Option ℕ) (new : Tables) → picks ≡ listed to → ReleasesTo thread l x picks → released thread l to x ≡ Ok new
      → IsDone intrinsic.Release (handing to) (operated intrinsic.Release (val.Int l ∷ []) types place picks (begun s x)) s new out out
  release_went out to new is law h = record {
    notes = gave to;
    went = operated_release ∙ ap (told (λ b. (releasing l b).go picks)) holds ∙ goes ∙ gives ∙ ap (given_by to new) fitting;
    tally = same_tally to;
    event = same_event to;
    going = same_going to;
    woken = same_woken to;
    printed = same_printed to;
  }
    where
      holds : held ≡ Ok (any_waits l x)
      holds = holding_ok thread (slice_get x.holders l) (handed l to x) new (any_waits l x) h

      given_is : names_waiter l to x ≡ any_waits l x
      given_is = subst (λ o. names_waiter l o x ≡ any_waits l x) (listed_same law.to to (sym law.is ∙ is)) (law.fits holds)

      waits_there : (u : ℕ) → to ≡ Some u → waits l u x ≡ true
      waits_there u e = law.waits u (listed_same law.to to (sym law.is ∙ is) ∙ e)

      fitting : fits l to x ≡ true
      fitting = by_to to refl given_is
        where
          by_to : (o : Option ℕ) → to ≡ o → names_waiter l o x ≡ any_waits l x → fits l o x ≡ true
          by_to None e w = ap not (sym w)
          by_to (Some u) e w = waits_there u e

      goes : run answer ((releasing l (any_waits l x)).go picks) (shared_in s x, note (Release l) (notes_in s)) ≡ run answer (unlocking l to) (shared_in s x, note (Release l) (notes_in s))
      goes = by_to to refl (any_waits l x) given_is
        where
          by_to : (o : Option ℕ) → to ≡ o → (b : Bool) → names_waiter l o x ≡ b → run answer ((releasing l b).go picks) (shared_in s x, note (Release l) (notes_in s)) ≡ run answer (unlocking l o) (shared_in s x, note (Release l) (notes_in s))
          by_to None e true w = absurd (cc)
          by_to None e false w = refl
          by_to (Some u) e true w = ap (λ ps. run answer ((releasing l true).go ps) (shared_in s x, note (Release l) (notes_in s))) (is ∙ ap listed e)
          by_to (Some u) e false w = absurd (let k = waits_there u e in cc)

      gives : run answer (unlocking l to) (shared_in s x, note (Release l) (notes_in s)) ≡ given_by to new (fits l to x)
      gives = ap (λ t. after_given to (released t l to x)) same ∙ ap (after_given to) h

      same_tally : (o : Option ℕ) → (gave o).tally ≡ tally_of s
      same_tally None = refl
      same_tally (Some u) = refl

      same_event : (o : Option ℕ) → event_of (gave o).events ≡ Release l
      same_event None = refl
      same_event (Some u) = refl

      same_going : (o : Option ℕ) → (gave o).ended ≡ false
      same_going None = refl
      same_going (Some u) = refl

      same_woken : (o : Option ℕ) → (gave o).woken ≡ listed o
      same_woken None = refl
      same_woken (Some u) = refl

      same_printed : (o : Option ℕ) → Prints intrinsic.Release (gave o).printed out out
      same_printed None = (refl, refl)
      same_printed (Some u) = (refl, refl)

-- the picks of arguments that are a lock
pub picks_of : (args : List Val) (types : List Ty) (place : Option Ty) (picks : List ℕ) (s : Scene) (x : Tables) (thread : ℕ) → s.thread ≡ thread → (l : ℕ) → args ≡ val.Int l ∷ []
    → AreLawful intrinsic.Release args types place picks s x → ReleasesTo thread l x picks
picks_of args types place picks s x thread same l is lawful =
    lawful_picks types place picks s x thread same l (subst (λ (vs : List Val). AreLawful intrinsic.Release vs types place picks s x) is lawful)

-- ---- with the arguments as they are read

module _ (args : List Val) (types : List Ty) (place : Option Ty) (picks : List ℕ) (s : Scene) (x : Tables) (number : ℕ) (read : slice_get args 0 ≡ Some (val.Int number)) where
  pub join_read : CanTake intrinsic.Join args → operated intrinsic.Join args types place picks (begun s x) ≡ operated intrinsic.Join (val.Int number ∷ []) types place picks (begun s x)
  join_read can =
      let takes = join_takes args can.types can.place can.fits in
      ap (λ (l : List Val). operated intrinsic.Join l types place picks (begun s x)) (one_read args (val.Int takes.number) (val.Int number) takes.is read)

  pub acquire_read : CanTake intrinsic.Acquire args → operated intrinsic.Acquire args types place picks (begun s x) ≡ operated intrinsic.Acquire (val.Int number ∷ []) types place picks (begun s x)
  acquire_read can =
      let takes = acquire_takes args can.types can.place can.fits in
      ap (λ (l : List Val). operated intrinsic.Acquire l types place picks (begun s x)) (one_read args (val.Int takes.number) (val.Int number) takes.is read)

pub release_read : (args : List Val) (number : ℕ) → slice_get args 0 ≡ Some (val.Int number) → CanTake intrinsic.Release args → args ≡ val.Int number ∷ []
release_read args number read can =
    let takes = release_takes args can.types can.place can.fits in one_read args (val.Int takes.number) (val.Int number) takes.is read
