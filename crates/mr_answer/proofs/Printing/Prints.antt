-- What a script prints, by its form.
use Rattle.mr_answer.proofs.Common.{◌≡◌, ℕ, refl, sym, subst, List, Bool, true, false, Option, Some, None, Result, Ok, Err, All, if◌then◌else◌, slice_get, list_all, is_printed}
use Rattle.std.proofs.lemmas.List.Elements.{All-push}
use Rattle.mr_base.specs.declared.reason.Reason.{Reason}
use Rattle.mr_base.specs.declared.thread.Event.{Event}
use Rattle.mr_base.specs.declared.thread.Event.TheVariants.{Acquire, Join, Release}
use Rattle.mr_base.specs.Script.{Ask, Broken, Done, IllFormed, Undefined, Went, run, ◌>>=◌}
use Rattle.mr_base.proofs.ScriptSwaps.{goes_on}
use Rattle.mr_step.specs.SyncTables.{Tables, acquired, any_waits, ended, holding, joined, released}
use Rattle.mr_step.specs.EvalMemoryQueries.{MemoryScript, memory_answer, reading_part}
use Rattle.mr_step.specs.EvalReads.{ReadScript}
use Rattle.mr_step.specs.PlanNotes.{Notes}
use Rattle.mr_step.specs.PlanQueries.{Await, Finish, NewLock, OfMemory, Print, Query, Reply, Shared, Start, StepScript, TryLock, Unlock, Waiting, answer, blocked, ending, fits, giving, going, in_shared, memory_part, note, tables_of, telling, with_tables, woke}
use Rattle.mr_step.proofs.PlanWentLaws.{at_outcome}
use Rattle.mr_step.proofs.FrameStorageSteps.{Leads}

-- a text of digits, small letters, `-` and space
abbrev pub IsPlain : List ℕ → Type 0
IsPlain text = list_all is_printed text ≡ true

-- ---- one query

-- it prints nothing, or such a text
abbrev pub MayPrint : Query → Type 0
MayPrint (Print text) = IsPlain text
MayPrint _ = Unit {0}

-- what was printed
abbrev pub printed : Shared × Notes → List (List ℕ)
printed w = w.1.printed

going_same : (e : Event) (stopped : Bool) (r : Result (Bool × Tables) Reason) (w w' : Shared × Notes) (x : Bool) → (if stopped then Broken else going e r w.0 w.1) ≡ Went x w' → printed w' ≡ printed w
going_same e true r w w' x h = absurd (cc)
going_same e false (Err cause) w w' x h = absurd (cc)
going_same e false (Ok p) w w' x h = at_outcome h (λ y v. printed v ≡ printed w) (by_test p.0)
  where
    by_test : (b : Bool) → printed (with_tables w.0 p.1, if b then note e w.1 else blocked e w.1) ≡ printed w
    by_test true = refl
    by_test false = refl

telling_same : (e : Event) (r : Result Bool Reason) (w w' : Shared × Notes) (x : Bool) → telling e r w.0 w.1 ≡ Went x w' → printed w' ≡ printed w
telling_same e (Err cause) w w' x h = absurd (cc)
telling_same e (Ok b) w w' x h = at_outcome h (λ y v. printed v ≡ printed w) refl

giving_same : (l : ℕ) (to : Option ℕ) (r : Result Tables Reason) (w w' : Shared × Notes) (x : Unit {0}) → giving l to r w.0 w.1 ≡ Went x w' → printed w' ≡ printed w
giving_same l to (Err cause) w w' x h = absurd (cc)
giving_same l to (Ok tables) w w' x h = by_test (fits l to (tables_of w.0)) h
  where
    woken : (o : Option ℕ) → printed (with_tables w.0 tables, woke o (note (Release l) w.1)) ≡ printed w
    woken None = refl
    woken (Some u) = refl

    by_test : (b : Bool) → (if b then Went tt (with_tables w.0 tables, woke to (note (Release l) w.1)) else Broken) ≡ Went x w' → printed w' ≡ printed w
    by_test true e = at_outcome e (λ y v. printed v ≡ printed w) (woken to)
    by_test false e = absurd (cc)

ending_same : (stopped : Bool) (e : Tables × List ℕ) (w w' : Shared × Notes) (x : Unit {0}) → (if stopped then Broken else ending e w.0 w.1) ≡ Went x w' → printed w' ≡ printed w
ending_same true e w w' x h = absurd (cc)
ending_same false e w w' x h = at_outcome h (λ y v. printed v ≡ printed w) refl

kept : (w w' : Shared × Notes) → printed w' ≡ printed w → All IsPlain (printed w) → All IsPlain (printed w')
kept w w' e h = subst (All IsPlain) (sym e) h

-- an answer leaves such texts
query_plain : (q : Query) (w w' : Shared × Notes) (x : Reply q) → MayPrint q → answer q w ≡ Went x w' → All IsPlain (printed w) → All IsPlain (printed w')
query_plain (OfMemory q) w w' x m h plain =
    let g = goes_on (memory_answer q (w.0.memory, w.1.tally)) (in_shared w) x w' h in
    kept w w' (at_outcome g.rest (λ y v. printed v ≡ printed w) refl) plain
query_plain NewLock w w' x m h plain = kept w w' (at_outcome h (λ y v. printed v ≡ printed w) refl) plain
query_plain (TryLock l) w w' x m h plain = kept w w' (going_same (Acquire l) w.1.stopped (acquired w.1.tally.thread l (tables_of w.0)) w w' x h) plain
query_plain (Waiting l) w w' x m h plain =
    kept w w' (telling_same (Release l) (holding w.1.tally.thread (slice_get w.0.holders l) (any_waits l (tables_of w.0))) w w' x h) plain
query_plain (Unlock l to) w w' x m h plain = kept w w' (giving_same l to (released w.1.tally.thread l to (tables_of w.0)) w w' x h) plain
query_plain Start w w' x m h plain = kept w w' (at_outcome h (λ y v. printed v ≡ printed w) refl) plain
query_plain (Await u) w w' x m h plain = kept w w' (going_same (Join u) w.1.stopped (joined w.1.tally.thread u (tables_of w.0)) w w' x h) plain
query_plain Finish w w' x m h plain = kept w w' (ending_same w.1.stopped (ended w.1.tally.thread (tables_of w.0)) w w' x h) plain
query_plain (Print text) w w' x m h plain = at_outcome h (λ y v. All IsPlain (printed v)) (All-push IsPlain (printed w) text plain m)

-- ---- scripts

-- Whatever it is answered, a script prints such texts alone, and P holds of what it comes to.
abbrev pub Prints : {A : Type 0} → (A → Type 0) → StepScript A → Type 0
Prints P (Done a) = P a
Prints P (Undefined r) = Unit {0}
Prints P IllFormed = Unit {0}
Prints P (Ask q k) = MayPrint q × ((x : Reply q) → Prints P (k x))

-- nothing needs to hold of it
abbrev pub Anything : {A : Type 0} → A → Type 0
Anything a = Unit {0}

-- WHAT A RUN PRINTS
pub run_prints : {A : Type 0} (P : A → Type 0) (script : StepScript A) (w w' : Shared × Notes) (x : A) → Prints P script → All IsPlain (printed w) → run answer script w ≡ Went x w' → All IsPlain (printed w')
run_prints P (Done a) w w' x h plain e = at_outcome e (λ y v. All IsPlain (printed v)) plain
run_prints P (Undefined r) w w' x h plain e = absurd (cc)
run_prints P IllFormed w w' x h plain e = absurd (cc)
run_prints P (Ask q k) w w' x h plain e =
    let g = goes_on (answer q w) (λ y v. run answer (k y) v) x w' e in
    run_prints P (k g.value) g.mid w' x (h.1 g.value) (query_plain q w g.mid g.value h.0 g.first plain) g.rest

-- a script, and one behind it
pub prints_then : {A B : Type 0} (P : A → Type 0) (Q : B → Type 0) (m : StepScript A) (f : A → StepScript B) → Prints P m → ((x : A) → P x → Prints Q (f x)) → Prints Q (m >>= f)
prints_then P Q (Done a) f h k = k a h
prints_then P Q (Undefined r) f h k = tt
prints_then P Q IllFormed f h k = tt
prints_then P Q (Ask q c) f h k = (h.0, λ x. prints_then P Q (c x) f (h.1 x) k)

-- a part that asks memory alone, and what is done behind it
pub memory_prints : {A B : Type 0} (Q : B → Type 0) (m : MemoryScript A) (f : A → StepScript B) → ((x : A) → Prints Q (f x)) → Prints Q (memory_part m >>= f)
memory_prints Q (Done a) f k = k a
memory_prints Q (Undefined r) f k = tt
memory_prints Q IllFormed f k = tt
memory_prints Q (Ask q c) f k = (tt, λ x. memory_prints Q (c x) f k)

-- evaluation, and what is done with what it found
pub reads_print : {A B : Type 0} (Found : A → Type 0) (Q : B → Type 0) (m : ReadScript A) (f : A → StepScript B) → Leads Found m → ((x : A) → Found x → Prints Q (f x)) → Prints Q (memory_part (reading_part m) >>= f)
reads_print Found Q (Done a) f h k = k a h
reads_print Found Q (Undefined r) f h k = tt
reads_print Found Q IllFormed f h k = tt
reads_print Found Q (Ask q c) f h k = (tt, λ x. reads_print Found Q (c x) f (h x) k)
