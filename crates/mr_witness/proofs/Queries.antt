-- No query is refused with a data race.
use Rattle.mr_witness.proofs.Common.{ℕ, refl, List, Bool, true, false, Option, Some, None, Result, Ok, Err, ◌==◌, if◌then◌else◌, slice_get, Pointer, Reason, number_of, Broken, Outcome, Refused, Went, on, Allocate, Check, answered, OfMemory, Shared, answer}
use Rattle.mr_base.specs.declared.reached.Reaching.TheVariants.{Changes}
use Rattle.mr_base.specs.declared.byte.AbstractByte.{AbstractByte}
use Rattle.mr_base.specs.declared.byte.Kind.{Kind}
use Rattle.mr_base.specs.declared.reason.Reason.TheVariants.{DanglingReference, NotHolder}
use Rattle.mr_base.specs.declared.thread.Event.{Event}
use Rattle.mr_base.specs.declared.thread.Event.TheVariants.{Acquire, Join, Release}
use Rattle.mr_eval.proofs.MemSpeakingLaws.{checked_speaks, freed_speaks, read_speaks, written_speaks}
use Rattle.mr_eval.specs.MemMemory.{Memory, checked, freed, read, written}
use Rattle.mr_exchange.specs.SyncTables.{Tables, acquired, any_waits, awaiting, ended, holding, joined, over, released, trying}
use Rattle.mr_eval.specs.MemoryQueries.{Free, MemoryQuery, Modify, Reading, Write, changing, memory_answer, modifying, number_bytes, replacing}
use Rattle.mr_eval.specs.Reads.{Read, ReadQuery, Refer, Seen, lending, named, reading}
use Rattle.mr_eval.specs.Stores.{storing}
use Rattle.mr_eval.specs.Tally.{Tally}
use Rattle.mr_exchange.specs.PlanNotes.{Notes}
use Rattle.mr_exchange.specs.PlanQueries.{Await, Finish, NewLock, Print, Query, Start, TryLock, Unlock, Waiting, blocked, ending, fits, giving, going, in_shared, note, tables_of, telling, with_tables, woke}
use Rattle.mr_witness.proofs.Calm.{CalmOutcome, CalmResult, calm_answered, calm_on, spoken_result}

-- ---- memory

checked_calm : (m : Memory) (p : Pointer) (len : ℕ) → CalmResult (checked m p len)
checked_calm m p len = spoken_result (checked m p len) (checked_speaks m p len)

read_calm : (m : Memory) (p : Pointer) (len align : ℕ) → CalmResult (read m p len align)
read_calm m p len align = spoken_result (read m p len align) (read_speaks m p len align)

written_calm : (m : Memory) (p : Pointer) (bytes : List AbstractByte) (align : ℕ) → CalmResult (written m p bytes align)
written_calm m p bytes align = spoken_result (written m p bytes align) (written_speaks m p bytes align)

freed_calm : (m : Memory) (p : Pointer) (kind : Kind) (size align : ℕ) → CalmResult (freed m p kind size align)
freed_calm m p kind size align = spoken_result (freed m p kind size align) (freed_speaks m p kind size align)

-- ---- queries to memory

named_calm : {X : Type 0} (r : Result X Reason) → CalmResult (named DanglingReference r)
named_calm (Ok x) = tt
named_calm (Err cause) = refl

reading_calm : (m : Memory) (q : ReadQuery) (s : Seen) → CalmOutcome (reading m q s)
reading_calm m (Check p len) s = calm_answered _ (checked m p len) _ (checked_calm m p len) (λ x. tt)
reading_calm m (Refer p len) s = calm_answered _ (named DanglingReference (checked m p len)) _ (named_calm (checked m p len)) (λ x. tt)
reading_calm m (Read atomic p len align) s = calm_answered _ (read m p len align) _ (read_calm m p len align) (λ x. tt)

storing_calm : (m : Memory) (atomic : Bool) (p : Pointer) (bytes : List AbstractByte) (align : ℕ) (s : Seen) → CalmOutcome (storing m atomic p bytes align s)
storing_calm m atomic p bytes align s = calm_answered _ (written m p bytes align) _ (written_calm m p bytes align) (λ x. tt)

replacing_calm : (m : Memory) (p : Pointer) (size old : ℕ) (new : Option ℕ) (s : Seen) → CalmOutcome (replacing m p size old new s)
replacing_calm m p size old None s = tt
replacing_calm m p size old (Some new) s = calm_answered _ (written m p (number_bytes size new) size) _ (written_calm m p (number_bytes size new) size) (λ x. tt)

changing_calm : (m : Memory) (p : Pointer) (size : ℕ) (change : ℕ → Option ℕ) (o : Option ℕ) (s : Seen) → CalmOutcome (changing m p size change o s)
changing_calm m p size change None s = refl
changing_calm m p size change (Some n) s = replacing_calm m p size n (change n) s

modifying_calm : (m : Memory) (p : Pointer) (size : ℕ) (change : ℕ → Option ℕ) (s : Seen) → CalmOutcome (modifying m p size change s)
modifying_calm m p size change s = calm_on (lending m Changes true p size size s) _ (calm_answered _ (read m p size size) _ (read_calm m p size size) (λ x. tt)) (λ bytes t. changing_calm m p size change (number_of bytes) t)

memory_calm : (q : MemoryQuery) (w : Memory × Tally) → CalmOutcome (memory_answer q w)
memory_calm (Reading q) w = calm_on (reading w.0 q _) _ (reading_calm w.0 q _) (λ x s. tt)
memory_calm (Write atomic p bytes align) w = calm_on (storing w.0 atomic p bytes align _) _ (storing_calm w.0 atomic p bytes align _) (λ m s. tt)
memory_calm (Modify p size change) w = calm_on (modifying w.0 p size change _) _ (modifying_calm w.0 p size change _) (λ x v. tt)
memory_calm (Allocate kind size align addr) w = tt
memory_calm (Free p kind size align) w = calm_answered _ (freed w.0 p kind size align) _ (freed_calm w.0 p kind size align) (λ f. tt)

-- ---- the tables

trying_calm : (t l : ℕ) (o : Option (Option ℕ)) (s : Tables) → CalmResult (trying t l o s)
trying_calm t l None s = refl
trying_calm t l (Some None) s = tt
trying_calm t l (Some (Some h)) s = tt

holding_calm : {A : Type 0} (t : ℕ) (o : Option (Option ℕ)) (a : A) → CalmResult (holding t o a)
holding_calm t None a = refl
holding_calm t (Some None) a = refl
holding_calm {A} t (Some (Some h)) a = by (h == t)
  where
    by : (b : Bool) → CalmResult {X = A} (if b then Ok a else Err NotHolder)
    by true = tt
    by false = refl

awaiting_calm : (t u : ℕ) (o : Option Bool) (s : Tables) → CalmResult (awaiting t u o s)
awaiting_calm t u None s = refl
awaiting_calm t u (Some true) s = tt
awaiting_calm t u (Some false) s = tt

going_calm : (e : Event) (r : Result (Bool × Tables) Reason) (w : Shared × Notes) (stopped : Bool) → CalmResult r → CalmOutcome (if stopped then Broken else going e r w.0 w.1)
going_calm e r w true h = tt
going_calm e (Ok p) w false h = tt
going_calm e (Err r) w false h = h

telling_calm : (e : Event) (r : Result Bool Reason) (w : Shared × Notes) → CalmResult r → CalmOutcome (telling e r w.0 w.1)
telling_calm e (Ok b) w h = tt
telling_calm e (Err r) w h = h

giving_calm : (l : ℕ) (to : Option ℕ) (r : Result Tables Reason) (w : Shared × Notes) → CalmResult r → CalmOutcome (giving l to r w.0 w.1)
giving_calm l to (Err r) w h = h
giving_calm l to (Ok x) w h = by (fits l to (tables_of w.0))
  where
    by : (b : Bool) → CalmOutcome {A = Unit {0}} {S = Shared × Notes} (if b then Went tt (with_tables w.0 x, woke to (note (Release l) w.1)) else Broken)
    by true = tt
    by false = tt

ending_calm : (w : Shared × Notes) (stopped : Bool) → CalmOutcome (if stopped then Broken else ending (ended w.1.tally.thread (tables_of w.0)) w.0 w.1)
ending_calm w true = tt
ending_calm w false = tt

-- EACH QUERY
pub answer_calm : (q : Query) (w : Shared × Notes) → CalmOutcome (answer q w)
answer_calm (OfMemory q) w = calm_on (memory_answer q (w.0.memory, w.1.tally)) (in_shared w) (memory_calm q (w.0.memory, w.1.tally)) (λ x v. tt)
answer_calm NewLock w = tt
answer_calm (TryLock l) w = going_calm (Acquire l) (acquired w.1.tally.thread l (tables_of w.0)) w w.1.stopped (trying_calm w.1.tally.thread l (slice_get w.0.holders l) (tables_of w.0))
answer_calm (Waiting l) w = telling_calm (Release l) (holding w.1.tally.thread (slice_get w.0.holders l) (any_waits l (tables_of w.0))) w (holding_calm w.1.tally.thread (slice_get w.0.holders l) (any_waits l (tables_of w.0)))
answer_calm (Unlock l to) w = giving_calm l to (released w.1.tally.thread l to (tables_of w.0)) w (holding_calm w.1.tally.thread (slice_get w.0.holders l) _)
answer_calm Start w = tt
answer_calm (Await u) w = going_calm (Join u) (joined w.1.tally.thread u (tables_of w.0)) w w.1.stopped (awaiting_calm w.1.tally.thread u (over (slice_get w.0.statuses u)) (tables_of w.0))
answer_calm Finish w = ending_calm w w.1.stopped
answer_calm (Print text) w = tt
