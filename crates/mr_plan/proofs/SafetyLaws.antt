-- Scripts over memory that are never ill-formed, by their parts, and their runs.
use Rattle.mr_plan.proofs.Common.{◌≡◌, ℕ, ◌<◌, refl, subst, Result, Ok, Err, Option, None, Some, Bool, true, false, List, length, Pointer, Reason, Changes, AbstractByte, Memory, freed, read, written, Done, Undefined, IllFormed, Ask, ◌>>=◌, Outcome, Went, Refused, Broken, on, run, ReadScript, Seen, accessing, answered, reading, seeing, touching, Allocate, Free, MemoryQuery, MemoryScript, Modify, Reading, Write, changing, memory_answer, number_bytes, reading_part, replacing, Tally, seen_of, with_seen}
use Rattle.std.proofs.Common.{◌*◌, ◌^◌}
use Rattle.mr_base.specs.declared.reached.Reached.{Reached}
use Rattle.mr_base.specs.declared.reached.Reaching.{Reaching}
use Rattle.mr_base.specs.Stops.{reached_by}
use Rattle.mr_eval.proofs.ReadLength.{IsWhere, read_length}
use Rattle.mr_base.proofs.ScriptRuns.{safe_bind}
use Rattle.mr_eval.specs.ValueNumbers.{number_of}
use Rattle.mr_eval.proofs.ValueDecodeShape.{number_fits}
use Rattle.mr_eval.specs.Reads.{ReadQuery, lending}
use Rattle.mr_eval.specs.MemoryQueries.{modifying}
use Rattle.mr_eval.specs.Sound.{Comes, Good, IsSafe, any_result}
use Rattle.mr_eval.specs.Stores.{storing}
use Rattle.mr_eval.proofs.SafeRuns.{safe_comes}
use Rattle.mr_plan.specs.Safety.{GoodReply, IsSafeChange}

-- ---- parts

pub reading_safe : {A : Type 0} (P : A → Type 0) (script : ReadScript A) → IsSafe P script → IsSafeChange P (reading_part script)
reading_safe P (Done x) h = h
reading_safe P (Undefined r) h = tt
reading_safe P IllFormed h = h
reading_safe P (Ask q k) h = λ x good. reading_safe P (k x) (h x good)

pub change_then : {A B : Type 0} (P : A → Type 0) (Q : B → Type 0) (m : MemoryScript A) (f : A → MemoryScript B) → IsSafeChange P m → ((x : A) → P x → IsSafeChange Q (f x)) → IsSafeChange Q (m >>= f)
change_then P Q m f h k = safe_bind GoodReply P Q m f h k

-- what evaluation reads, and then a change
pub read_then : {A B : Type 0} (P : A → Type 0) (Q : B → Type 0) (m : ReadScript A) (f : A → MemoryScript B) → IsSafe P m → ((x : A) → P x → IsSafeChange Q (f x)) → IsSafeChange Q (reading_part m >>= f)
read_then P Q m f h k = change_then P Q (reading_part m) f (reading_safe P m h) k

-- ---- runs

pub comes_on : {A B S T : Type 0} (P : A → Type 0) (Q : B → Type 0) (o : Outcome A S) (f : A → S → Outcome B T) → Comes P o → ((x : A) (s : S) → P x → Comes Q (f x s)) → Comes Q (on o f)
comes_on P Q (Went x s) f h k = k x s h
comes_on P Q (Refused r) f h k = tt
comes_on P Q Broken f h k = h

answered_comes : {X A S : Type 0} (Q : A → Type 0) (bytes : Reached) (r : Result X Reason) (f : X → Outcome A S) → ((x : X) → Comes Q (f x)) → Comes Q (answered bytes r f)
answered_comes Q bytes (Ok x) f h = h x
answered_comes Q bytes (Err e) f h = tt

pub on_itself : {A S : Type 0} (o : Outcome A S) → on o (λ x s. Went x s) ≡ o
on_itself (Went x s) = refl
on_itself (Refused r) = refl
on_itself Broken = refl

pub reading_comes : (m : Memory) (q : ReadQuery) (seen : Seen) → Comes (Good q) (reading m q seen)
reading_comes m q seen = subst (Comes (Good q)) (on_itself (reading m q seen)) (safe_comes (Good q) m (Ask q Done) (λ x good. good) seen)

replacing_comes : (m : Memory) (p : Pointer) (size old : ℕ) (new : Option ℕ) (seen : Seen) → old < 2 ^ (8 * size) → Comes (λ x. x < 2 ^ (8 * size)) (replacing m p size old new seen)
replacing_comes m p size old None seen h = h
replacing_comes m p size old (Some k) seen h = answered_comes (λ x. x < 2 ^ (8 * size)) _ (written m p (number_bytes size k) size) _ (λ after. h)

changing_comes : (m : Memory) (p : Pointer) (size : ℕ) (change : ℕ → Option ℕ) (o : Option ℕ) (seen : Seen) → ((n : ℕ) → o ≡ Some n → n < 2 ^ (8 * size)) → Comes (λ x. x < 2 ^ (8 * size)) (changing m p size change o seen)
changing_comes m p size change None seen h = tt
changing_comes m p size change (Some n) seen h = replacing_comes m p size n (change n) seen (h n refl)

lending_comes : (m : Memory) (doing : Reaching) (atomic : Bool) (p : Pointer) (len align : ℕ) (seen : Seen) → Comes (λ bytes. length bytes ≡ len) (lending m doing atomic p len align seen)
lending_comes m doing atomic p len align seen = by_answer (read m p len align) (read_length m p len align)
  where
    by_answer : (r : Result (List AbstractByte) Reason) → IsWhere (λ bytes. length bytes ≡ len) r
        → Comes (λ bytes. length bytes ≡ len) (answered (reached_by doing p len) r (λ bytes. Went bytes (seeing (accessing false atomic p len) (touching p len) seen)))
    by_answer (Ok bytes) h = h
    by_answer (Err r) h = tt

modifying_comes : (m : Memory) (p : Pointer) (size : ℕ) (change : ℕ → Option ℕ) (seen : Seen) → Comes (λ x. x < 2 ^ (8 * size)) (modifying m p size change seen)
modifying_comes m p size change seen =
    comes_on (λ bytes. length bytes ≡ size) (λ x. x < 2 ^ (8 * size)) (lending m Changes true p size size seen) (λ bytes s. changing m p size change (number_of bytes) s)
    (lending_comes m Changes true p size size seen)
    (λ bytes s good. changing_comes m p size change (number_of bytes) s (λ n e. subst (λ k. n < 2 ^ (8 * k)) good (number_fits bytes n e)))

-- what memory answers has a rule
pub answer_comes : (q : MemoryQuery) (w : Memory × Tally) → Comes (GoodReply q) (memory_answer q w)
answer_comes (Reading q) w =
    comes_on (Good q) (Good q) (reading w.0 q (seen_of w.1)) (λ x s. Went x (w.0, with_seen w.1 s)) (reading_comes w.0 q (seen_of w.1)) (λ x s good. good)
answer_comes (Write atomic p bytes align) w =
    comes_on any_result (GoodReply (Write atomic p bytes align)) (storing w.0 atomic p bytes align (seen_of w.1)) (λ m s. Went tt (m, with_seen w.1 s))
    (answered_comes any_result _ (written w.0 p bytes align) _ (λ new. tt)) (λ m s good. tt)
answer_comes (Modify p size change) w =
    comes_on (λ x. x < 2 ^ (8 * size)) (GoodReply (Modify p size change)) (modifying w.0 p size change (seen_of w.1)) (λ x v. Went x (v.0, with_seen w.1 v.1))
    (modifying_comes w.0 p size change (seen_of w.1)) (λ x v good. good)
answer_comes (Allocate kind size align addr) w = tt
answer_comes (Free p kind size align) w = answered_comes (GoodReply (Free p kind size align)) _ (freed w.0 p kind size align) _ (λ f. tt)

-- A SAFE SCRIPT COMES TO NO STATE WITHOUT A RULE, over any memory
pub change_comes : {A : Type 0} (P : A → Type 0) (script : MemoryScript A) → IsSafeChange P script → (w : Memory × Tally) → Comes P (run memory_answer script w)
change_comes P (Done x) h w = h
change_comes P (Undefined r) h w = tt
change_comes P IllFormed h w = h
change_comes P (Ask q k) h w =
    comes_on (GoodReply q) P (memory_answer q w) (λ x v. run memory_answer (k x) v) (answer_comes q w) (λ x v good. change_comes P (k x) (h x good) v)
