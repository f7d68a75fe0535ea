-- What atomic accesses come to, by the loads and stores that the code makes.
use Rattle.mr_intr.proofs.Common.{◌≡◌, ℕ, ◌*◌, ◌^◌, ◌<◌, refl, subst, sym, ap, ◌∙◌, List, [], ◌∷◌, Option, Some, None, Bool, true, false, Result, Ok, Err, Stop, reached_by, stop_with, eq_test, lt_test, if◌then◌else◌, slice_get, same_Some, int_size, Intrinsic, IntType, Ty, out-Ty, AbstractByte, Pointer, Reason, align_of, size_int, Memory, read, written, Val, has_int, encoding_of, Bytes, number_of, Done, Ask, ◌>>=◌, Outcome, Broken, Went, Refused, on, run, seen, Modify, Write, memory_answer, number_bytes, reading_part, Read, accessing, seeing, World, tally_of, world_of, Scene, Tables, Notes, OfMemory, Shared, answer, in_shared, memory_part, IsFetch, numbered, Does, Fits, FitsPlace, IsDone, Prints, begun, notes_in, operated, exchanged, fetched, found, loaded, modify, Effect, integer_in}
use Rattle.mr_base.specs.declared.reason.Reason.TheVariants.{InvalidValue}
use Rattle.mr_base.specs.Stops.{over}
use Rattle.mr_base.specs.declared.reached.Reached.{Reached}
use Rattle.mr_base.specs.declared.reached.Reaching.{Reaching}
use Rattle.mr_base.specs.declared.reached.Reaching.TheVariants.{Changes, Loads}
use Rattle.std.specs.Result.{IsErrAnd}
use Rattle.mr_layout.proofs.AlignLaws.{align_int}
use Rattle.mr_mem.proofs.SpeakingLaws.{SpeakResult, read_speaks, written_speaks}
use Rattle.mr_eval.proofs.RefusedLaws.{answer_refused, refused_leaves}
use Rattle.mr_mem.specs.Stored.{IsStored}
use Rattle.mr_mem.specs.declared.fault.Fault.{Fault}
use Rattle.mr_eval.specs.Environment.{Leaves, Tells}
use Rattle.mr_eval.specs.MemoryQueries.{changing, replacing}
use Rattle.mr_eval.specs.Reads.{Seen, answered, lending, touching}
use Rattle.mr_eval.specs.Stores.{storing}
use Rattle.mr_eval.specs.Tally.{Tally, seen_of, with_seen}
use Rattle.mr_intr.specs.Atomics.{number_read, number_written}
use Rattle.mr_ast.specs.declared.program.Intrinsic.TheVariants as intrinsic
use Rattle.mr_ast.specs.declared.types.Ty.TheVariants as ty
use Rattle.mr_mem.specs.declared.fault.Fault.TheVariants as fault
use Rattle.mr_value.specs.declared.val.Val.TheVariants as val
use Rattle.mr_intr.proofs.Arguments.{TakesStore, atomic_load_takes, exchange_takes, fetch_takes, one_read, three_read, two_read}
use Rattle.mr_intr.proofs.AtomicLaws.{same_bits}
use Rattle.mr_intr.proofs.OperatedLaws.{asked, int_number, ptr_pointer, quiet}

-- ---- faults that are handed on

pub handed_on : {X S : Type 0} (r : Result X Fault) (f : Fault) (o : Outcome X S) (s : S) (refused : Option Reached) → IsErrAnd r (λ e. e ≡ f) → Tells {X = X} (Err f) o s refused → Tells r o s refused
handed_on (Ok x) f o s refused is h = absurd is
handed_on (Err e) f o s refused is h = subst (λ g. Tells (Err g) o s refused) (sym is) h

-- ---- a read of a number that is refused

module _ (m : Memory) (doing : Reaching) (p : Pointer) (size : ℕ) (s : Seen) (last : Option Reached) (noted : last ≡ Some (reached_by doing p size)) where
  abbrev read_then : Outcome Bytes Seen → Outcome ℕ Seen
  read_then o = on o (λ bytes z. answered (reached_by doing p size) (numbered (number_of bytes)) (λ n. Went n z))

  pub number_refused : (r : Reason) → read m p size size ≡ Err r → number_read m doing p size s ≡ Refused (stop_with last r)
  number_refused r is = ap read_then (answer_refused (reached_by doing p size) (read m p size size) _ (read_speaks m p size size) last noted r is)

  numbered_speaks : (o : Option ℕ) → SpeakResult (numbered o)
  numbered_speaks None = refl
  numbered_speaks (Some n) = tt

  -- bytes that are lent, and are no number
  pub number_missing : (bytes : Bytes) (r : Reason) → read m p size size ≡ Ok bytes → numbered (number_of bytes) ≡ Err r → number_read m doing p size s ≡ Refused (stop_with last r)
  number_missing bytes r lent is =
      ap (λ (w : Result Bytes Reason). read_then (answered (reached_by doing p size) w (λ all. Went all (seeing (accessing false true p size) (touching p size) s)))) lent
      ∙ answer_refused (reached_by doing p size) (numbered (number_of bytes)) _ (numbered_speaks (number_of bytes)) last noted r is

-- ---- a store of a number

pub stored_went : (m new : Memory) (p : Pointer) (size n : ℕ) (old s : Seen) → written m p (number_bytes size n) size ≡ Ok new
    → s ≡ seeing (accessing true true p size) [] old → number_written m p size n old ≡ Went new s
stored_went m new p size n old s h e =
    ap (λ (w : Result Memory Reason). answered (reached_by Changes p size) w (λ after. Went after (seeing (accessing true true p size) [] old))) h ∙ ap (λ z. Went new z) (sym e)

pub stored_refused : (m new : Memory) (p : Pointer) (size n : ℕ) (old s : Seen) (f : Fault) (last : Option Reached) → IsStored (written m p (number_bytes size n) size) new (Err f)
    → last ≡ Some (reached_by Changes p size) → Leaves (Err f) (number_written m p size n old) new s last
stored_refused m new p size n old s f last h noted =
    refused_leaves (reached_by Changes p size) f (written m p (number_bytes size n) size) new _ s last (written_speaks m p (number_bytes size n) size) h noted

-- ---- a read and a change in one

module _ (m : Memory) (n : Tally) (p : Pointer) (size : ℕ) (change : ℕ → Option ℕ) where
  abbrev behind : ℕ → Seen → Outcome ℕ World
  behind k s = on (replacing m p size k (change k) s) (λ x v. Went x (v.0, with_seen n v.1))

  modify_run : memory_answer (Modify p size change) (m, n) ≡ on (number_read m Changes p size (seen_of n)) behind
  modify_run = by_read (lending m Changes true p size size (seen_of n))
    where
      by_number : (o : Option ℕ) (s : Seen) → on (changing m p size change o s) (λ x v. Went x (v.0, with_seen n v.1)) ≡ on (answered (reached_by Changes p size) (numbered o) (λ k. Went k s)) behind
      by_number None s = refl
      by_number (Some k) s = refl

      by_read : (o : Outcome Bytes Seen) → on (on o (λ bytes s. changing m p size change (number_of bytes) s)) (λ x v. Went x (v.0, with_seen n v.1)) ≡ on (on o (λ bytes s. answered (reached_by Changes p size) (numbered (number_of bytes)) (λ k. Went k s))) behind
      by_read (Went bytes s) = by_number (number_of bytes) s
      by_read (Refused r) = refl
      by_read Broken = refl

  pub modify_refused : (r : Stop) → number_read m Changes p size (seen_of n) ≡ Refused r → memory_answer (Modify p size change) (m, n) ≡ Refused r
  modify_refused r h = modify_run ∙ ap (λ (o : Outcome ℕ Seen). on o behind) h

  pub modify_fault : (f : Fault) (s : Seen) (w : World) (refused : Option Reached) → Tells {X = ℕ} (Err f) (number_read m Changes p size (seen_of n)) s refused → Tells {X = ℕ} (Err f) (memory_answer (Modify p size change) (m, n)) w refused
  modify_fault (fault.Undefined r) s w refused h = modify_refused (stop_with refused r) h
  modify_fault fault.Memory s w refused h = tt

  module _ (k : ℕ) (s : Seen) (went : number_read m Changes p size (seen_of n) ≡ Went k s) where
    went_on : memory_answer (Modify p size change) (m, n) ≡ behind k s
    went_on = modify_run ∙ ap (λ (o : Outcome ℕ Seen). on o behind) went

    module _ (new : ℕ) (some : change k ≡ Some new) where
      abbrev noted : Seen
      noted = seeing (accessing true true p size) [] s

      abbrev stored : Memory → Seen → Outcome ℕ World
      stored after last = Went k (after, with_seen n last)

      replaced : memory_answer (Modify p size change) (m, n) ≡ on (number_written m p size new s) stored
      replaced =
          went_on
          ∙ ap (λ (o : Option ℕ). on (replacing m p size k o s) (λ x v. Went x (v.0, with_seen n v.1))) some
          ∙ by_write (written m p (number_bytes size new) size)
        where
          by_write : (r : Result Memory Reason) → on (answered (reached_by Changes p size) r (λ after. Went k (after, noted))) (λ (x : ℕ) (v : Memory × Seen). Went x (v.0, with_seen n v.1))
              ≡ on (answered (reached_by Changes p size) r (λ after. Went after noted)) stored
          by_write (Ok after) = refl
          by_write (Err r) = refl

      pub modify_stored : (after : Memory) (last : Seen) → number_written m p size new s ≡ Went after last → memory_answer (Modify p size change) (m, n) ≡ Went k (after, with_seen n last)
      modify_stored after last h = replaced ∙ ap (λ (o : Outcome Memory Seen). on o stored) h

      pub modify_unstored : (f : Fault) (after : Memory) (last : Seen) (w : World) (refused : Option Reached) → Leaves (Err f) (number_written m p size new s) after last refused → Tells {X = ℕ} (Err f) (memory_answer (Modify p size change) (m, n)) w refused
      modify_unstored (fault.Undefined r) after last w refused h = replaced ∙ ap (λ (o : Outcome Memory Seen). on o stored) h
      modify_unstored fault.Memory after last w refused h = tt

-- a change that is made where a number is expected
pub exchange_made : (expected new k : ℕ) → k ≡ expected → exchanged expected new k ≡ Some new
exchange_made expected new k e = ap (λ (b : Bool). if b then Some new else None) (eq_test k expected e)

-- ---- an atomic store

pub write_went : (s : Scene) (after : Memory) (last : Seen) (p : Pointer) (bytes : List AbstractByte) (align : ℕ) → storing s.memory true p bytes align (seen s.notes) ≡ Went after last
    → memory_answer (Write true p bytes align) (world_of s) ≡ Went tt (after, with_seen (tally_of s) last)
write_went s after last p bytes align h = ap (λ (o : Outcome Memory Seen). on o (λ m l. Went tt (m, with_seen (tally_of s) l))) h

pub write_fault : (s : Scene) (f : Fault) (after : Memory) (last : Seen) (p : Pointer) (bytes : List AbstractByte) (align : ℕ) (w : World) (refused : Option Reached)
    → Leaves (Err f) (storing s.memory true p bytes align (seen s.notes)) after last refused → Tells {X = Unit {0}} (Err f) (memory_answer (Write true p bytes align) (world_of s)) w refused
write_fault s (fault.Undefined r) after last p bytes align w refused h = ap (λ (o : Outcome Memory Seen). on o (λ m l. Went tt (m, with_seen (tally_of s) l))) h
write_fault s fault.Memory after last p bytes align w refused h = tt

-- ---- by intrinsic

int_there : (i : IntType) → integer_in (out-Ty (ty.Int i)) ≡ Some i
int_there i = ap integer_in (ty.outs-Int i)

module _ (types : List Ty) (picks : List ℕ) (p : Pointer) (int : IntType) where
  pub operated_store : (bits : ℕ) (first : Ty) (place : Option Ty) (w : Shared × Notes)
      → operated intrinsic.AtomicStore (val.Ptr p ∷ val.Int bits ∷ []) (first ∷ ty.Int int ∷ []) place picks w
      ≡ asked (Write true p (encoding_of (ty.Int int) (val.Int bits)) (align_of (ty.Int int))) (λ u. None) w
  unfolding operated
  operated_store bits first place w =
      λ i. run answer (found (ptr_pointer p i) >>= λ at. Ask (OfMemory (Write true at (encoding_of (ty.Int int) (val.Int bits)) (align_of (ty.Int int)))) (λ u. Done None)) w

  pub operated_exchange : (expected new : ℕ) (w : Shared × Notes)
      → operated intrinsic.CompareExchange (val.Ptr p ∷ val.Int expected ∷ val.Int new ∷ []) types (Some (ty.Int int)) picks w
      ≡ asked (Modify p (int_size int) (exchanged expected new)) (λ n. Some (val.Int n)) w
  unfolding operated
  operated_exchange expected new w =
      (λ i. run answer (found (int_number expected i) >>= λ a. found (int_number new i) >>= λ b. modify (val.Ptr p) (ty.Int int) (exchanged a b)) w)
      ∙ (λ i. run answer (found (ptr_pointer p i) >>= λ at. Ask (OfMemory (Modify at (size_int int i) (exchanged expected new))) (λ n. Done (Some (val.Int n)))) w)

  fetching : (op : Intrinsic) (by : ℕ) (w : Shared × Notes)
      → run answer (found (integer_in (out-Ty (ty.Int int))) >>= λ i. found (Some by) >>= λ k. modify (val.Ptr p) (ty.Int int) (fetched op i k)) w
      ≡ asked (Modify p (int_size int) (fetched op int by)) (λ n. Some (val.Int n)) w
  fetching op by w =
      (λ j. run answer (found (int_there int j) >>= λ i. modify (val.Ptr p) (ty.Int int) (fetched op i by)) w)
      ∙ (λ i. run answer (found (ptr_pointer p i) >>= λ at. Ask (OfMemory (Modify at (size_int int i) (fetched op int by))) (λ n. Done (Some (val.Int n)))) w)

  pub operated_fetch : (op : Intrinsic) (by : ℕ) (w : Shared × Notes) → IsFetch op
      → operated op (val.Ptr p ∷ val.Int by ∷ []) types (Some (ty.Int int)) picks w ≡ asked (Modify p (int_size int) (fetched op int by)) (λ n. Some (val.Int n)) w
  unfolding operated
  operated_fetch intrinsic.FetchAdd by w is = (λ j. run answer (found (integer_in (out-Ty (ty.Int int))) >>= λ i. found (int_number by j) >>= λ k. modify (val.Ptr p) (ty.Int int) (fetched intrinsic.FetchAdd i k)) w) ∙ fetching intrinsic.FetchAdd by w
  operated_fetch intrinsic.FetchSub by w is = (λ j. run answer (found (integer_in (out-Ty (ty.Int int))) >>= λ i. found (int_number by j) >>= λ k. modify (val.Ptr p) (ty.Int int) (fetched intrinsic.FetchSub i k)) w) ∙ fetching intrinsic.FetchSub by w
  operated_fetch intrinsic.FetchAnd by w is = (λ j. run answer (found (integer_in (out-Ty (ty.Int int))) >>= λ i. found (int_number by j) >>= λ k. modify (val.Ptr p) (ty.Int int) (fetched intrinsic.FetchAnd i k)) w) ∙ fetching intrinsic.FetchAnd by w
  operated_fetch intrinsic.FetchOr by w is = (λ j. run answer (found (integer_in (out-Ty (ty.Int int))) >>= λ i. found (int_number by j) >>= λ k. modify (val.Ptr p) (ty.Int int) (fetched intrinsic.FetchOr i k)) w) ∙ fetching intrinsic.FetchOr by w
  operated_fetch intrinsic.FetchXor by w is = (λ j. run answer (found (integer_in (out-Ty (ty.Int int))) >>= λ i. found (int_number by j) >>= λ k. modify (val.Ptr p) (ty.Int int) (fetched intrinsic.FetchXor i k)) w) ∙ fetching intrinsic.FetchXor by w
  operated_fetch _ by w is = absurd is

  -- ---- an atomic load

  module _ (s : Scene) (x : Tables) where
    abbrev read_in : Outcome ℕ Seen → Outcome (Option Val) (Shared × Notes)
    read_in o = on o (λ n l. Went (Some (val.Int n)) (record (begun s x).0 { memory = s.memory }, record (begun s x).1 { tally = with_seen (tally_of s) l }))

    operated_load : operated intrinsic.AtomicLoad (val.Ptr p ∷ []) types (Some (ty.Int int)) picks (begun s x) ≡ read_in (number_read s.memory Loads p (int_size int) (seen s.notes))
    unfolding operated
    operated_load =
        (λ i. run answer (found (ptr_pointer p i) >>= λ at. memory_part (reading_part (Ask (Read true at (size_int int i) (align_int int i)) (λ bytes. loaded (over (reached_by Loads at (size_int int i)) InvalidValue) (number_of bytes))))) (begun s x))
        ∙ by_read (lending s.memory Loads true p (int_size int) (int_size int) (seen s.notes))
      where
        by_number : (o : Option ℕ) (l : Seen) → run answer (memory_part (reading_part (loaded (over (reached_by Loads p (int_size int)) InvalidValue) o))) (record (begun s x).0 { memory = s.memory }, record (begun s x).1 { tally = with_seen (tally_of s) l }) ≡ read_in (answered (reached_by Loads p (int_size int)) (numbered o) (λ n. Went n l))
        by_number None l = refl
        by_number (Some n) l = refl

        by_read : (o : Outcome Bytes Seen)
            → on (on (on o (λ bytes l. Went bytes (s.memory, with_seen (tally_of s) l))) (in_shared (begun s x))) (λ bytes u. run answer (memory_part (reading_part (loaded (over (reached_by Loads p (int_size int)) InvalidValue) (number_of bytes)))) u)
            ≡ read_in (on o (λ bytes l. answered (reached_by Loads p (int_size int)) (numbered (number_of bytes)) (λ n. Went n l)))
        by_read (Went bytes l) = by_number (number_of bytes) l
        by_read (Refused r) = refl
        by_read Broken = refl

    pub load_went : (n : ℕ) (new : Scene) (out : List ℕ) → world_of new ≡ (s.memory, with_seen (tally_of s) (seen new.notes)) → number_read s.memory Loads p (int_size int) (seen s.notes) ≡ Went n (seen new.notes)
        → IsDone intrinsic.AtomicLoad (quiet (Some (val.Int n))) (operated intrinsic.AtomicLoad (val.Ptr p ∷ []) types (Some (ty.Int int)) picks (begun s x)) new x out out
    load_went n new out is h = record {
      notes = notes_in new;
      went = operated_load ∙ ap read_in h ∙ (λ i. Went (Some (val.Int n)) (record (begun s x).0 { memory = (sym is i).0 }, record (begun s x).1 { tally = (sym is i).1 }));
      tally = refl;
      event = refl;
      going = refl;
      woken = refl;
      printed = (refl, refl);
    }

    pub load_fault : (f : Fault) (new : Scene) (out : List ℕ) (l : Seen) → Tells {X = ℕ} (Err f) (number_read s.memory Loads p (int_size int) (seen s.notes)) l new.notes.refused
        → Does intrinsic.AtomicLoad (Err f) (operated intrinsic.AtomicLoad (val.Ptr p ∷ []) types (Some (ty.Int int)) picks (begun s x)) new x out out
    load_fault (fault.Undefined r) new out l h = (operated_load ∙ ap read_in h, refl)
    load_fault fault.Memory new out l h = tt

-- ---- with the arguments as they are read

same_int : (a b : IntType) → Some (ty.Int a) ≡ Some (ty.Int b) → a ≡ b
same_int a b e = same_Some a b (sym (int_there a) ∙ ap (λ (t : Ty). integer_in (out-Ty t)) (same_Some (ty.Int a) (ty.Int b) e) ∙ int_there b)

-- a number of the type of the place
pub place_value : (place : Option Ty) (int : IntType) (n : ℕ) (e : Effect) → place ≡ Some (ty.Int int) → e ≡ quiet (Some (val.Int n)) → n < 2 ^ (8 * int_size int) → FitsPlace place e.value
place_value place int n e is q lt =
    subst (λ (o : Option Ty). FitsPlace o e.value) (sym is) (val.Int n, ap (λ (f : Effect). f.value) q, has_int int n ∙ lt_test n (2 ^ (8 * int_size int)) lt)

pub fetch_prints : (op : Intrinsic) (out : List ℕ) → IsFetch op → Prints op [] out out
fetch_prints intrinsic.Print out is = absurd is
fetch_prints _ out is = (refl, refl)

-- a fault that is handed on
pub does_handed : (op : Intrinsic) (r : Result Effect Fault) (f : Fault) (o : Outcome (Option Val) (Shared × Notes)) (s : Scene) (x : Tables) (out : List ℕ) → IsErrAnd r (λ e. e ≡ f) → Does op (Err f) o s x out out → Does op r o s x out out
does_handed op (Ok e) f o s x out is h = absurd is
does_handed op (Err e) f o s x out is h = subst (λ g. Does op (Err g) o s x out out) (sym is) h

module _ (args : List Val) (types : List Ty) (place : Option Ty) (picks : List ℕ) (w : Shared × Notes) (p : Pointer) (at : slice_get args 0 ≡ Some (val.Ptr p)) where
  pub load_read : (int : IntType) (kinds : List Ty) → Fits intrinsic.AtomicLoad args kinds place → place ≡ Some (ty.Int int)
      → operated intrinsic.AtomicLoad args types place picks w ≡ operated intrinsic.AtomicLoad (val.Ptr p ∷ []) types (Some (ty.Int int)) picks w
  load_read int kinds fits there =
      let takes = atomic_load_takes args kinds place fits in
      let is = one_read args (val.Ptr takes.pointer) (val.Ptr p) takes.is at in
      (λ i. operated intrinsic.AtomicLoad (is i) types (there i) picks w)

  pub store_read : (takes : TakesStore args types)
      → operated intrinsic.AtomicStore args types place picks w ≡ asked (Write true p (encoding_of (ty.Int takes.int) (val.Int takes.bits)) (align_of (ty.Int takes.int))) (λ u. None) w
  store_read takes =
      let second = ap (λ (l : List Val). slice_get l 1) takes.is in
      let is = two_read args (val.Ptr takes.pointer) (val.Int takes.bits) (val.Ptr p) (val.Int takes.bits) takes.is at second in
      (λ i. operated intrinsic.AtomicStore (is i) (takes.typed i) place picks w) ∙ operated_store types picks p takes.int takes.bits takes.first place w

  module _ (int : IntType) (kinds : List Ty) (there : place ≡ Some (ty.Int int)) where
    pub exchange_read : (expected new : ℕ) → Fits intrinsic.CompareExchange args kinds place → slice_get args 1 ≡ Some (val.Int expected) → slice_get args 2 ≡ Some (val.Int new)
        → operated intrinsic.CompareExchange args types place picks w ≡ asked (Modify p (int_size int) (exchanged expected new)) (λ n. Some (val.Int n)) w
    exchange_read expected new fits second third =
        let takes = exchange_takes args kinds place fits in
        let is = three_read args (val.Ptr takes.pointer) (val.Int takes.expected) (val.Int takes.new) (val.Ptr p) (val.Int expected) (val.Int new) takes.is at second third in
        (λ i. operated intrinsic.CompareExchange (is i) types (there i) picks w) ∙ operated_exchange types picks p int expected new w

    pub fetch_read : (op : Intrinsic) (by : ℕ) → IsFetch op → Fits op args kinds place → slice_get args 1 ≡ Some (val.Int by)
        → operated op args types place picks w ≡ asked (Modify p (int_size int) (fetched op int by)) (λ n. Some (val.Int n)) w
    fetch_read op by of fits second =
        let takes = fetch_takes op args kinds place of fits in
        let is = two_read args (val.Ptr takes.pointer) (val.Int takes.by) (val.Ptr p) (val.Int by) takes.is at second in
        (λ i. operated op (is i) types (there i) picks w) ∙ operated_fetch types picks p int op by w of

-- the numbers that are put are of the type
module _ (args : List Val) (kinds : List Ty) (place : Option Ty) (int : IntType) (n : ℕ) (there : place ≡ Some (ty.Int int)) where
  small_as : (i : IntType) (k at : ℕ) → slice_get args at ≡ Some (val.Int n) → slice_get args at ≡ Some (val.Int k) → place ≡ Some (ty.Int i) → k < 2 ^ (8 * int_size i) → n < 2 ^ (8 * int_size int)
  small_as i k at read is gives lt =
      let same = same_bits k n (same_Some (val.Int k) (val.Int n) (sym is ∙ read)) in
      let P : ℕ → IntType → Type 0 = λ a j. a < 2 ^ (8 * int_size j) in
      subst (P n) (same_int i int (sym gives ∙ there)) (subst (λ a. P a i) same lt)

  pub new_small : Fits intrinsic.CompareExchange args kinds place → slice_get args 2 ≡ Some (val.Int n) → n < 2 ^ (8 * int_size int)
  new_small fits read =
      let takes = exchange_takes args kinds place fits in small_as takes.int takes.new 2 read (ap (λ (l : List Val). slice_get l 2) takes.is) takes.gives takes.small

  pub by_small : (op : Intrinsic) → IsFetch op → Fits op args kinds place → slice_get args 1 ≡ Some (val.Int n) → n < 2 ^ (8 * int_size int)
  by_small op of fits read =
      let takes = fetch_takes op args kinds place of fits in small_as takes.int takes.by 1 read (ap (λ (l : List Val). slice_get l 1) takes.is) takes.gives takes.small
