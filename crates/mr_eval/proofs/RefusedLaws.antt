-- What memory refuses stops with the bytes that it was asked for.
use Rattle.mr_eval.proofs.Common.{◌≡◌, ℕ, Bool, false, true, refl, sym, subst, ap, ◌∙◌, List, length, Option, Some, None, Result, Ok, Err, if◌then◌else◌, Outcome, Refused, Stop, over, plainly, reached_by, speaks, stop_with, AllocId, Pointer, Reached, Loads, Moves, Refers, Reason, DanglingReference, Memory, checked, read, Leaves, Check, Read, Refer, Seen, answered, named, reading}
use Rattle.mr_base.specs.declared.byte.AbstractByte.{AbstractByte}
use Rattle.mr_base.specs.declared.byte.Kind.{Kind}
use Rattle.mr_base.specs.declared.reached.Reaching.TheVariants.{Frees, Stores}
use Rattle.mr_mem.proofs.SpeakingLaws.{SpeakResult, Speaks, checked_speaks, freed_speaks, read_speaks, written_speaks}
use Rattle.mr_mem.specs.Memory.{freed, written}
use Rattle.mr_mem.specs.Stored.{IsStored}
use Rattle.mr_mem.specs.declared.fault.Fault.{Fault}
use Rattle.mr_eval.specs.MemoryQueries.{Free, memory_answer}
use Rattle.mr_eval.specs.Stores.{storing}
use Rattle.mr_eval.specs.World.{World}
use Rattle.mr_mem.specs.declared.fault.Fault.TheVariants as fault

-- a stop by whether its reason speaks of bytes
abbrev stop_if : Option Reached → Reason → Bool → Stop
stop_if last r speaking = record { reason = r; about = if speaking then last else None }

-- a reason that speaks of bytes, and one of a script's own
pub stop_over : (bytes : Reached) (r : Reason) → Speaks r → over bytes r ≡ stop_with (Some bytes) r
stop_over bytes r h = ap (stop_if (Some bytes) r) (sym h)

pub stop_plainly : (last : Option Reached) (r : Reason) → speaks r ≡ false → plainly r ≡ stop_with last r
stop_plainly last r h = ap (stop_if last r) (sym h)

-- ---- what is refused, where the bytes are noted

module _ {X A S : Type 0} (bytes : Reached) (wanted : Result X Reason) (go : X → Outcome A S) (speaking : SpeakResult wanted) (last : Option Reached) (noted : last ≡ Some bytes) where
  pub answer_refused : (r : Reason) → wanted ≡ Err r → answered bytes wanted go ≡ Refused (stop_with last r)
  answer_refused r is =
      ap (λ (w : Result X Reason). answered bytes w go) is
      ∙ ap Refused (stop_over bytes r (subst SpeakResult is speaking))
      ∙ ap (λ (o : Option Reached). Refused (stop_with o r)) (sym noted)

named_speaks : {X : Type 0} (r : Result X Reason) → SpeakResult (named DanglingReference r)
named_speaks (Ok x) = tt
named_speaks (Err cause) = refl

module _ (m : Memory) (p : Pointer) (len : ℕ) (s : Seen) (last : Option Reached) where
  pub check_refused : (r : Reason) → checked m p len ≡ Err r → last ≡ Some (reached_by Moves p len) → reading m (Check p len) s ≡ Refused (stop_with last r)
  check_refused r is noted = answer_refused (reached_by Moves p len) (checked m p len) _ (checked_speaks m p len) last noted r is

  pub refer_refused : (r : Reason) → checked m p len ≡ Err r → last ≡ Some (reached_by Refers p len) → reading m (Refer p len) s ≡ Refused (stop_with last DanglingReference)
  refer_refused r is noted =
      answer_refused (reached_by Refers p len) (named DanglingReference (checked m p len)) _ (named_speaks (checked m p len)) last noted DanglingReference
      (ap (λ (w : Result (Option AllocId) Reason). named DanglingReference w) is)

  pub read_refused : (atomic : Bool) (align : ℕ) (r : Reason) → read m p len align ≡ Err r → last ≡ Some (reached_by Loads p len)
      → reading m (Read atomic p len align) s ≡ Refused (stop_with last r)
  read_refused atomic align r is noted = answer_refused (reached_by Loads p len) (read m p len align) _ (read_speaks m p len align) last noted r is

-- ---- stores

pub refused_leaves : {S : Type 0} (bytes : Reached) (f : Fault) (wanted : Result Memory Reason) (new : Memory) (go : Memory → Outcome Memory S) (s : S) (last : Option Reached)
    → SpeakResult wanted → IsStored wanted new (Err f) → last ≡ Some bytes → Leaves (Err f) (answered bytes wanted go) new s last
refused_leaves bytes (fault.Undefined r) wanted new go s last speaking is noted = answer_refused bytes wanted go speaking last noted r is
refused_leaves bytes fault.Memory wanted new go s last speaking is noted = tt

pub store_refused : (m : Memory) (atomic : Bool) (p : Pointer) (bytes : List AbstractByte) (align : ℕ) (old : Seen) (f : Fault) (new : Memory) (s : Seen) (last : Option Reached)
    → IsStored (written m p bytes align) new (Err f) → last ≡ Some (reached_by Stores p (length bytes)) → Leaves (Err f) (storing m atomic p bytes align old) new s last
store_refused m atomic p bytes align old f new s last is noted =
    refused_leaves (reached_by Stores p (length bytes)) f (written m p bytes align) new _ s last (written_speaks m p bytes align) is noted

-- ---- the end of an allocation

pub free_refused : (w : World) (p : Pointer) (kind : Kind) (size align : ℕ) (last : Option Reached) (r : Reason) → freed w.0 p kind size align ≡ Err r
    → last ≡ Some (reached_by Frees p size) → memory_answer (Free p kind size align) w ≡ Refused (stop_with last r)
free_refused w p kind size align last r is noted =
    answer_refused (reached_by Frees p size) (freed w.0 p kind size align) _ (freed_speaks w.0 p kind size align) last noted r is
