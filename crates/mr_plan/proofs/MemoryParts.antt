-- Parts of a step that ask memory alone: what they leave of all that is shared, of the notes, and of storage.
use Rattle.mr_plan.proofs.Common.{◌≡◌, ℕ, refl, subst, sym, List, Memory, Outcome, Went, Refused, Broken, on, run, MemoryScript, memory_answer, reading_part, ReadScript, Tally, AreHeld, Slot}
use Rattle.mr_eval.specs.Sound.{Comes, IsSafe}
use Rattle.mr_plan.specs.Notes.{Notes}
use Rattle.mr_plan.specs.Queries.{Shared, answer, in_shared, memory_part}
use Rattle.mr_plan.specs.Safety.{IsSafeChange}
use Rattle.mr_plan.proofs.LiveFacts.{run_leaves}
use Rattle.mr_plan.proofs.MemoryFacts.{MemoryFacts}
use Rattle.mr_plan.proofs.Outcomes.{After}
use Rattle.mr_plan.proofs.QuietRuns.{reading_quiet}
use Rattle.mr_plan.proofs.ReadingRuns.{memory_run}
use Rattle.mr_plan.proofs.SafetyLaws.{change_comes, reading_safe}
use Rattle.mr_plan.proofs.StorageRuns.{Keeps, keeps_run, quiet_keeps}

-- A part of a step of thread t, which had made c allocations when it began in the memory m0: it leaves the tables, and all notes but those of memory.
pub record Leaves (m0 : Memory) (t c : ℕ) (w w' : Shared × Notes) : Type 0 where
  pub shared : w'.0 ≡ record w.0 { memory = w'.0.memory }
  pub notes : w'.1 ≡ record w.1 { tally = w'.1.tally }
  pub facts : MemoryFacts m0 t c w'.0.memory w'.1.tally

-- its result, what it leaves, and the storage of rooms
pub record Left {A : Type 0} (m0 : Memory) (t c : ℕ) (P : A → Type 0) (target : A → List Slot) (w : Shared × Notes) (x : A) (w' : Shared × Notes) : Type 0 where
  pub value : P x
  pub leaves : Leaves m0 t c w w'
  pub held : AreHeld w'.0.memory (target x)

-- A SAFE SCRIPT over memory that takes rooms to those of its result
pub memory_after : {A : Type 0} (m0 : Memory) (t c : ℕ) (P : A → Type 0) (target : A → List Slot) (l : List Slot) (script : MemoryScript A) → IsSafeChange P script → Keeps target l script
    → (w : Shared × Notes) → MemoryFacts m0 t c w.0.memory w.1.tally → AreHeld w.0.memory l → After (Left m0 t c P target w) (run answer (memory_part script) w)
memory_after {A = A} m0 t c P target l script safe keeps w facts held =
    subst (After (Left m0 t c P target w)) (sym (memory_run script w))
    (by_outcome (run memory_answer script (w.0.memory, w.1.tally)) refl (change_comes P script safe (w.0.memory, w.1.tally)))
  where
    by_outcome : (o : Outcome A (Memory × Tally)) → run memory_answer script (w.0.memory, w.1.tally) ≡ o → Comes P o → After (Left m0 t c P target w) (on o (in_shared w))
    by_outcome (Went x v) e value = record {
      value = value;
      leaves = record { shared = refl; notes = refl; facts = (run_leaves m0 t c script w.0.memory v.0 w.1.tally v.1 x facts e).facts };
      held = keeps_run target m0 t c script l keeps w.0.memory v.0 w.1.tally v.1 x facts held e;
    }
    by_outcome (Refused r) e value = tt
    by_outcome Broken e value = value

-- evaluation, which leaves all rooms
pub reading_after : {A : Type 0} (m0 : Memory) (t c : ℕ) (P : A → Type 0) (l : List Slot) (script : ReadScript A) → IsSafe P script
    → (w : Shared × Notes) → MemoryFacts m0 t c w.0.memory w.1.tally → AreHeld w.0.memory l → After (Left m0 t c P (λ x. l) w) (run answer (memory_part (reading_part script)) w)
reading_after m0 t c P l script safe w facts held =
    memory_after m0 t c P (λ x. l) l (reading_part script) (reading_safe P script safe) (quiet_keeps l (reading_part script) (reading_quiet script)) w facts held

-- one part behind another
pub leaves_then : (m0 : Memory) (t c : ℕ) (a b d : Shared × Notes) → Leaves m0 t c a b → Leaves m0 t c b d → Leaves m0 t c a d
leaves_then m0 t c a b d g k = record {
  shared = subst (λ (s : Shared). d.0 ≡ record s { memory = d.0.memory }) g.shared k.shared;
  notes = subst (λ (n : Notes). d.1 ≡ record n { tally = d.1.tally }) g.notes k.notes;
  facts = k.facts;
}
