-- How far a schedule goes, as it is told.
use Rattle.mr_show.proofs.Common.{◌≡◌, ℕ, ◌-◌, ◌++◌, ◌∙◌, ap, ap₂, inl, refl, sym, List, Err, Option, None, Some, Program, Entry, Schedule, Version, schedule_fault, Standing, RunFault, Answer, Tells, refused, next_from, reached_answer, threads_told}
use Rattle.std.specs.Prelude.{slice_get}
use Rattle.std.specs.Option.{option_map}
use Rattle.mr_run.specs.Runs.{HasPlace}
use Rattle.mr_answer.specs.Answers.{line_at}
use Rattle.mr_answer.specs.Running.{refusal_by}
use Rattle.mr_next.specs.Reached.{GoesTo, IsCulprit, IsOfStart, placed_of}
use Rattle.mr_next.specs.Texts.{broken_text}
use Rattle.mr_next.specs.declared.broken.Broken.{Broken}
use Rattle.mr_next.specs.declared.reaching.Reached.{Reached}
use Rattle.mr_show.specs.Next.{entry_told, fault_told, front_answer, next_answer, next_status}
use Rattle.mr_show.specs.Reached.{broken_told, entry_lines, status_by}
use Rattle.mr_show.specs.Sentences.{sentence_of}
use Rattle.mr_run.specs.declared.fault.RunFault.TheVariants.{Broken as Breaks, Memory}
use Rattle.mr_input.specs.declared.refusal.Refusal.TheVariants as refusal

-- ---- an entry that breaks a rule

module _ (es : List Entry) (m : Standing) where
  -- it is told by the rule and its pick, as they are defined
  entry_so : (b : Broken) → IsCulprit es m (Some b) → (o : Option Entry) → slice_get es (b.place - 3) ≡ o
      → entry_lines b o ≡ entry_told m.look m.config (placed_of b) o
  entry_so b h None at = refl
  entry_so b h (Some e) at =
      ap (λ (culprit : Option ℕ). broken_text (sentence_of b.code) e
      (record { place = b.place; code = b.code; earlier = b.earlier; culprit = culprit }))
      (h e at)

  told_so : (broken : Option Broken) → IsCulprit es m broken
      → broken_told es broken ≡ fault_told m.look m.config es (option_map placed_of broken)
  told_so None h = refl
  told_so (Some b) h = entry_so b h (slice_get es (b.place - 3)) refl

status_so : (broken : Option Broken) → status_by broken ≡ next_status (option_map placed_of broken)
status_so None = refl
status_so (Some b) = refl

-- WHERE A SCHEDULE LEADS is told as it is defined
pub reached_so : (text : List ℕ) (p : Program) (w : Schedule) (r : Reached) → GoesTo p w r
    → ◌≡◌ {A = Answer} (record {
      text = broken_told w.entries r.broken ++ threads_told text p r.machine.look r.machine.config;
      status = status_by r.broken;
    }) (reached_answer text p w (schedule_fault p w))
reached_so text p w r h =
    let m = r.machine in
    let said : List ℕ → ℕ → Answer = λ lines status.
    record { text = lines ++ threads_told text p m.look m.config; status = status } in
    ap₂ said (told_so w.entries m r.broken h.culprit) (status_so r.broken)
    ∙ ap (front_answer text p w.entries m.look m.config) h.fault
    ∙ (λ i. front_answer text p w.entries (h.front.look i) (h.front.config i) (schedule_fault p w))

-- ---- the start line

-- a rule that it breaks is told on line 2
pub start_told : (text : List ℕ) (p : Program) (v : Version) (w : Schedule) (f : RunFault) → IsOfStart p w f
    → Tells (next_answer text p v w) (Err (refusal_by v w f))
start_told text p v w (Breaks place code earlier) (two, broken) =
    ap (next_from text p v w) broken
    ∙ ap (λ (n : ℕ). refused (refusal.Schedule (line_at v w n) code earlier)) (sym two)
start_told text p v w Memory h = tt

-- and its place is one of the schedule
pub start_place : (p : Program) (w : Schedule) (f : RunFault) → IsOfStart p w f → HasPlace {A = Unit {0}} w (Err f)
start_place p w (Breaks place code earlier) h = inl h.0
start_place p w Memory h = tt
