-- What the code of a frame's turn answers, by its parts.
use Rattle.mr_turn.proofs.Common.{◌≡◌, ℕ, refl, sym, ap, ◌∙◌, subst, List, [], Option, None, Result, Ok, Err, stop_with, Reason, Memory, ranges_of, Ask, Outcome, Went, Refused, Broken, run, Tables, MemoryScript, Seen, reading, Tally, seen_of, seen, TellsBy, tally_of, Scene, needs_fault, picks_fault, Plan, Notes, Shared, nothing_seen, Look, Onward, Stack, look_of, stack_of, next_do, frame_plan, Turn, Deed, TurnFault, DeedAnswer, IsJudged, JudgeAnswer, TurnAnswer, asks_break, begun, breaks, fault_from, own_of}
use Rattle.mr_base.specs.declared.reached.Reached.{Reached}
use Rattle.mr_eval.specs.Tally.{start_tally}
use Rattle.mr_frame.specs.PlanLegal.{Fault}
use Rattle.mr_frame.specs.PlanMachine.{Needs}
use Rattle.mr_frame.specs.Acting.{IsQuiet}
use Rattle.mr_mem.specs.declared.fault.Fault.{Fault as MemoryFault}
use Rattle.mr_mem.specs.declared.fault.Fault.TheVariants as memory_fault
use Rattle.mr_frame.specs.Effects.{asked, asks_of, planned as frame_planned}
use Rattle.mr_frame.specs.declared.look.Look.{Look as KeptLook}
use Rattle.mr_frame.specs.declared.stack.Stack.{Stack as KeptStack}
use Rattle.mr_turn.specs.declared.deed.TurnFault.TheVariants as answer
use Rattle.mr_turn.specs.Turning.{TellsDeed}
use Rattle.mr_turn.proofs.FrameTurns.{frame_needs}
use Rattle.mr_turn.proofs.PlanAsks.{AreAddresses, IsPlain, WentSo, frame_plain, led, same_statuses}

-- ---- answers

-- the deed of a step whose picks break no rule
pub deed_is_turn : (r : Result Deed TurnFault) (fault : Option Fault) (o : Outcome Turn (Shared × Notes)) (last : Option Reached) (W : Deed → Type 0) (same : Type 0)
    → fault ≡ None → DeedAnswer r o last W → TurnAnswer r fault o last W same
deed_is_turn (Ok d) fault o last W same e h = (e, h)
deed_is_turn (Err (answer.Broken f)) fault o last W same e h = absurd h
deed_is_turn (Err (answer.Undefined r)) fault o last W same e h = (e, h)
deed_is_turn (Err answer.Memory) fault o last W same e h = tt

-- a deed that is so, of a step whose picks were judged
pub deed_answers : (r : Result Deed TurnFault) (o : Outcome Turn (Shared × Notes)) (last : Option Reached) (IsSo W : Deed → Type 0)
    → ((d : Deed) → IsSo d → W d) → TellsDeed r IsSo → DeedAnswer r o last W
deed_answers (Ok d) o last IsSo W f h = f d h
deed_answers (Err e) o last IsSo W f h = subst (λ (g : TurnFault). DeedAnswer (Err g) o last W) (sym h) tt

-- what else follows of a deed, and where an entry is refused
pub turn_as : (r : Result Deed TurnFault) (fault : Option Fault) (o : Outcome Turn (Shared × Notes)) (last : Option Reached) (W V : Deed → Type 0) (A B : Type 0)
    → ((d : Deed) → W d → V d) → (A → B) → TurnAnswer r fault o last W A → TurnAnswer r fault o last V B
turn_as (Ok d) fault o last W V A B g f h = (h.0, g d h.1)
turn_as (Err (answer.Broken e)) fault o last W V A B g f h = (h.0, f h.1)
turn_as (Err (answer.Undefined r)) fault o last W V A B g f h = h
turn_as (Err answer.Memory) fault o last W V A B g f h = tt

-- picks that break a rule
pub judged_broken : (f : TurnFault) (fault : Option Fault) (o : Outcome Turn (Shared × Notes)) (last : Option Reached) (W : Deed → Type 0) (same : Type 0)
    → JudgeAnswer (Err f) fault → same → TurnAnswer (Err f) fault o last W same
judged_broken (answer.Broken e) fault o last W same h k = (h, k)
judged_broken (answer.Undefined r) fault o last W same h k = absurd h
judged_broken answer.Memory fault o last W same h k = absurd h

-- what is judged of picks, where there was memory to judge them
pub judged_so : (r : Result (Unit {0}) TurnFault) (fault : Option Fault) → JudgeAnswer r fault → IsJudged r fault
judged_so (Ok u) fault h = h
judged_so (Err (answer.Broken e)) fault h = h
judged_so (Err (answer.Undefined r)) fault h = h
judged_so (Err answer.Memory) fault h = tt

pub judged_turn : (f : TurnFault) (fault : Option Fault) (o : Outcome Turn (Shared × Notes)) (last : Option Reached) (W : Deed → Type 0) (same : Type 0)
    → IsJudged (Err f) fault → same → TurnAnswer (Err f) fault o last W same
judged_turn (answer.Broken e) fault o last W same h k = (h, k)
judged_turn (answer.Undefined r) fault o last W same h k = absurd h
judged_turn answer.Memory fault o last W same h k = tt

-- memory that refuses
pub stopped_deed : (f : MemoryFault) (o : Outcome Turn (Shared × Notes)) (last : Option Reached) (W : Deed → Type 0)
    → ((r : Reason) → f ≡ memory_fault.Undefined r → o ≡ Refused (stop_with last r)) → DeedAnswer (Err (fault_from f)) o last W
stopped_deed (memory_fault.Undefined r) o last W h = h r refl
stopped_deed memory_fault.Memory o last W h = tt

-- ---- what a frame's step asks

asked_plain : (o : Outcome (Plan (MemoryScript Onward)) Seen) → WentSo IsPlain o → AreAddresses (asks_of o)
asked_plain (Went plan s) h = h.asks
asked_plain (Refused r) h = tt
asked_plain Broken h = tt

-- it asks for addresses alone
pub asks_addresses : (m : Memory) (look : Look) (thread : ℕ) (s : Stack) (seen : Seen) → AreAddresses (asked m look thread s seen)
unfolding asked frame_planned
asks_addresses m look thread s seen = asked_plain (run (reading m) (frame_plan look thread s) seen) (led IsPlain (frame_plan look thread s) (frame_plain look thread s) m seen)

module _ (look : KeptLook) (stack : KeptStack) (s : Scene) (x : Tables) (picks : List ℕ) (none : next_do (look_of look) (stack_of stack) ≡ None) where
  abbrev asks : List Ask
  asks = asked s.memory (look_of look) s.thread (stack_of stack) nothing_seen

  -- the rule that the picks break is that of what is asked
  pub frame_breaks : tally_of s ≡ start_tally s.thread s.count → breaks look stack s x picks ≡ asks_break s x asks picks
  frame_breaks fresh =
      ap (λ (n : Needs). needs_fault (begun s x).0 s.thread s.count n picks) (frame_needs (look_of look) (own_of s.thread stack) none (begun s x))
      ∙ ap (λ (t : Tally). asks_break s x (asked s.memory (look_of look) s.thread (stack_of stack) (seen_of t)) picks) fresh

  -- and statuses don't count for it
  pub lawful_picks : asks_break s x asks picks ≡ None → picks_fault [] (ranges_of s.memory) s.thread s.count asks picks ≡ None
  lawful_picks h = sym (same_statuses x.statuses [] (ranges_of s.memory) s.thread s.count asks picks (asks_addresses s.memory (look_of look) s.thread (stack_of stack) nothing_seen)) ∙ h

  -- the same where the step has seen nothing yet
  pub lawful_fresh : tally_of s ≡ start_tally s.thread s.count → asks_break s x asks picks ≡ None
      → picks_fault [] (ranges_of s.memory) s.thread s.count (asked s.memory (look_of look) s.thread (stack_of stack) (seen s.notes)) picks ≡ None
  lawful_fresh fresh h =
      ap (λ (t : Tally). picks_fault [] (ranges_of s.memory) s.thread s.count (asked s.memory (look_of look) s.thread (stack_of stack) (seen_of t)) picks) fresh ∙ lawful_picks h

-- no pick breaks no rule where nothing is asked
pub quiet_allows : (look : KeptLook) (stack : KeptStack) (s : Scene) (x : Tables) (picks : List ℕ) → IsQuiet (look_of look) (stack_of stack) → picks ≡ []
    → asks_break s x (asked s.memory (look_of look) s.thread (stack_of stack) nothing_seen) picks ≡ None
quiet_allows look stack s x picks quiet none = rw (none, quiet.asks s.memory s.thread nothing_seen) refl

-- a refusal of memory, by its reason
pub refused_by : {X Y S : Type 0} (view : X → Y) (f : MemoryFault) (o : Outcome Y S) (v : S) (last : Option Reached) → TellsBy view (Err f) o v last → (r : Reason) → f ≡ memory_fault.Undefined r → o ≡ Refused (stop_with last r)
refused_by view f o v last h r e = subst (λ g. TellsBy view (Err g) o v last) e h
