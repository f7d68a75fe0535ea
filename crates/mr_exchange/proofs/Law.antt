-- The swap law of programs.
use Rattle.mr_exchange.proofs.Common.{◌≡◌, ℕ, refl, List, [], ◌∷◌, ◌++◌, length, Some, None, Program, AreIndependent, Entry, WellFormed, Look, Own, thread_step, look_of, start_config, start_look, start_sound, SwapLaw}
use Rattle.mr_exchange.specs.PlanMachine.{State}
use Rattle.mr_start.specs.Start.{start_fault}
use Rattle.mr_exchange.specs.Exchange.{Done, Leads}
use Rattle.mr_exchange.proofs.BareSteps.{taken, whole, whole_run}
use Rattle.mr_exchange.proofs.StepRuns.{statuses_of}
use Rattle.mr_exchange.proofs.SwapLaw.{swap_law}
use Rattle.mr_exchange.proofs.Sane.{sound_is_sane}
use Rattle.mr_exchange.proofs.Telling.{thread_step_tells}
use Rattle.mr_exchange.proofs.Exchanged.{NotesThread, neighbours_in_run}

-- AT EACH SANE STATE
pub law_of : (look : Look) → SwapLaw (thread_step look)
law_of look = swap_law (thread_step look) (thread_step_tells look)

-- a completed step notes its thread
pub thread_noted : (look : Look) → NotesThread look
thread_noted look s t thread picks n h =
    let k = taken (thread_step look) s thread picks n t h in
    (statuses_of (whole (thread_step look) k.th.own picks) s.shared t.shared thread k.th.count n _ (whole_run (thread_step look) s thread picks n t k)).thread

-- IN EACH LEGAL RUN
pub exchanged_in_run : (p : Program) (picks : List ℕ) (s t : State Own) (front : List Entry) (e f : Entry) (before : List Done) (a b : Done)
    → WellFormed p → start_fault p picks ≡ None → (start_config p picks).state ≡ Some s → length front ≡ length before → AreIndependent a.foot b.foot
    → Leads (look_of p picks) s (front ++ e ∷ f ∷ []) (before ++ a ∷ b ∷ []) t → Leads (look_of p picks) s (front ++ f ∷ e ∷ []) (before ++ b ∷ a ∷ []) t
unfolding look_of
exchanged_in_run p picks s t front e f before a b well legal is same free h =
    neighbours_in_run (look_of p picks) (start_look p well picks legal) well (law_of (look_of p picks)) (thread_noted (look_of p picks)) (sound_is_sane p) s t front e f before a b (start_sound p well picks legal s is) same free h
