-- What runs print.
use Rattle.mr_answer.proofs.Common.{◌≡◌, ℕ, refl, List, [], ◌∷◌, map, true, Option, Some, None, All, list_all, All-cons, All-head, All-nil, All-tail, Program, Schedule, Config, Printed, Own, run_of, is_printed}
use Rattle.std.proofs.lemmas.List.Elements.{All-append}
use Rattle.mr_sched.specs.declared.schedule.Entry.{Entry}
use Rattle.mr_step.specs.PlanMachine.{Bare, Completed, Goes, IllFormedStep, State, Stops, bare}
use Rattle.mr_step.specs.PlanNotes.{Notes, start_notes}
use Rattle.mr_step.specs.PlanRuns.{after, after_bare, machine_step, printed_by, stepped_from}
use Rattle.mr_step.specs.FrameFrames.{Look}
use Rattle.mr_step.specs.ThreadSteps.{thread_step}
use Rattle.mr_step.specs.StartStart.{look_of, start_config}
use Rattle.mr_step.proofs.SwapBareSteps.{taken, whole, whole_run}
use Rattle.mr_answer.proofs.Printing.Prints.{Anything, IsPlain, run_prints}
use Rattle.mr_answer.proofs.Printing.Steps.{whole_prints}

-- all lines are of such texts
abbrev pub AreLines : List Printed → Type 0
AreLines lines = All (λ (l : Printed). list_all is_printed l.text ≡ true) lines

lines_of : (t : ℕ) (texts : List (List ℕ)) → All IsPlain texts → AreLines (map (printed_by t) texts)
lines_of t [] h = All-nil (λ (l : Printed). list_all is_printed l.text ≡ true)
lines_of t (text ∷ texts) h = All-cons (λ (l : Printed). list_all is_printed l.text ≡ true) (printed_by t text) (map (printed_by t) texts) (All-head IsPlain text texts h) (lines_of t texts (All-tail IsPlain text texts h))

bare_plain : (look : Look) (s s' : State Own) (t : ℕ) (picks : List ℕ) (n : Notes) → bare (thread_step look) s t picks ≡ Completed n s' → All IsPlain n.printed
bare_plain look s s' t picks n e =
    let k = taken (thread_step look) s t picks n s' e in
    run_prints Anything (whole (thread_step look) k.th.own picks) (s.shared, start_notes t k.th.count) (s'.shared, n) (Goes k.own k.started) (whole_prints look k.th.own picks) (All-nil IsPlain)
    (whole_run (thread_step look) s t picks n s' k)

step_lines : (look : Look) (c : Config Own) (e : Entry) → AreLines c.output → AreLines (machine_step (thread_step look) c e).output
unfolding machine_step
step_lines look c e lines = by_state c.state refl
  where
    by_bare : (s : State Own) (b : Bare Own) → bare (thread_step look) s e.thread e.picks ≡ b → AreLines (after_bare (thread_step look) c b).output
    by_bare s (Completed n s') is =
        All-append (λ (l : Printed). list_all is_printed l.text ≡ true) c.output (map (printed_by n.tally.thread) n.printed) lines (lines_of n.tally.thread n.printed (bare_plain look s s' e.thread e.picks n is))
    by_bare s (Stops v about) is = lines
    by_bare s IllFormedStep is = lines

    by_state : (o : Option (State Own)) → c.state ≡ o → AreLines (stepped_from (thread_step look) c e.thread e.picks o).output
    by_state None is = lines
    by_state (Some s) is = by_bare s (bare (thread_step look) s e.thread e.picks) refl

after_lines : (look : Look) (c : Config Own) (es : List Entry) → AreLines c.output → AreLines (after (thread_step look) c es).output
after_lines look c [] lines = lines
after_lines look c (e ∷ es) lines = after_lines look (machine_step (thread_step look) c e) es (step_lines look c e lines)

-- THE OUTPUT OF EACH RUN
pub run_plain : (p : Program) (w : Schedule) → AreLines (run_of p w).output
unfolding run_of start_config
run_plain p w = after_lines (look_of p w.start) (start_config p w.start) w.entries (All-nil (λ (l : Printed). list_all is_printed l.text ≡ true))
