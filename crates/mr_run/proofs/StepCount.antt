-- How many steps a run completes.
use Rattle.mr_run.proofs.Common.{◌≡◌, suc, ◌+◌, ◌≤◌, refl, ap, arith, List, [], ◌∷◌, ◌++◌, length, Option, Some, None, Program, Look, AreLegal, Config, feet, foot_from, foot_of_bare, machine_step, Entry, Schedule, steps_of, look_of, start_config, Own, thread_step}
use Rattle.mr_step.specs.PlanMachine.{Bare, Completed, IllFormedStep, State, Stops, bare}
use Rattle.mr_step.specs.PlanRuns.{after_bare, stepped_from}
use Rattle.mr_step.specs.StartRuns.{Legal}
use Rattle.mr_witness.proofs.Lists.{feet_length}
use Rattle.mr_witness.proofs.Recorded.{none_legal}

-- one for each entry at most
pub steps_within : (p : Program) (w : Schedule) → length (steps_of p w) ≤ length w.entries
unfolding steps_of
steps_within p w = feet_length (thread_step (look_of p w.start)) (start_config p w.start) w.entries

-- ---- legal entries complete all but the last one

abbrev Counts : Look → List Entry → Type 0
Counts look es = (c : Config Own) → AreLegal (thread_step look) c es → length es ≤ length (feet (thread_step look) c es) + 1

count_bare : (look : Look) (c : Config Own) (es : List Entry) → Counts look es → (b : Bare Own) → AreLegal (thread_step look) (after_bare (thread_step look) c b) es
    → suc (length es) ≤ length (foot_of_bare (thread_step look) b ++ feet (thread_step look) (after_bare (thread_step look) c b) es) + 1
count_bare look c es counts (Completed n s) legal = let rest = counts (after_bare (thread_step look) c (Completed n s)) legal in omega (arith, rest)
count_bare look c es counts (Stops v about) legal = let none = ap length (none_legal (thread_step look) (after_bare (thread_step look) c (Stops v about)) es refl legal) in omega (arith, none)
count_bare look c es counts IllFormedStep legal = let none = ap length (none_legal (thread_step look) (after_bare (thread_step look) c IllFormedStep) es refl legal) in omega (arith, none)

count_state : (look : Look) (c : Config Own) (e : Entry) (es : List Entry) → Counts look es → AreLegal (thread_step look) c (e ∷ es) → (o : Option (State Own)) → c.state ≡ o
    → AreLegal (thread_step look) (stepped_from (thread_step look) c e.thread e.picks o) es
    → suc (length es) ≤ length (foot_from (thread_step look) e.thread e.picks o ++ feet (thread_step look) (stepped_from (thread_step look) c e.thread e.picks o) es) + 1
count_state look c e es counts all None is legal = let none = ap length (none_legal (thread_step look) c (e ∷ es) is all) in absurd (omega (arith, none))
count_state look c e es counts all (Some s) is legal = count_bare look c es counts (bare (thread_step look) s e.thread e.picks) legal

legal_count : (look : Look) (es : List Entry) → Counts look es
unfolding machine_step
legal_count look [] c legal = omega arith
legal_count look (e ∷ es) c legal = count_state look c e es (legal_count look es) legal c.state refl legal.1

-- under a legal schedule each entry but the last completes a step
pub steps_without_last : (p : Program) (w : Schedule) → Legal p w → length w.entries ≤ length (steps_of p w) + 1
unfolding steps_of
steps_without_last p w legal = legal_count (look_of p w.start) w.entries (start_config p w.start) legal.entries
