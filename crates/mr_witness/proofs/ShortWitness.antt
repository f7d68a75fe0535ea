-- The short schedule of the first pair is a witness.
use Rattle.mr_witness.proofs.Common.{◌≡◌, ℕ, refl, sym, ◌∙◌, ap, subst, List, ◌∷◌, map, predicted, Program, Footprint, step_at, IsFirstPair, short_selects, Schedule, WellFormed, Legal, run_of, steps_of, look_of, start_config, start_look, start_sound, sound_is_sane, law_of, thread_noted, IsWitness, schedule_at, short_schedule}
use Rattle.mr_witness.proofs.Shown.{choice_shows}
use Rattle.mr_event.specs.declared.footprint.Pair.{Pair}
use Rattle.mr_exchange.proofs.First.{first_of_predicted, partner_of_first}

-- THE SHORT SCHEDULE IS A WITNESS, of every well-formed program under a legal schedule
short_is_witness : (p : Program) (w : Schedule) → WellFormed p → Legal p w → (i j : ℕ) → IsFirstPair (steps_of p w) i j → IsWitness p w i j (short_schedule (steps_of p w) w i j)
unfolding steps_of run_of start_config look_of
short_is_witness p w well legal i j first =
    let shows = choice_shows (look_of p w.start) (start_look p well w.start legal.start) well w.entries (law_of (look_of p w.start)) (thread_noted (look_of p w.start)) (sound_is_sane p) _ (start_sound p well w.start legal.start _ refl) legal.entries i j _ first (short_selects (steps_of p w) i j (partner_of_first (steps_of p w) i j first)) in
    record {
      front = shows.front;
      from = ap (schedule_at w) shows.ends;
      legal = record { start = legal.start; entries = shows.legal };
      prefix = shows.prefix;
      steps = shows.steps ∙ ap (map (step_at (steps_of p w))) shows.ends;
      running = shows.running;
      race = shows.race;
    }

-- of the first race that is listed
pub first_short : (p : Program) (w : Schedule) → WellFormed p → Legal p w → (pair : Pair) (races : List Pair) → predicted (steps_of p w) ≡ pair ∷ races
    → IsWitness p w pair.first pair.second (short_schedule (steps_of p w) w pair.first pair.second)
first_short p w well legal pair races e = short_is_witness p w well legal pair.first pair.second (first_of_predicted (steps_of p w) pair races e)

-- the same of a run that is the program's
pub witness_of_run : (p : Program) (w v : Schedule) (run : List Footprint) (i j : ℕ) → WellFormed p → Legal p w → steps_of p w ≡ run → IsFirstPair run i j → v ≡ short_schedule run w i j → IsWitness p w i j v
witness_of_run p w v run i j well legal same first is =
    subst (IsWitness p w i j) (sym is)
    (subst (λ r. IsFirstPair r i j → IsWitness p w i j (short_schedule r w i j)) same (short_is_witness p w well legal i j) first)
