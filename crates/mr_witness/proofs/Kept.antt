-- The kept schedule of the first pair is a witness.
use Rattle.mr_witness.proofs.Common.{◌≡◌, ℕ, refl, ◌∙◌, ap, subst, List, ◌∷◌, map, Program, Footprint, kept, step_at, predicted, IsFirstPair, first_of_predicted, Schedule, WellFormed, State, SoundState, Own, thread_step, Legal, run_of, steps_of, look_of, start_config, start_look, start_sound, IsSane, SwapLaw, sound_is_sane, NotesThread, law_of, thread_noted, IsWitness, kept_schedule, schedule_at}
use Rattle.mr_event.specs.declared.footprint.Pair.{Pair}
use Rattle.mr_exchange.proofs.Choices.{kept_selects}
use Rattle.mr_exchange.proofs.First.{partner_of_first}
use Rattle.mr_base.specs.declared.reason.Verdict.TheVariants as verdict
use Rattle.mr_witness.proofs.Shown.{ShowsRace, choice_shows}

-- THE KEPT SCHEDULE IS A WITNESS, of every well-formed program under a legal schedule
pub kept_is_witness : (p : Program) (w : Schedule) (law : SwapLaw (thread_step (look_of p w.start))) (noted : NotesThread (look_of p w.start)) (sane : (s : State Own) → SoundState p s → IsSane s)
    → WellFormed p → Legal p w → (i j : ℕ) → IsFirstPair (steps_of p w) i j → IsWitness p w i j (kept_schedule (steps_of p w) w i j)
unfolding steps_of run_of start_config look_of kept_schedule
kept_is_witness p w law noted sane well legal i j first =
    let shows = choice_shows (look_of p w.start) (start_look p well w.start legal.start) well w.entries law noted sane _ (start_sound p well w.start legal.start _ refl) legal.entries i j _ first (kept_selects (steps_of p w) i j (partner_of_first (steps_of p w) i j first)) in
    record {
      front = shows.front;
      from = ap (schedule_at w) shows.ends;
      legal = record { start = legal.start; entries = shows.legal };
      prefix = shows.prefix;
      steps = shows.steps ∙ ap (map (step_at (steps_of p w))) shows.ends;
      running = shows.running;
      race = shows.race;
    }

-- THE FIRST RACE HAS A WITNESS
pub first_witness : (p : Program) (w : Schedule) → WellFormed p → Legal p w → (pair : Pair) (races : List Pair) → predicted (steps_of p w) ≡ pair ∷ races
    → IsWitness p w pair.first pair.second (kept_schedule (steps_of p w) w pair.first pair.second)
first_witness p w well legal pair races e =
    kept_is_witness p w (law_of (look_of p w.start)) (thread_noted (look_of p w.start)) (sound_is_sane p) well legal pair.first pair.second (first_of_predicted (steps_of p w) pair races e)

-- the same of a run that is the program's
pub witness_of_run : (p : Program) (w : Schedule) (run : List Footprint) (pair : Pair) (races : List Pair) → WellFormed p → Legal p w → steps_of p w ≡ run
    → predicted run ≡ pair ∷ races → IsWitness p w pair.first pair.second (kept_schedule run w pair.first pair.second)
witness_of_run p w run pair races well legal same e =
    subst (λ r. IsWitness p w pair.first pair.second (kept_schedule r w pair.first pair.second)) same (first_witness p w well legal pair races (ap predicted same ∙ e))
