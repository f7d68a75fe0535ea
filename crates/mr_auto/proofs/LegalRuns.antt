-- The schedule that is drawn for a well-formed program is legal.
use Rattle.mr_auto.proofs.Common.{◌≡◌, ℕ, sym, subst, Some, Program, WellFormed, look_of, start_config, Picked, drawn_schedule, schedule_from, start_picked}
use Rattle.mr_start.specs.Runs.{Legal}
use Rattle.mr_start.proofs.StartSound.{start_look, start_sound}
use Rattle.mr_auto.proofs.StartFound.{start_found}
use Rattle.mr_auto.proofs.Starts.{start_legal, start_lies}
use Rattle.mr_auto.proofs.Steps.{entries_legal}

legal_from : (p : Program) (number most : ℕ) → WellFormed p → (r : Picked) → start_picked p number ≡ Some r → Legal p (schedule_from p most (Some r))
unfolding look_of
legal_from p number most well r e =
    let legal = start_legal p number r e in
    record {
      start = legal;
      entries = entries_legal (look_of p r.picks) (start_look p well r.picks legal) well most (start_config p r.picks) r.chooser (start_sound p well r.picks legal) (start_lies p number r e);
    }

pub schedule_legal : (p : Program) (number most : ℕ) → WellFormed p → Legal p (drawn_schedule p number most)
unfolding drawn_schedule
schedule_legal p number most well =
    let (r, e) = start_found p well number in
    subst (λ o. Legal p (schedule_from p most o)) (sym e) (legal_from p number most well r e)
