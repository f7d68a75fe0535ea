-- Runs whose footprints are written.
use Rattle.mr_answer.proofs.Common.{◌≡◌, subst, sym, List, All, OnOk, Result, Ok, Err, Program, Footprint, Schedule, Legal, steps_of, Written}
use Rattle.mr_event.specs.FootOk.{IsFootOk}
use Rattle.mr_typing.specs.Walk.{WellFormed}
use Rattle.mr_step.proofs.ExchangeFootLimits.{run_ok}
use Rattle.mr_input.specs.Answer.{answered}

-- each of its footprints keeps the machine's limits
pub run_limits : (p q : Program) (w : Schedule) (steps : List Footprint) → q ≡ p → WellFormed q → Legal p w → steps ≡ steps_of p w → All IsFootOk steps
run_limits p q w steps same well legal are = subst (All IsFootOk) (sym are) (run_ok p w (subst WellFormed same well) legal)

-- what holds where bytes were written
pub on_answered : {E : Type 0} (P : Type 0) (r : Result Written E) → OnOk r P → OnOk (answered r) P
on_answered P (Ok a) h = h
on_answered P (Err e) h = tt
