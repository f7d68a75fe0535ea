use Rattle.mr_clocks.proofs.Common.{ℕ, ◌<◌, ◌∙◌, ap, length, refl, subst, sym, eqb-true, Event, spawns}
use Rattle.mr_clocks.proofs.WakerLaws.{extended_none}
use Rattle.mr_clocks.proofs.wakers.extend_by.Goals as goal

pub returns-in_err-extend_past-in-Spawn-clause-kept : goal.returns-in_err-extend_past-in-Spawn-clause-kept
returns-in_err-extend_past-in-Spawn-clause-kept c = extended_none c.args.heads.now.items c.extend_past.new.times.items c.in_err-extend_past-in-Spawn.ensures.err

pub returns-in_ok-extend_past-in-Spawn-clause-kept : goal.returns-in_ok-extend_past-in-Spawn-clause-kept
returns-in_ok-extend_past-in-Spawn-clause-kept c = record { longer = c.in_ok-extend_past-in-Spawn.ensures.grown; same = c.in_ok-extend_past-in-Spawn.ensures.same }

pub returns-in_ok-extend_past-in-Spawn-clause-reached : goal.returns-in_ok-extend_past-in-Spawn-clause-reached
returns-in_ok-extend_past-in-Spawn-clause-reached c = λ t h.
    subst (λ (q : ℕ). q < length c.extend_past.new.times.items) (eqb-true c.in-Spawn.thread t (sym (ap (λ (e : Event). spawns e t) c.in-Spawn.is) ∙ h))
    c.in_ok-extend_past-in-Spawn.ensures.long

pub returns-in_default-clause-kept : goal.returns-in_default-clause-kept
returns-in_default-clause-kept c = extended_none c.args.heads.now.items c.args.heads.now.items refl
