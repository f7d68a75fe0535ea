-- What the next step of a thread asks for, in a machine that stands.
use Rattle.mr_step.proofs.Common.{◌≡◌, ℕ, ◌<◌, refl, ap, ◌∙◌, arith, length, Bool, true, false, Some, slice_get, same_Some, State, needed, needs, start_notes, look_of, Own, thread_step, planned, Progress, BeginsAct, IsDue, state_of, state_unless}
use Rattle.mr_base.specs.declared.reason.Verdict.TheVariants.{Running}
use Rattle.mr_plan.specs.Machine.{needs_of}
use Rattle.mr_plan.specs.Queries.{answer}
use Rattle.mr_base.specs.Script.{run}
use Rattle.mr_exchange.specs.StartSteps.{own_step}
use Rattle.mr_turn.specs.Asking.{step_needs}
use Rattle.mr_step.specs.Advance.{CanAsk}
use Rattle.mr_frame.specs.declared.look.Look.{Look as KeptLook}
use Rattle.mr_step.specs.declared.progress.Thread.{Thread as KeptThread}
use Rattle.mr_step.proofs.SoundLaws.{begins_act, own_is, thread_here, thread_there}

-- neither the verdict nor how many steps were completed counts here
abbrev counted : Progress → Progress
counted p = record p { completed = 0; verdict = Running }

due : (look : KeptLook) (t : ℕ) (p : Progress) → CanAsk look t p → IsDue look t (counted p)
due look t p c = record {
  before = record { ready = c.ready; sound = c.sound; steps = omega arith };
  there = c.there;
  running = refl;
  enabled = c.enabled;
}

module _ (look : KeptLook) (t : ℕ) (p : Progress) (c : CanAsk look t p) where
  pub asked_there : t < length p.threads.items
  asked_there = thread_there look t (counted p) (due look t p c)

  module _ (th : KeptThread) (here : slice_get p.threads.items t ≡ Some th) where
    pub asked_begins : BeginsAct look t th p.scene.memory p.sync
    asked_begins = begins_act look t (counted p) (due look t p c) th here

    pub needs_here : needs (thread_step (look_of look)) (state_of p) t ≡ step_needs look th.stack p.scene.memory p.sync t th.count
    unfolding planned
    needs_here =
        ap (needed (thread_step (look_of look)) (state_of p) t) (thread_here look t (counted p) (due look t p c) th here)
        ∙ ap (λ (own : Own). needs_of (run answer (own_step (look_of look) own) ((state_of p).shared, start_notes t th.count))) (own_is look t (counted p) (due look t p c) th here)

-- a machine that has a state isn't gone, and has that one
pub state_there : (gone : Bool) (s t : State Own) → state_unless gone s ≡ Some t → (gone ≡ false) × (s ≡ t)
state_there true s t h = absurd (cc)
state_there false s t h = (refl, same_Some s t h)
