-- What each state of a run keeps is what the exchange of neighbouring steps asks of a state.
use Rattle.mr_exchange.proofs.Common.{◌<◌, sym, ◌∙◌, subst, same_Some, slice_get_within, Program, IsSane, SoundState, Own}
use Rattle.mr_exchange.specs.PlanMachine.{State, Thread}

-- WHAT A STATE KEEPS IS ENOUGH
pub sound_is_sane : (p : Program) (s : State Own) → SoundState p s → IsSane s
sound_is_sane p s h = record {
  counted = λ id a there th here.
      let c = h.counted id a there in
      subst (λ (x : Thread Own). id.count < x.count) (same_Some c.thread th (sym c.is ∙ here)) c.below;
  has_thread = λ id a there. let c = h.counted id a there in slice_get_within s.threads id.thread c.thread c.is;
  numbered = sym h.many;
}
