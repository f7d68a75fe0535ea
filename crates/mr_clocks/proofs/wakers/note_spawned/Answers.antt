use Rattle.mr_clocks.proofs.Common.{ℕ, ◌∙◌, ap, refl, slice_index, subst, sym, eq-eqb, eqb-true, Event, spawns, IsKept}
use Rattle.mr_clocks.proofs.wakers.note_spawned.Goals as goal

pub note_wake-requires-clause-reached : goal.note_wake-requires-clause-reached
note_wake-requires-clause-reached c =
    let thread = c.in-Spawn.thread in
    c.requires.reached thread (ap (λ (e : Event). spawns e thread) c.in-Spawn.is ∙ eq-eqb thread thread refl)

pub returns-in-Spawn-clause-own : goal.returns-in-Spawn-clause-own
returns-in-Spawn-clause-own c = λ t h.
    subst (λ (q : ℕ). IsKept c.note_wake.new.wakers.links.items (slice_index c.note_wake.new.wakers.heads.items q) c.args.j)
    (eqb-true c.in-Spawn.thread t (sym (ap (λ (e : Event). spawns e t) c.in-Spawn.is) ∙ h)) c.note_wake.ensures.own
