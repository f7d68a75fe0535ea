use Rattle.mr_next.proofs.Common.{ap, ap₂, sym, ◌++◌, ◌∷◌, [], ◌∙◌, get_or, map, take, map-append, take_more, want_of}
use Rattle.std.proofs.lemmas.List.{take_all}
use Rattle.mr_sched.specs.declared.schedule.Ask.TheVariants.{Address}
use Rattle.mr_next.proofs.prospecting.wants_of.Goals as goal

pub loop-ask-preserved : goal.loop-ask-preserved
loop-ask-preserved c = λ s here.
    let asks = c.args.asks.now in
    let i = c.loop-ask.ask-index in
    let f = want_of s.shared.statuses in
    c.in_ok-push.ensures.ok
    ∙ ap₂ (λ ws w. ws ++ w ∷ []) (c.loop-ask.invariant s here) (c.in_ok-want.ensures s here)
    ∙ sym (ap (map f) (take_more asks i (Address 0 0) c.loop-ask-test.true) ∙ map-append f (take i asks) (get_or asks i (Address 0 0) ∷ []))

pub returns : goal.returns
returns c = λ s here.
    c.loop-ask.invariant s here ∙ ap (map (want_of s.shared.statuses)) (take_all c.loop-ask.ask-index c.args.asks.now c.loop-ask-test.false)
