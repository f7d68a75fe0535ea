use Rattle.mr_fill.proofs.Common.{◌++◌, ap, sym, subst, ◌∙◌, ℕ, Result, weaker, Next, needs, thread_step, TurnAnswer}
use Rattle.mr_fill.proofs.TurnLaws.{enabled_told, limit_broken}
use Rattle.mr_fill.proofs.turning.enabled_due.Goals as goal

pub returns-in-Some : goal.returns-in-Some
returns-in-Some c = λ s here.
    let told = c.in_ok-code.ensures.asks s here in
    limit_broken _ _ c.in-Some.code (sym c.in-Some.is ∙ told.1)

pub asked-requires : goal.asked-requires
asked-requires c = let (s, here, on) = c.requires.enabled in (s, here)

pub returns : goal.returns
returns c =
    weaker c.asked.result _ _
    (λ due h. λ s here.
    let told = c.in_ok-code.ensures.asks s here in
    let asked = (needs (thread_step c.args.machine.now.look) s c.args.turn.thread).asks in
    subst (λ (r : Result Next ℕ). TurnAnswer r due c.asked.new.chooser)
    (enabled_told c.args.machine.now.look s c.args.chooser.now c.args.turn c.as_slice.result.now (sym c.in-None.is ∙ told.1) (c.as_slice.ensures.value ∙ told.0 ∙ ap (λ l. l ++ asked) c.new-asks.ensures.items))
    (h s here))
    c.asked.ensures
