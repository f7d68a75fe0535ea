use Rattle.mr_auto.proofs.Common.{◌++◌, ap, sym, ◌∙◌, needs, thread_step}
use Rattle.mr_auto.proofs.Nexts.{entry_found, entry_missing, no_limit}
use Rattle.mr_auto.proofs.drawing.entry_of.Goals as goal

pub returns-in-Some : goal.returns-in-Some
returns-in-Some c = λ s here.
    let told = c.in_ok-asks.ensures.asks s here in
    let asked = (needs (thread_step c.args.machine.now.look) s c.args.thread).asks in
    let free = no_limit _ c.in_ok-asks.field-0 told.1 (sym c.is_some.ensures ∙ c.if-is_some.false) in
    entry_found c.args.machine.now.look s c.args.chooser.now c.args.thread c.as_slice.result.now free
    (c.as_slice.ensures.value ∙ told.0 ∙ ap (λ l. l ++ asked) c.new-asks.ensures.items)
    c.in-Some.picks c.picks_for.new.chooser (rw c.in-Some.is at (c.in_ok-picks.ensures s here))

pub returns : goal.returns
returns c = λ s here.
    let told = c.in_ok-asks.ensures.asks s here in
    let asked = (needs (thread_step c.args.machine.now.look) s c.args.thread).asks in
    let free = no_limit _ c.in_ok-asks.field-0 told.1 (sym c.is_some.ensures ∙ c.if-is_some.false) in
    entry_missing c.args.machine.now.look s c.args.chooser.now c.args.thread c.as_slice.result.now free
    (c.as_slice.ensures.value ∙ told.0 ∙ ap (λ l. l ++ asked) c.new-asks.ensures.items)
    (rw c.in-None.is at (c.in_ok-picks.ensures s here))
