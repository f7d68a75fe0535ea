use Rattle.mr_replay.proofs.Common.{◌∙◌, ◌++◌, ap, needs, thread_step}
use Rattle.mr_replay.proofs.standing.enabled_asks.Goals as goal

pub returns : goal.returns
returns c = λ s here.
    let asked = (needs (thread_step c.args.machine.now.look) s c.args.thread).asks in
    c.from_vec.ensures ∙ (c.in_ok-asks.ensures.asks s here).0 ∙ ap (λ l. l ++ asked) c.new-asks.ensures.items
