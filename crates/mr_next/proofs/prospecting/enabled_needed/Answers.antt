use Rattle.mr_next.proofs.Common.{ap, ◌++◌, ◌∙◌, map, needs, thread_step, want_of}
use Rattle.mr_next.proofs.prospecting.enabled_needed.Goals as goal

pub wants_of-requires : goal.wants_of-requires
wants_of-requires c = let (s, here, on) = c.requires.enabled in (s, here)

pub returns : goal.returns
returns c = λ s here.
    let told = c.in_ok-limit.ensures.asks s here in
    let asked = (needs (thread_step c.args.machine.now.look) s c.args.thread).asks in (
      c.in_ok-wants.ensures s here ∙ ap (map (want_of s.shared.statuses)) (c.as_slice.ensures.value ∙ told.0 ∙ ap (λ l. l ++ asked) c.new-asks.ensures.items),
      told.1,
    )
