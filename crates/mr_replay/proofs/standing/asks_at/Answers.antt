use Rattle.mr_replay.proofs.Common.{◌≡◌, ◌∙◌, List, Some, State, needs, Own, thread_step, asks_at}
use Rattle.mr_sched.specs.declared.schedule.Ask.{Ask}
use Rattle.mr_replay.proofs.StandLaws.{asks_are, asks_none, has_state, weaker}
use Rattle.mr_replay.proofs.standing.asks_at.Goals as goal

pub enabled_asks-requires-clause-enabled : goal.enabled_asks-requires-clause-enabled
enabled_asks-requires-clause-enabled c =
    has_state c.args.machine.now.config c.args.thread c.enabled.result c.enabled.ensures.there c.enabled.ensures.gone
    c.if-enabled.true

pub returns-then-enabled : goal.returns-then-enabled
returns-then-enabled c =
    let m = c.args.machine.now in
    let t = c.args.thread in
    weaker c.enabled_asks.result
    (λ (asks : List Ask). (s : State Own) → m.config.state ≡ Some s → asks ≡ (needs (thread_step m.look) s t).asks)
    (λ (asks : List Ask). asks ≡ asks_at m.look m.config t) c.enabled_asks.ensures
    (λ asks found.
    asks_are m.config t c.enabled.result c.enabled.ensures.there c.enabled.ensures.gone m.look asks c.if-enabled.true found)

pub returns-else-enabled : goal.returns-else-enabled
returns-else-enabled c =
    c.new.ensures
    ∙ asks_none c.args.machine.now.config c.args.thread c.enabled.result c.enabled.ensures.there
    c.enabled.ensures.gone c.args.machine.now.look c.if-enabled.false
