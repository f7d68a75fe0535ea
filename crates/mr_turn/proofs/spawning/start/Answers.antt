use Rattle.mr_turn.proofs.SpawnAnswers.{begins_with, start_ends, started, starts_for}
use Rattle.mr_turn.proofs.spawning.start.Goals as goal

pub enter-requires : goal.enter-requires
enter-requires c =
    let look = c.args.look.now in
    let stack = c.args.stack.now in
    let s = c.args.s.now in
    let x = c.args.sync.now in
    let call = c.args.call.now in
    let picks = c.args.picks.now in
    let (d, h) = c.requires in
    begins_with look stack s x call d c.args.f.0 picks h c.as_slice.result.now c.as_slice.ensures.value

pub end_start-requires : goal.end_start-requires
end_start-requires c =
    let look = c.args.look.now in
    let stack = c.args.stack.now in
    let s = c.args.s.now in
    let x = c.args.sync.now in
    let call = c.args.call.now in
    let picks = c.args.picks.now in
    let (d, h) = c.requires in
    start_ends look stack s x call d c.args.f.0 picks h c.as_slice.result.now c.as_slice.ensures.value c.in_ok-number.number c.in_ok-number.ensures.number

pub returns : goal.returns
returns c = λ d due.
    let look = c.args.look.now in
    let stack = c.args.stack.now in
    let s = c.args.s.now in
    let x = c.args.sync.now in
    let call = c.args.call.now in
    let picks = c.args.picks.now in
    let h = starts_for look stack s x call c.args.f.0 picks c.requires d due in
    started look stack s x call d c.args.f.0 picks h c.as_slice.result.now c.as_slice.ensures.value c.in_ok-number.number c.in_ok-number.ensures.number
    c.enter.new.s c.in_ok-new.new c.in_ok-new.ensures c.spawn.new.self c.in_ok-number.ensures.ok c.end_start.result c.end_start.new.stack c.end_start.new.s (c.end_start.ensures d due)
