use Rattle.mr_start.proofs.Common.{ap}
use Rattle.mr_start.proofs.Begun.{made_within, main_begins, main_entered}
use Rattle.mr_start.proofs.beginning.enter_main.Goals as goal

pub slice_bounds-enter-count : goal.slice_bounds-enter-count
slice_bounds-enter-count c = made_within c.args.look.now c.requires.ready c.args.picks.now c.requires.legal

pub slice_bounds-enter-start : goal.slice_bounds-enter-start
slice_bounds-enter-start c = made_within c.args.look.now c.requires.ready c.args.picks.now c.requires.legal

pub enter-requires : goal.enter-requires
enter-requires c =
    main_begins c.args.look.now c.requires.ready c.args.picks.now c.requires.legal c.args.memory c.requires.memory c.program.result.now.start.0 (ap (λ q. q.start.0) c.program.ensures.same) _ c.new-scene.ensures

pub returns : goal.returns
returns c =
    let all = main_entered c.args.look.now c.requires.ready c.args.picks.now c.requires.legal c.args.memory c.requires.memory c.program.result.now.start.0 (ap (λ q. q.start.0) c.program.ensures.same) _ c.new-scene.ensures _ _ c.in_ok-stack.ensures in
    record { memory = all.1; stack = all.0; count = all.2 }
