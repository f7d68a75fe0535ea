use Rattle.mr_turn.proofs.Common.{length, subst, sym, Err, stop_with, world_of, acted, look_of, onward_of, stack_of, TurnFault, DeedAnswer, Does, comes_to}
use Rattle.mr_turn.specs.Turning.{IsFlow}
use Rattle.mr_turn.proofs.FrameAnswers.{deed_answers, refused_by, stopped_deed}
use Rattle.mr_turn.proofs.FrameTurns.{flow_refused, flow_turned}
use Rattle.mr_turn.proofs.Threads.{acted_thread}
use Rattle.mr_turn.proofs.framed.take.Goals as goal

pub returns-in-Err : goal.returns-in-Err
returns-in-Err c =
    let look = c.args.look.now in
    let stack = c.args.stack.now in
    let s = c.args.s.now in
    let x = c.args.sync.now in
    let picks = c.args.picks.now in
    let o = comes_to look stack s x picks in
    let inner = acted (look_of look) s.thread (stack_of stack) picks (world_of s) in
    subst (λ (f : TurnFault). DeedAnswer (Err f) o c.act.new.s.notes.refused (Does stack s x o c.act.new.self c.act.new.s x)) (sym c.from.ensures)
    (stopped_deed c.in-Err.fault o c.act.new.s.notes.refused (Does stack s x o c.act.new.self c.act.new.s x)
    (λ r e. flow_refused (look_of look) s.thread stack s x picks (stop_with c.act.new.s.notes.refused r) c.requires.other
    (refused_by (λ flow. onward_of flow (stack_of c.act.new.self)) c.in-Err.fault inner (world_of c.act.new.s) c.act.new.s.notes.refused c.in-Err.ensures r e)))

pub returns-in-Ok : goal.returns-in-Ok
returns-in-Ok c =
    let look = c.args.look.now in
    let stack = c.args.stack.now in
    let s = c.args.s.now in
    let x = c.args.sync.now in
    let picks = c.args.picks.now in
    let flow = c.in-Ok.flow in
    deed_answers c.deed_of.result (comes_to look stack s x picks) c.act.new.s.notes.refused (IsFlow flow s.thread x c.deed_of.new.sync) (Does stack s x (comes_to look stack s x picks) c.act.new.self c.act.new.s c.deed_of.new.sync)
    (λ d is. flow_turned (look_of look) s.thread (length x.statuses) stack c.act.new.self s c.act.new.s x c.deed_of.new.sync picks d flow c.requires.other c.in-Ok.ensures
    (acted_thread (look_of look) s.thread (stack_of stack) picks (world_of s) (world_of c.act.new.s) (onward_of flow (stack_of c.act.new.self)) c.in-Ok.ensures) is)
    c.deed_of.ensures
