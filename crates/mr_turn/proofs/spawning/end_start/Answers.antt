use Rattle.mr_turn.proofs.Common.{subst, sym, Err, Some, world_of, operands_of, finished, stack_of, TurnFault, EndAnswer, IsNewThread}
use Rattle.mr_value.specs.declared.val.Val.TheVariants as val
use Rattle.mr_turn.proofs.DoAnswers.{ended_refused}
use Rattle.mr_turn.proofs.spawning.end_start.Goals as goal

pub returns-in-Err : goal.returns-in-Err
returns-in-Err c = λ d due.
    let o = finished (stack_of c.args.stack.now) d (operands_of c.args.call.now) (Some (val.Int c.args.number)) (world_of c.args.s.now) in
    let k = stack_of c.finish.new.self in
    let w = world_of c.finish.new.s in
    subst (λ (f : TurnFault). EndAnswer (Err f) o k w c.finish.new.s.notes.refused (IsNewThread c.args.new c.args.number)) (sym c.from.ensures) (ended_refused c.in-Err.fault o k w c.finish.new.s.notes.refused (IsNewThread c.args.new c.args.number) (c.in-Err.ensures d due))
