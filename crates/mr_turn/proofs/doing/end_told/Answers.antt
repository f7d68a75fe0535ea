use Rattle.mr_turn.proofs.Common.{subst, sym, Err, Ok, TellsBy, world_of, operands_of, finished, Stack, stack_of, TurnFault, EndAnswer, IsTold}
use Rattle.mr_turn.proofs.DoAnswers.{ended_refused, told_ends}
use Rattle.mr_turn.proofs.doing.end_told.Goals as goal

pub returns-in-Err : goal.returns-in-Err
returns-in-Err c = λ d due.
    let o = finished (stack_of c.args.stack.now) d (operands_of c.args.call.now) c.args.effect.value (world_of c.args.s.now) in
    let k = stack_of c.finish.new.self in
    let w = world_of c.finish.new.s in
    subst (λ (f : TurnFault). EndAnswer (Err f) o k w c.finish.new.s.notes.refused (IsTold c.args.op c.args.effect c.args.text.items)) (sym c.from.ensures)
    (ended_refused c.in-Err.fault o k w c.finish.new.s.notes.refused (IsTold c.args.op c.args.effect c.args.text.items)
    (subst (λ v. TellsBy {X = Unit {0}} {Y = Stack} (λ u. k) (Err c.in-Err.fault) (finished (stack_of c.args.stack.now) d (operands_of c.args.call.now) v (world_of c.args.s.now)) w c.finish.new.s.notes.refused) c.as_ref.ensures.value (c.in-Err.ensures d due)))

pub returns : goal.returns
returns c = λ d due.
    told_ends c.told.result (finished (stack_of c.args.stack.now) d (operands_of c.args.call.now) c.args.effect.value (world_of c.args.s.now)) (stack_of c.finish.new.self) (world_of c.finish.new.s) c.finish.new.s.notes.refused
    (IsTold c.args.op c.args.effect c.args.text.items)
    (subst (λ v. TellsBy {X = Unit {0}} {Y = Stack} (λ u. stack_of c.finish.new.self) (Ok tt) (finished (stack_of c.args.stack.now) d (operands_of c.args.call.now) v (world_of c.args.s.now)) (world_of c.finish.new.s) c.finish.new.s.notes.refused) c.as_ref.ensures.value (c.in-Ok.ensures d due))
    c.told.ensures
