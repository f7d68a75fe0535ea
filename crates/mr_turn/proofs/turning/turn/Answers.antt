use Rattle.mr_turn.proofs.Common.{look_of, stack_of, next_do}
use Rattle.mr_turn.proofs.DoAnswers.{due_named}
use Rattle.mr_turn.proofs.turning.turn.Goals as goal

pub do_turn-requires-clause-due : goal.do_turn-requires-clause-due
do_turn-requires-clause-due c =
    due_named (next_do (look_of c.args.look.now) (stack_of c.args.stack.now)) c.in-Some.op (c.in-Some.ensures c.args.look.now.functions.now c.args.look.now.globals.now)
