use Rattle.mr_turn.proofs.Common.{refl, subst, sym, None, Ok, start_notes, look_of, stack_of, next_do, shared_of, AsksAnswer, own_of}
use Rattle.mr_turn.proofs.AskAnswers.{none_due}
use Rattle.mr_turn.proofs.DoAnswers.{due_named}
use Rattle.mr_turn.proofs.FrameTurns.{frame_needs}
use Rattle.mr_turn.proofs.asking.asks.Goals as goal

pub do_asks-requires-clause-due : goal.do_asks-requires-clause-due
do_asks-requires-clause-due c =
    due_named (next_do (look_of c.args.look.now) (stack_of c.args.stack.now)) c.in-Some.op (c.in-Some.ensures c.args.look.now.functions.now c.args.look.now.globals.now)

pub returns-in_ok-asks-in-None : goal.returns-in_ok-asks-in-None
returns-in_ok-asks-in-None c = λ count.
    let look = c.args.look.now in
    let stack = c.args.stack.now in
    let m = c.args.m.now in
    let x = c.args.sync.now in
    let thread = c.args.thread in
    let none = none_due (next_do (look_of look) (stack_of stack)) (c.in-None.ensures look.functions.now look.globals.now) in
    subst (λ n. AsksAnswer {E = Unit {0}} (shared_of m x) n c.args.out.now.items c.asks.new.out.items (Ok None))
    (sym (frame_needs (look_of look) (own_of thread stack) none (shared_of m x, start_notes thread count)))
    (c.in_ok-asks-in-None.ensures.ok thread, refl)
