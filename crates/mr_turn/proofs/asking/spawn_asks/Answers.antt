use Rattle.mr_turn.proofs.Common.{subst, sym, None, Ok, plainly, NotAFunction, operands_of, look_of, shared_of, AsksAnswer, own_of}
use Rattle.mr_ast.specs.declared.program.Intrinsic.TheVariants as intrinsic
use Rattle.mr_turn.proofs.AskAnswers.{asked_given, none_asked, stops_needs}
use Rattle.mr_turn.proofs.SpawnAnswers.{first_pointer, no_callee, spawn_given_for, stands_for}
use Rattle.mr_turn.proofs.SpawnTurns.{none_planned}
use Rattle.mr_turn.proofs.asking.spawn_asks.Goals as goal

pub callee_in-requires : goal.callee_in-requires
callee_in-requires c =
    let (d, g, is) = c.requires in
    first_pointer (operands_of c.args.call.now) (spawn_given_for d is (operands_of c.args.call.now) g.operands) c.as_slice.result.now c.as_slice.ensures.value

pub start_asks-requires : goal.start_asks-requires
start_asks-requires c =
    let look = c.args.look.now in
    let stack = c.args.stack.now in
    let x = c.args.sync.now in
    let call = c.args.call.now in
    let (d, g, is) = c.requires in
    let to = spawn_given_for d is (operands_of call) g.operands in (
      d,
      record {
        asked = g;
        is = is;
        given_to = to;
        at = stands_for look g.ready (operands_of call) to c.as_slice.result.now c.as_slice.ensures.value c.callee_in.result c.callee_in.ensures c.in-Some.f.0 c.in-Some.ensures;
      },
    )

pub returns-in-None : goal.returns-in-None
returns-in-None c = λ d due m n here.
    let look = c.args.look.now in
    let stack = c.args.stack.now in
    let x = c.args.sync.now in
    let call = c.args.call.now in
    let (g, is) = asked_given look stack call intrinsic.Spawn c.requires d due in
    let own = own_of c.args.thread stack in
    let to = spawn_given_for d is (operands_of call) g.operands in
    let none = no_callee look (operands_of call) to c.as_slice.result.now c.as_slice.ensures.value c.callee_in.result c.callee_in.ensures c.in-None.ensures in
    subst (λ k. AsksAnswer {E = Unit {0}} (shared_of m x) k c.args.out.now.items c.args.out.now.items (Ok None))
    (sym (stops_needs (look_of look) own d (operands_of call) (shared_of m x, n) (plainly NotAFunction) (none_planned (look_of look) own d (operands_of call) is to.callee to.argument to.args (shared_of m x, n) none)))
    (none_asked (shared_of m x) c.args.out.now.items)
