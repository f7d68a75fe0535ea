use Rattle.mr_turn.proofs.Common.{refl, NotAFunction, operands_of, look_of, do_comes_to, do_planned, Does, IsSame, begun, own_of}
use Rattle.mr_ast.specs.declared.program.Intrinsic.TheVariants as intrinsic
use Rattle.mr_turn.proofs.DoAnswers.{given_for, stopped_turn}
use Rattle.mr_turn.proofs.SpawnAnswers.{first_pointer, no_callee, spawn_given_for, spawns}
use Rattle.mr_turn.proofs.SpawnTurns.{none_planned, none_turned}
use Rattle.mr_turn.proofs.spawning.spawn.Goals as goal

pub callee_in-requires : goal.callee_in-requires
callee_in-requires c =
    let (d, g, is) = c.requires in
    first_pointer (operands_of c.args.call.now) (spawn_given_for d is (operands_of c.args.call.now) g.operands) c.as_slice.result.now c.as_slice.ensures.value

pub spawn_function-requires : goal.spawn_function-requires
spawn_function-requires c =
    let look = c.args.look.now in
    let stack = c.args.stack.now in
    let s = c.args.s.now in
    let x = c.args.sync.now in
    let call = c.args.call.now in
    let picks = c.args.picks.now in
    let (d, g, is) = c.requires in
    let to = spawn_given_for d is (operands_of call) g.operands in
    (d, spawns look stack s x call d g is to c.as_slice.result.now c.as_slice.ensures.value c.callee_in.result c.callee_in.ensures c.in-Some.f.0 c.in-Some.ensures)

pub returns-in-None : goal.returns-in-None
returns-in-None c = λ d due.
    let look = c.args.look.now in
    let stack = c.args.stack.now in
    let s = c.args.s.now in
    let x = c.args.sync.now in
    let call = c.args.call.now in
    let picks = c.args.picks.now in
    let g = given_for look stack s x call intrinsic.Spawn c.requires d due in
    let o = do_comes_to look stack s x call d picks in
    let own = own_of s.thread stack in
    let to = spawn_given_for d g.1 (operands_of call) g.0.operands in
    let none = no_callee look (operands_of call) to c.as_slice.result.now c.as_slice.ensures.value c.callee_in.result c.callee_in.ensures c.in-None.ensures in
    stopped_turn c.stopped.result NotAFunction picks s x (do_planned (look_of look) own d (operands_of call) (begun s x)) o s.notes.refused (Does stack s x o stack s x) (IsSame stack s x stack s x)
    c.stopped.ensures
    (none_planned (look_of look) own d (operands_of call) g.1 to.callee to.argument to.args (begun s x) none)
    (none_turned (look_of look) own d (operands_of call) g.1 to.callee to.argument to.args (begun s x) picks none)
    (record { stack = refl; memory = refl; tables = refl })
