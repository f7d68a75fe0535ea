use Rattle.mr_turn.proofs.Common.{refl, subst, sym, Err, Option, Outcome, stop_with, seen, TellsBy, Notes, Shared, operands_of, argued, look_of, Turn, Does, IsSame, StopAnswer, TurnAnswer, begun, comes_to, own_of, planned, Scene, do_breaks, do_comes_to}
use Rattle.std.proofs.Common.{subst₂}
use Rattle.mr_mem.specs.declared.fault.Fault.{Fault}
use Rattle.mr_frame.specs.PlanLegal.{Fault as FaultOf}
use Rattle.mr_turn.proofs.FrameAnswers.{turn_as}
use Rattle.mr_turn.proofs.DoAnswers.{given_breaks, given_comes, operands_fit, stopped_comes, stopped_planned, stopped_turn}
use Rattle.mr_turn.proofs.doing.do_turn.Goals as goal

pub act-answer-requires : goal.act-answer-requires
act-answer-requires c =
    let look = c.args.look.now in
    let stack = c.args.stack.now in
    let s = c.args.s.now in
    let x = c.args.sync.now in
    let picks = c.args.picks.now in
    let (d, due, is) = c.requires.due in (
      d,
      record {
        ready = c.requires.begins.ready;
        fits = c.requires.begins.fits;
        due = due;
        operands = operands_fit look c.requires.begins.ready stack c.requires.begins.fits d due s.memory (seen s.notes) (seen c.arguments.new.notes) (operands_of c.in-Ok.call) (c.in-Ok.ensures.given d due);
        enabled = c.requires.begins.enabled;
        uncounted = c.requires.begins.uncounted;
        few = c.requires.begins.few;
      },
      is,
    )

pub returns-in-Err-Undefined : goal.returns-in-Err-Undefined
returns-in-Err-Undefined c =
    let look = c.args.look.now in
    let stack = c.args.stack.now in
    let s = c.args.s.now in
    let x = c.args.sync.now in
    let picks = c.args.picks.now in
    let (d, due, is) = c.requires.due in
    let r = c.in-Err-Undefined.reason in
    let last = c.arguments.new.notes.refused in
    let given = subst (λ (f : Fault). TellsBy operands_of (Err f) (argued s.memory (look_of look) d (seen s.notes)) (seen c.arguments.new.notes) last) c.in-Err-Undefined.field-0-is (c.in-Err-Undefined.ensures.given d due) in
    let o = comes_to look stack s x picks in
    let later = record s { notes = c.arguments.new.notes } in
    stopped_turn c.stopped.result r picks s x (planned (look_of look) (own_of s.thread stack) (begun s x)) o last (Does stack s x o stack later x) (IsSame stack s x stack later x)
    (subst (λ q. StopAnswer c.stopped.result q picks) c.in-Err-Undefined.reason-is c.stopped.ensures) (stopped_planned look stack s x d due picks (stop_with last r) given)
    (stopped_comes look stack s x d due picks (stop_with last r) given)
    (record { stack = refl; memory = refl; tables = refl })

pub returns-in-Ok : goal.returns-in-Ok
returns-in-Ok c =
    let look = c.args.look.now in
    let stack = c.args.stack.now in
    let s = c.args.s.now in
    let x = c.args.sync.now in
    let picks = c.args.picks.now in
    let (d, due, is) = c.requires.due in
    let given = c.in-Ok.ensures.given d due in
    let later : Scene = record s { notes = c.arguments.new.notes } in
    let b = do_breaks look stack later x c.in-Ok.call d picks in
    let o = do_comes_to look stack later x c.in-Ok.call d picks in
    let after = c.act-answer.new.s in
    let end : Scene = record after { notes = record after.notes { spare_values = c.in-Ok.call.args; spare_types = c.in-Ok.call.arg_types } } in
    subst₂ (λ (b : Option FaultOf) (o : Outcome Turn (Shared × Notes)). TurnAnswer c.act-answer.result b o after.notes.refused (Does stack s x o c.act-answer.new.stack end c.act-answer.new.sync) (IsSame stack s x c.act-answer.new.stack end c.act-answer.new.sync))
    (sym (given_breaks look stack s x d due picks c.arguments.new.notes c.in-Ok.call given)) (sym (given_comes look stack s x d due picks c.arguments.new.notes c.in-Ok.call given))
    (turn_as c.act-answer.result b o after.notes.refused (Does stack s x o c.act-answer.new.stack after c.act-answer.new.sync) (Does stack s x o c.act-answer.new.stack end c.act-answer.new.sync) (IsSame stack later x c.act-answer.new.stack after c.act-answer.new.sync) (IsSame stack s x c.act-answer.new.stack end c.act-answer.new.sync)
    (λ done h. record { notes = h.notes; goes = h.goes; tally = h.tally; event = h.event; ended = h.ended; woken = h.woken; printed = h.printed })
    (λ same. record { stack = same.stack; memory = same.memory; tables = same.tables }) (c.act-answer.ensures d due))
