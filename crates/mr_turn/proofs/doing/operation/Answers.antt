use Rattle.mr_turn.proofs.Common.{◌∙◌, ap, refl, subst, sym, Err, Ok, Refused, stop_with, operands_of, look_of, do_breaks, do_comes_to, do_planned, Does, IsSame, JudgeAnswer, begun, own_of}
use Rattle.mr_eval.proofs.RefusedLaws.{stop_plainly}
use Rattle.mr_turn.proofs.CarryAnswers.{carry_comes, carry_needs, carry_stops, told_needs}
use Rattle.mr_turn.proofs.DoAnswers.{given_for, stopped_turn}
use Rattle.mr_turn.proofs.FrameAnswers.{deed_is_turn, judged_broken}
use Rattle.mr_turn.proofs.doing.operation.Goals as goal

pub carry_out-requires-clause-given : goal.carry_out-requires-clause-given
carry_out-requires-clause-given c =
    let look = c.args.look.now in
    let stack = c.args.stack.now in
    let s = c.args.s.now in
    let x = c.args.sync.now in
    let call = c.args.call.now in
    let picks = c.args.picks.now in
    let (d, g, is) = c.requires.given in
    let needs = told_needs look stack s x call d g c.args.op is c.requires.kind picks c.as_slice.result.now c.as_slice.ensures.value (Ok c.in-Ok.needs) c.in-Ok.ensures in
    (d, g, is, carry_needs look stack s x call d g c.args.op is c.requires.kind picks c.in-Ok.needs needs ∙ c.in-Ok-meets.ensures)

pub returns-in-Err : goal.returns-in-Err
returns-in-Err c = λ d due.
    let look = c.args.look.now in
    let stack = c.args.stack.now in
    let s = c.args.s.now in
    let x = c.args.sync.now in
    let call = c.args.call.now in
    let picks = c.args.picks.now in
    let g = given_for look stack s x call c.args.op c.requires.given d due in
    let o = do_comes_to look stack s x call d picks in
    let told = told_needs look stack s x call d g.0 c.args.op g.1 c.requires.kind picks c.as_slice.result.now c.as_slice.ensures.value (Err c.in-Err.reason) c.in-Err.ensures in
    let stops = told.0 ∙ ap Refused (stop_plainly s.notes.refused c.in-Err.reason told.1) in
    stopped_turn c.stopped.result c.in-Err.reason picks s x (do_planned (look_of look) (own_of s.thread stack) d (operands_of call) (begun s x)) o s.notes.refused (Does stack s x o stack s x) (IsSame stack s x stack s x)
    c.stopped.ensures (carry_stops look stack s x call d g.0 c.args.op g.1 c.requires.kind picks (stop_with s.notes.refused c.in-Err.reason) stops) (carry_comes look stack s x call d g.0 c.args.op g.1 c.requires.kind picks (stop_with s.notes.refused c.in-Err.reason) stops)
    (record { stack = refl; memory = refl; tables = refl })

pub returns-in-Err-meets : goal.returns-in-Err-meets
returns-in-Err-meets c = λ d due.
    let look = c.args.look.now in
    let stack = c.args.stack.now in
    let s = c.args.s.now in
    let x = c.args.sync.now in
    let call = c.args.call.now in
    let picks = c.args.picks.now in
    let g = given_for look stack s x call c.args.op c.requires.given d due in
    let o = do_comes_to look stack s x call d picks in
    let needs = told_needs look stack s x call d g.0 c.args.op g.1 c.requires.kind picks c.as_slice.result.now c.as_slice.ensures.value (Ok c.in-Ok.needs) c.in-Ok.ensures in
    judged_broken c.in-Err-meets.fault (do_breaks look stack s x call d picks) o s.notes.refused (Does stack s x o stack s x) (IsSame stack s x stack s x)
    (subst (JudgeAnswer (Err c.in-Err-meets.fault)) (sym (carry_needs look stack s x call d g.0 c.args.op g.1 c.requires.kind picks c.in-Ok.needs needs)) c.in-Err-meets.ensures)
    (record { stack = refl; memory = refl; tables = refl })

pub returns-in-Ok-meets : goal.returns-in-Ok-meets
returns-in-Ok-meets c = λ d due.
    let look = c.args.look.now in
    let stack = c.args.stack.now in
    let s = c.args.s.now in
    let x = c.args.sync.now in
    let call = c.args.call.now in
    let picks = c.args.picks.now in
    let g = given_for look stack s x call c.args.op c.requires.given d due in
    let o = do_comes_to look stack s x call d picks in
    let needs = told_needs look stack s x call d g.0 c.args.op g.1 c.requires.kind picks c.as_slice.result.now c.as_slice.ensures.value (Ok c.in-Ok.needs) c.in-Ok.ensures in
    deed_is_turn c.carry_out.result (do_breaks look stack s x call d picks) o c.carry_out.new.s.notes.refused (Does stack s x o c.carry_out.new.stack c.carry_out.new.s c.carry_out.new.sync) (IsSame stack s x c.carry_out.new.stack c.carry_out.new.s c.carry_out.new.sync)
    (carry_needs look stack s x call d g.0 c.args.op g.1 c.requires.kind picks c.in-Ok.needs needs ∙ c.in-Ok-meets.ensures)
    (c.carry_out.ensures d due)
