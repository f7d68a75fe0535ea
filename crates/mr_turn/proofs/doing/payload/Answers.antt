use Rattle.mr_turn.proofs.Common.{◌∙◌, [], Some, length, refl, subst, sym, Err, NoPayload, world_of, result_fits, operands_of, finished, look_of, stack_of, IsNoted, do_breaks, do_comes_to, do_planned, Does, IsSame, TurnAnswer, asks_break, begun, own_of}
use Rattle.mr_ast.specs.declared.program.Intrinsic.TheVariants as intrinsic
use Rattle.mr_value.specs.declared.val.Val.TheVariants as val
use Rattle.mr_turn.proofs.DoAnswers.{end_is_deed, given_for, payload_breaks, payload_comes, payload_done, payload_fits, payload_refused, payload_stops, stopped_turn}
use Rattle.mr_turn.proofs.FrameAnswers.{deed_is_turn, judged_broken}
use Rattle.mr_turn.proofs.doing.payload.Goals as goal

pub returns-in-None : goal.returns-in-None
returns-in-None c = λ d due.
    let look = c.args.look.now in
    let stack = c.args.stack.now in
    let s = c.args.s.now in
    let x = c.args.sync.now in
    let call = c.args.call.now in
    let picks = c.args.picks.now in
    let g = given_for look stack s x call intrinsic.Payload c.requires d due in
    let o = do_comes_to look stack s x call d picks in
    stopped_turn c.stopped.result NoPayload picks s x (do_planned (look_of look) (own_of s.thread stack) d (operands_of call) (begun s x)) o s.notes.refused (Does stack s x o stack s x) (IsSame stack s x stack s x)
    c.stopped.ensures (payload_stops look stack s x call d g.1 picks (sym c.in-None.ensures)) (payload_comes look stack s x call d g.1 picks (sym c.in-None.ensures))
    (record { stack = refl; memory = refl; tables = refl })

pub returns-in-Err : goal.returns-in-Err
returns-in-Err c = λ d due.
    let look = c.args.look.now in
    let stack = c.args.stack.now in
    let s = c.args.s.now in
    let x = c.args.sync.now in
    let call = c.args.call.now in
    let picks = c.args.picks.now in
    let g = given_for look stack s x call intrinsic.Payload c.requires d due in
    let o = do_comes_to look stack s x call d picks in
    subst (λ f. TurnAnswer (Err c.in-Err.fault) f o s.notes.refused (Does stack s x o stack s x) (IsSame stack s x stack s x)) (sym (payload_breaks look stack s x call d g.1 picks c.in-Some.last (sym c.in-Some.ensures)))
    (judged_broken c.in-Err.fault (asks_break s x [] picks) o s.notes.refused (Does stack s x o stack s x) (IsSame stack s x stack s x) c.in-Err.ensures (record { stack = refl; memory = refl; tables = refl }))

pub end-requires : goal.end-requires
end-requires c =
    let look = c.args.look.now in
    let stack = c.args.stack.now in
    let s = c.args.s.now in
    let x = c.args.sync.now in
    let call = c.args.call.now in
    let (d, g, is) = c.requires in
    record {
      ready = g.ready;
      fits = g.fits;
      due = d;
      is = g.due;
      result = result_fits d.op (operands_of call) (Some (val.Ptr c.in-Some.last)) g.operands (payload_fits d.op (operands_of call) c.in-Some.last is g.operands);
    }

pub returns-in-Ok : goal.returns-in-Ok
returns-in-Ok c = λ d due.
    let look = c.args.look.now in
    let stack = c.args.stack.now in
    let s = c.args.s.now in
    let x = c.args.sync.now in
    let call = c.args.call.now in
    let picks = c.args.picks.now in
    let g = given_for look stack s x call intrinsic.Payload c.requires d due in
    let o = do_comes_to look stack s x call d picks in
    let p = c.in-Some.last in
    let here = sym c.in-Some.ensures in
    let k = stack_of c.end.new.stack in
    deed_is_turn c.end.result (do_breaks look stack s x call d picks) o c.end.new.s.notes.refused (Does stack s x o c.end.new.stack c.end.new.s x) (IsSame stack s x c.end.new.stack c.end.new.s x)
    (payload_breaks look stack s x call d g.1 picks p here ∙ c.in-Ok.ensures)
    (end_is_deed c.end.result (finished (stack_of stack) d (operands_of call) (Some (val.Ptr p)) (world_of s)) k (world_of c.end.new.s) c.end.new.s.notes.refused IsNoted (Does stack s x o c.end.new.stack c.end.new.s x) o
    (c.end.ensures d due)
    (λ deed went noted. payload_done look stack s x call d g.1 picks p here (length x.statuses) c.end.new.stack c.end.new.s deed went noted)
    (λ r h. payload_refused look stack s x call d g.1 picks p here r h))
