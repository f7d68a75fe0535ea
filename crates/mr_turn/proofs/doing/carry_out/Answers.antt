use Rattle.mr_turn.proofs.Common.{[], subst, sym, Err, Ok, TurnFault, do_comes_to, DeedAnswer, Does}
use Rattle.mr_turn.proofs.CarryAnswers.{carried, carried_end, carried_for, carry_done, carry_lawful_as, carry_refused, fits_place}
use Rattle.mr_turn.proofs.doing.carry_out.Goals as goal

pub operate-requires-clause-lawful : goal.operate-requires-clause-lawful
operate-requires-clause-lawful c =
    let look = c.args.look.now in
    let stack = c.args.stack.now in
    let s = c.args.s.now in
    let x = c.args.sync.now in
    let call = c.args.call.now in
    let picks = c.args.picks.now in
    let (d, g, is, met) = c.requires.given in
    carry_lawful_as look stack s x call d g c.args.op is c.requires.kind picks c.as_slice-args.result.now c.as_slice-args.ensures.value c.as_slice-types.result.now c.as_slice-types.ensures.value _ c.as_ref-place.ensures.value met

pub end_told-requires : goal.end_told-requires
end_told-requires c =
    let look = c.args.look.now in
    let stack = c.args.stack.now in
    let s = c.args.s.now in
    let x = c.args.sync.now in
    let call = c.args.call.now in
    let picks = c.args.picks.now in
    let (d, g, is, met) = c.requires.given in
    carried_end look stack s x call d g c.args.op is c.requires.kind picks c.in-Ok.effect c.operate.new.s c.operate.new.sync c.operate.new.output.items
    (carry_done look stack s x call d g c.args.op is c.requires.kind picks c.as_slice-args.result.now c.as_slice-args.ensures.value c.as_slice-types.result.now c.as_slice-types.ensures.value _ c.as_ref-place.ensures.value (Ok c.in-Ok.effect) c.operate.new.s c.operate.new.sync c.new-text.result.items c.new-text.ensures.items c.operate.new.output.items c.in-Ok.ensures.done)
    (fits_place _ call.result_type c.as_ref-place.ensures.value c.in-Ok.effect.value c.in-Ok.ensures.value)

pub returns-in-Err : goal.returns-in-Err
returns-in-Err c = λ d due.
    let look = c.args.look.now in
    let stack = c.args.stack.now in
    let s = c.args.s.now in
    let x = c.args.sync.now in
    let call = c.args.call.now in
    let picks = c.args.picks.now in
    let h = carried_for look stack s x call c.args.op picks c.requires.given d due in
    let o = do_comes_to look stack s x call d picks in
    let W = Does stack s x o stack c.operate.new.s c.operate.new.sync in
    subst (λ (f : TurnFault). DeedAnswer (Err f) (do_comes_to look stack s x call d picks) c.operate.new.s.notes.refused (Does stack s x (do_comes_to look stack s x call d picks) stack c.operate.new.s c.operate.new.sync)) (sym c.from.ensures)
    (carry_refused look stack s x call d h.0 c.args.op h.1 c.requires.kind picks c.in-Err.fault c.operate.new.s c.operate.new.sync [] c.operate.new.output.items (Does stack s x (do_comes_to look stack s x call d picks) stack c.operate.new.s c.operate.new.sync)
    (carry_done look stack s x call d h.0 c.args.op h.1 c.requires.kind picks c.as_slice-args.result.now c.as_slice-args.ensures.value c.as_slice-types.result.now c.as_slice-types.ensures.value _ c.as_ref-place.ensures.value (Err c.in-Err.fault) c.operate.new.s c.operate.new.sync c.new-text.result.items c.new-text.ensures.items c.operate.new.output.items c.in-Err.ensures.done))

pub returns-in-Ok : goal.returns-in-Ok
returns-in-Ok c = λ d due.
    let look = c.args.look.now in
    let stack = c.args.stack.now in
    let s = c.args.s.now in
    let x = c.args.sync.now in
    let call = c.args.call.now in
    let picks = c.args.picks.now in
    let h = carried_for look stack s x call c.args.op picks c.requires.given d due in
    carried look stack s x call d h.0 c.args.op h.1 c.requires.kind picks c.in-Ok.effect c.operate.new.s c.operate.new.sync c.operate.new.output.items
    (carry_done look stack s x call d h.0 c.args.op h.1 c.requires.kind picks c.as_slice-args.result.now c.as_slice-args.ensures.value c.as_slice-types.result.now c.as_slice-types.ensures.value _ c.as_ref-place.ensures.value (Ok c.in-Ok.effect) c.operate.new.s c.operate.new.sync c.new-text.result.items c.new-text.ensures.items c.operate.new.output.items c.in-Ok.ensures.done)
    c.end_told.result c.end_told.new.stack c.end_told.new.s (c.end_told.ensures d due)
