use Rattle.mr_frame.proofs.Common.{◌≡◌, ◌∷◌, sym, ap, ◌∙◌, option_copied, BlockName, Went, world_of, operands_of, result_stored, finished, Frame, Stack, at_block, below_of, frame_of, stack_of, due_term}
use Rattle.mr_frame.proofs.ActedLaws.{site}
use Rattle.mr_frame.proofs.DoLaws.{done_is, finished_stop, finished_went}
use Rattle.mr_frame.proofs.IntrinsicLaws.{same_do, site_due}
use Rattle.mr_frame.proofs.ToldLaws.{told_stop}
use Rattle.mr_frame.proofs.stack.Stack.finish.Goals as goal

pub returns-in-Err : goal.returns-in-Err
returns-in-Err c =
    let call = c.args.call.now in
    let v = option_copied c.args.value in
    let w = world_of c.args.s.now in
    let s = stack_of c.args.self.now in
    λ d is. told_stop c.in-Err.fault (result_stored call.result call.result_type v w) (finished s d (operands_of call) v w) (world_of c.store_result.new.s) (world_of c.store_result.new.s) c.store_result.new.s.notes.refused c.in-Err.ensures
    (λ r e. finished_stop s d (operands_of call) v w r e)

pub returns-in-Ok : goal.returns-in-Ok
returns-in-Ok c =
    let call = c.args.call.now in
    let v = option_copied c.args.value in
    let w = world_of c.args.s.now in
    let u = world_of c.store_result.new.s in
    let kept = c.args.self.now in
    let s = stack_of kept in
    let look = c.args.look.now in
    let ready = c.requires.ready in
    let t = c.due_do.result.now in
    let stands = c.due_do.ensures.due.stands in
    let at = site look ready (frame_of kept.top) (below_of kept) s.payloads (due_term t) stands in
    λ d is.
    let same = same_do d.op c.in-Do.field-0 d.args c.in-Do.field-1 d.place c.in-Do.field-2 d.next c.in-Do.next (sym (c.due_do.ensures.is d is) ∙ c.in-Do.is) in
    let top : at_block (frame_of kept.top) d.next.0 ≡ frame_of c.jump.new.self = ap (λ (b : BlockName). at_block (frame_of kept.top) b.0) same.2 ∙ sym c.jump.ensures in
    finished_went s d (operands_of call) v w u c.in-Ok.ensures
    ∙ ap (λ (k : Stack). Went k u) (done_is s d at (site_due look ready (frame_of kept.top) (below_of kept) s.payloads d is t stands))
    ∙ ap (λ (f : Frame). Went (record { frames = f ∷ below_of kept; payloads = s.payloads }) u) top
