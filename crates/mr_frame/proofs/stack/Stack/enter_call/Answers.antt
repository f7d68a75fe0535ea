use Rattle.mr_frame.proofs.Common.{◌∷◌, List, Some, sym, ap, ◌∙◌, subst, slice_get, Val, Outcome, Went, on, World, world_of, CanBegin, entered, Frame, GoesOn, Onward, Stack, below_of, frame_of, stack_of}
use Rattle.mr_frame.proofs.ToldLaws.{told_stop}
use Rattle.mr_frame.proofs.stack.Stack.enter_call.Goals as goal

pub begin-requires : goal.begin-requires
begin-requires c =
    subst (λ (vs : List Val). CanBegin c.args.look.now c.args.prepared.now.function.0 vs c.args.picks.now (world_of c.args.s.now)) (sym c.as_slice-args.ensures.value) c.requires

pub returns-in-Err : goal.returns-in-Err
returns-in-Err c =
    let number = c.args.prepared.now.function.0 in
    let fn = slice_get c.args.look.now.program.now.functions number in
    let picks = c.args.picks.now in
    let w = world_of c.args.s.now in
    let s = c.args.self.now in
    let place = c.args.prepared.now.place in
    let over : Frame → World → Outcome Onward World = λ f u. Went (GoesOn (record (stack_of s) { frames = f ∷ record (frame_of s.top) { call = Some place } ∷ below_of s })) u in
    told_stop {A = Frame} {B = Onward} c.in-Err.fault (entered number fn c.as_slice-args.result.now picks w) (on (entered number fn c.args.prepared.now.args.items picks w) over) (world_of c.begin.new.s) (world_of c.begin.new.s) c.begin.new.s.notes.refused c.in-Err.ensures
    (λ r e. ap (λ (vs : List Val). on (entered number fn vs picks w) over) (sym c.as_slice-args.ensures.value) ∙ ap (λ (o : Outcome Frame World). on o over) e)

pub returns-in_ok-push-in-Ok : goal.returns-in_ok-push-in-Ok
returns-in_ok-push-in-Ok c =
    let number = c.args.prepared.now.function.0 in
    let fn = slice_get c.args.look.now.program.now.functions number in
    let picks = c.args.picks.now in
    let w = world_of c.args.s.now in
    let u = world_of c.begin.new.s in
    let s = c.args.self.now in
    let place = c.args.prepared.now.place in
    let over : Frame → World → Outcome Onward World = λ f u. Went (GoesOn (record (stack_of s) { frames = f ∷ record (frame_of s.top) { call = Some place } ∷ below_of s })) u in
    ap (λ (vs : List Val). on (entered number fn vs picks w) over) (sym c.as_slice-args.ensures.value)
    ∙ ap (λ (o : Outcome Frame World). on o over) c.in-Ok.ensures
    ∙ ap (λ (f : Frame). Went (GoesOn (record (stack_of s) { frames = frame_of c.in-Ok.frame ∷ f ∷ below_of s })) u) (sym c.keep_place.ensures)
    ∙ ap (λ (k : Stack). Went (GoesOn k) u) (sym c.in_ok-push-in-Ok.ensures)
