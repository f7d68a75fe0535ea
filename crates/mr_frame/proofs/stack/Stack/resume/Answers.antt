use Rattle.mr_frame.proofs.Common.{[], List, sym, ap, ◌∙◌, subst, All, length, slice_get, ◌-◌, Local, TypeOk, world_of, acted, found_targets, freed_each, Frame, at_block, below_of, frame_of, look_of, stack_of, AtTerminator}
use Rattle.mr_ast.specs.declared.program.Term.TheVariants as term
use Rattle.mr_frame.proofs.CallSafe.{heads, tails}
use Rattle.mr_frame.proofs.EndLaws.{resumed_bottom, resumes_at, resumes_nowhere, resumes_stop, resumes_targets}
use Rattle.mr_frame.proofs.StackLaws.{last_below, none_below, popped}
use Rattle.mr_frame.proofs.StandLaws.{top_below, top_is, top_types}
use Rattle.mr_frame.proofs.ToldLaws.{told_stop}
use Rattle.mr_frame.proofs.stack.Stack.resume.Goals as goal

pub function-f-requires : goal.function-f-requires
function-f-requires c = top_below c.args.look.now c.args.self.now (AtTerminator term.Resume) c.requires

pub free_each-requires-clause-types : goal.free_each-requires-clause-types
free_each-requires-clause-types c =
    let P : List Local → Type 0 = λ ls. All (λ (l : Local). TypeOk l.ty) ls in
    subst P (sym c.as_slice.ensures) (top_types c.args.look.now c.args.self.now (AtTerminator term.Resume) c.requires c.function-f.result.now c.function-f.ensures)

pub targets_of_call-requires : goal.targets_of_call-requires
targets_of_call-requires c =
    let s = c.args.self.now in
    let last = last_below s c.in-Some.caller.now (ap (λ xs. slice_get xs (length xs - 1)) (sym c.deref.ensures.value) ∙ sym c.in-Some.ensures.value) in
    resumes_targets c.args.look.now c.requires.ready (frame_of s.top) (stack_of s).payloads [] c.args.s.now.thread (world_of c.args.s.now) (below_of s) c.requires.stands (frame_of c.in-Some.caller.now) last.0 last.1

pub returns-in_default : goal.returns-in_default
returns-in_default c =
    let s = c.args.self.now in
    λ picks. resumed_bottom c.args.look.now c.requires.ready (frame_of s.top) (stack_of s).payloads picks c.args.s.now.thread (world_of c.args.s.now) (below_of s) c.requires.stands
    (none_below s (ap (λ xs. slice_get xs (length xs - 1)) (sym c.deref.ensures.value) ∙ sym c.in_default.ensures.value))

pub returns-in_default-unwind : goal.returns-in_default-unwind
returns-in_default-unwind c =
    let s = c.args.self.now in
    let last = last_below s c.in-Some.caller.now (ap (λ xs. slice_get xs (length xs - 1)) (sym c.deref.ensures.value) ∙ sym c.in-Some.ensures.value) in
    λ picks. resumes_nowhere c.args.look.now c.requires.ready (frame_of s.top) (stack_of s).payloads picks c.args.s.now.thread (world_of c.args.s.now) (below_of s) c.requires.stands (frame_of c.in-Some.caller.now) last.0 last.1
    (found_targets c.targets_of_call.result) c.targets_of_call.ensures c.in_default-unwind.is

pub returns-in-Err : goal.returns-in-Err
returns-in-Err c =
    let s = c.args.self.now in
    let w = world_of c.args.s.now in
    let last = last_below s c.in-Some.caller.now (ap (λ xs. slice_get xs (length xs - 1)) (sym c.deref.ensures.value) ∙ sym c.in-Some.ensures.value) in
    let same = top_is c.args.look.now s (AtTerminator term.Resume) c.requires c.function-f.result.now c.function-f.ensures in
    λ picks. told_stop c.in-Err.fault (freed_each c.as_slice.result.now c.as_slice-2.result.now w) (acted (look_of c.args.look.now) c.args.s.now.thread (stack_of s) picks w)
    (world_of c.free_each.new.s) (world_of c.free_each.new.s) c.free_each.new.s.notes.refused c.in-Err.ensures
    (λ r e. resumes_stop c.args.look.now c.requires.ready (frame_of s.top) (stack_of s).payloads picks c.args.s.now.thread w (below_of s) c.requires.stands (frame_of c.in-Some.caller.now) last.0 last.1
    (found_targets c.targets_of_call.result) c.targets_of_call.ensures c.in-Some-unwind.block c.in-Some-unwind.is r
    ((λ i. freed_each ((same i).locals) s.top.locals.items w) ∙ sym (λ i. freed_each (c.as_slice.ensures i) (c.as_slice-2.ensures.value i) w) ∙ e))

pub returns-in-Ok : goal.returns-in-Ok
returns-in-Ok c =
    let s = c.args.self.now in
    let new = c.pop.new.self in
    let w = world_of c.args.s.now in
    let last = last_below s c.in-Some.caller.now (ap (λ xs. slice_get xs (length xs - 1)) (sym c.deref.ensures.value) ∙ sym c.in-Some.ensures.value) in
    let same = top_is c.args.look.now s (AtTerminator term.Resume) c.requires c.function-f.result.now c.function-f.ensures in
    let left = popped s new c.pop.result (frame_of c.in-Some.caller.now) last.0 last.1 c.pop.ensures.some c.pop.ensures.none in
    λ picks. resumes_at c.args.look.now c.requires.ready (frame_of s.top) (stack_of s).payloads picks c.args.s.now.thread w (below_of s) c.requires.stands (frame_of c.in-Some.caller.now) last.0 last.1
    (found_targets c.targets_of_call.result) c.targets_of_call.ensures c.in-Some-unwind.block c.in-Some-unwind.is (world_of c.free_each.new.s) (frame_of c.jump.new.self) (below_of new) (stack_of new).payloads
    ((λ i. freed_each ((same i).locals) s.top.locals.items w) ∙ sym (λ i. freed_each (c.as_slice.ensures i) (c.as_slice-2.ensures.value i) w) ∙ c.in-Ok.ensures)
    (c.jump.ensures ∙ ap (λ (f : Frame). at_block f c.in-Some-unwind.block.0) (sym (heads left))) (sym (tails left)) c.pop.ensures.payloads
