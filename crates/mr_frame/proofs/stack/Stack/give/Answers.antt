use Rattle.mr_frame.proofs.Common.{[], List, Some, sym, ap, ◌∙◌, Pointer, Went, world_of, stored_in, found_targets, left_by, EndsThread, Frame, below_of, frame_of, look_of, stack_of}
use Rattle.mr_frame.proofs.CallSafe.{tails}
use Rattle.mr_frame.proofs.EndLaws.{caller_targets, gives_at, gives_nowhere, gives_stop, left_none}
use Rattle.mr_frame.proofs.ToldLaws.{told_stop}
use Rattle.mr_frame.proofs.stack.Stack.give.Goals as goal

pub returns-then-not-pop : goal.returns-then-not-pop
returns-then-not-pop c =
    let s = c.args.self.now in
    let w = world_of c.args.s.now in
    ap (λ (bs : List Frame). left_by (look_of c.args.look.now) (stack_of s) (Some c.args.t.now) c.args.v.now bs w) (c.pop.ensures.none c.if-not-pop.true)
    ∙ left_none (look_of c.args.look.now) (stack_of s) (Some c.args.t.now) c.args.v.now w
    ∙ ap (λ (ps : List Pointer). Went (EndsThread (record { frames = []; payloads = ps })) w) (sym c.pop.ensures.payloads)

pub targets_of_call-requires : goal.targets_of_call-requires
targets_of_call-requires c =
    let new = c.pop.new.self in
    caller_targets (look_of c.args.look.now) (stack_of c.args.self.now) (below_of c.args.self.now) c.args.t.now c.args.v.now (world_of c.args.s.now) (frame_of new.top) (below_of new)
    (tails (c.pop.ensures.some c.if-not-pop.false)) c.requires.calling

pub returns-in_default : goal.returns-in_default
returns-in_default c =
    let new = c.pop.new.self in
    gives_nowhere (look_of c.args.look.now) (stack_of c.args.self.now) (below_of c.args.self.now) c.args.t.now c.args.v.now (world_of c.args.s.now) (frame_of new.top) (below_of new)
    (tails (c.pop.ensures.some c.if-not-pop.false)) c.requires.calling (found_targets c.targets_of_call.result) c.targets_of_call.ensures c.in_default.is

pub returns-in-Err : goal.returns-in-Err
returns-in-Err c =
    let new = c.pop.new.self in
    let w = world_of c.args.s.now in
    told_stop c.in-Err.fault (stored_in c.args.t.now c.in-Some-call.place c.args.v.now w) (left_by (look_of c.args.look.now) (stack_of c.args.self.now) (Some c.args.t.now) c.args.v.now (below_of c.args.self.now) w)
    (world_of c.store.new.s) (world_of c.store.new.s) c.store.new.s.notes.refused c.in-Err.ensures
    (λ r e. gives_stop (look_of c.args.look.now) (stack_of c.args.self.now) (below_of c.args.self.now) c.args.t.now c.args.v.now w (frame_of new.top) (below_of new)
    (tails (c.pop.ensures.some c.if-not-pop.false)) c.requires.calling (found_targets c.targets_of_call.result) c.targets_of_call.ensures c.in-Some.block c.in-Some.is c.in-Some-call.place c.in-Some-call.is r e)

pub returns-in-Ok : goal.returns-in-Ok
returns-in-Ok c =
    let new = c.pop.new.self in
    let w = world_of c.args.s.now in
    gives_at (look_of c.args.look.now) (stack_of c.args.self.now) (below_of c.args.self.now) c.args.t.now c.args.v.now w (frame_of new.top) (below_of new)
    (tails (c.pop.ensures.some c.if-not-pop.false)) c.requires.calling (found_targets c.targets_of_call.result) c.targets_of_call.ensures c.in-Some.block c.in-Some.is c.in-Some-call.place c.in-Some-call.is
    (world_of c.store.new.s) (frame_of c.jump.new.self) (stack_of new).payloads c.in-Ok.ensures c.jump.ensures c.pop.ensures.payloads
