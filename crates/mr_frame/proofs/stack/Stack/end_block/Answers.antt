use Rattle.mr_frame.proofs.Common.{◌≡◌, ◌∷◌, sym, ap, ◌∙◌, subst, Term, Went, world_of, Frame, GoesOn, Stack, at_block, below_of, frame_of, stack_of, due_term, IsDue}
use Rattle.mr_frame.proofs.ActedLaws.{acted_abort, acted_exit, acted_goto, acted_stop, acted_unreachable}
use Rattle.mr_frame.proofs.CallSafe.{heads, tails}
use Rattle.mr_frame.proofs.stack.Stack.end_block.Goals as goal

pub returns-in-Goto : goal.returns-in-Goto
returns-in-Goto c =
    let s = c.args.self.now in
    let due = subst (λ (t : Term). IsDue c.args.look.now s (due_term t)) c.in-Goto.is c.requires.due in
    acted_goto c.args.look.now due.ready (frame_of s.top) (below_of s) (stack_of s).payloads c.in-Goto.b due.stands c.args.s.now.thread c.args.picks.now (world_of c.args.s.now)
    ∙ ap (λ (f : Frame). Went (GoesOn (record { frames = f ∷ below_of s; payloads = (stack_of s).payloads })) (world_of c.args.s.now)) (sym c.jump.ensures)

pub returns-in-Unreachable : goal.returns-in-Unreachable
returns-in-Unreachable c =
    let s = c.args.self.now in
    let due = subst (λ (t : Term). IsDue c.args.look.now s (due_term t)) c.in-Unreachable.is c.requires.due in
    acted_unreachable c.args.look.now due.ready (frame_of s.top) (below_of s) (stack_of s).payloads due.stands c.args.s.now.thread c.args.picks.now (world_of c.args.s.now)

pub returns-in-Exit : goal.returns-in-Exit
returns-in-Exit c =
    let s = c.args.self.now in
    let due = subst (λ (t : Term). IsDue c.args.look.now s (due_term t)) c.in-Exit.is c.requires.due in
    acted_exit c.args.look.now due.ready (frame_of s.top) (below_of s) (stack_of s).payloads due.stands c.args.s.now.thread c.args.picks.now (world_of c.args.s.now)

pub returns-in-Abort : goal.returns-in-Abort
returns-in-Abort c =
    let s = c.args.self.now in
    let due = subst (λ (t : Term). IsDue c.args.look.now s (due_term t)) c.in-Abort.is c.requires.due in
    acted_abort c.args.look.now due.ready (frame_of s.top) (below_of s) (stack_of s).payloads due.stands c.args.s.now.thread c.args.picks.now (world_of c.args.s.now)

pub returns-in-Stop : goal.returns-in-Stop
returns-in-Stop c =
    let s = c.args.self.now in
    let w = world_of c.args.s.now in
    let b = c.in-Stop.b in
    let due = subst (λ (t : Term). IsDue c.args.look.now s (due_term t)) c.in-Stop.is c.requires.due in
    let dropped = c.drop_payload.ensures in
    let frames = ap (λ (k : Stack). k.frames) dropped in
    let top : at_block (frame_of s.top) b.0 ≡ frame_of c.jump-in-Stop.new.self = ap (λ (f : Frame). at_block f b.0) (sym (heads frames)) ∙ sym c.jump-in-Stop.ensures in
    acted_stop c.args.look.now due.ready (frame_of s.top) (below_of s) (stack_of s).payloads b due.stands c.args.s.now.thread c.args.picks.now w
    ∙ (λ i. Went (GoesOn (record { frames = top i ∷ sym (tails frames) i; payloads = sym (ap (λ (k : Stack). k.payloads) dropped) i })) w)
