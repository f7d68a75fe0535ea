use Rattle.mr_frame.proofs.Common.{sym, ap, ◌∙◌, subst, Function, Outcome, on, seen, TellsBy, World, world_of, Onward, below_of, frame_of, look_of, onward_of, stack_of, AtTerminator, seen_of, acted, local_type, freed_each, left_by, returned}
use Rattle.mr_ast.specs.declared.program.Term.TheVariants as term
use Rattle.mr_frame.proofs.EndLaws.{returned_at, returned_main, returned_stop}
use Rattle.mr_frame.proofs.StandLaws.{top_below, top_is}
use Rattle.mr_frame.proofs.ToldLaws.{told_stop}
use Rattle.mr_frame.proofs.stack.Stack.return_from.Goals as goal

pub returns-then-is_main : goal.returns-then-is_main
returns-then-is_main c =
    let s = c.args.self.now in
    λ picks. returned_main c.args.look.now c.requires.ready (frame_of s.top) (below_of s) (stack_of s).payloads c.requires.stands c.args.s.now.thread picks (world_of c.args.s.now) (sym c.is_main.ensures ∙ c.if-is_main.true)

pub function-f-requires : goal.function-f-requires
function-f-requires c = top_below c.args.look.now c.args.self.now (AtTerminator term.Return) c.requires

pub leave-requires-clause-shape : goal.leave-requires-clause-shape
leave-requires-clause-shape c = λ t e. c.in-Ok.ensures.shape t e

-- behind the load of the return local
pub returns-in-Err : goal.returns-in-Err
returns-in-Err c =
    let s = c.args.self.now in
    let w = world_of c.args.s.now in
    let fits = c.requires.stands.fits in
    let same = top_is c.args.look.now s (AtTerminator term.Return) c.requires c.function-f.result.now c.function-f.ensures in
    λ picks. told_stop c.in-Err.fault (returned w.0 c.function-f.result.now (frame_of s.top) (seen_of w.1)) (acted (look_of c.args.look.now) c.args.s.now.thread (stack_of s) picks w)
    (seen c.return_value.new.s.notes) (world_of c.return_value.new.s) c.return_value.new.s.notes.refused c.in-Err.ensures.given
    (λ r e. returned_stop c.args.look.now c.requires.ready (frame_of s.top) (below_of s) (stack_of s).payloads c.requires.stands c.args.s.now.thread picks w (sym c.is_main.ensures ∙ c.if-is_main.false) r
    (ap (λ (f : Function). returned w.0 f (frame_of s.top) (seen_of w.1)) same ∙ e))

pub returns-in-Ok : goal.returns-in-Ok
returns-in-Ok c =
    let s = c.args.self.now in
    let w = world_of c.args.s.now in
    let fn = c.function-f.result.now in
    let lk = look_of c.args.look.now in
    let same = top_is c.args.look.now s (AtTerminator term.Return) c.requires fn c.function-f.ensures in
    let Q : Outcome Onward World → Type 0 = λ o. TellsBy (λ flow. onward_of flow (stack_of c.leave.new.self)) c.leave.result o (world_of c.leave.new.s) c.leave.new.s.notes.refused in
    λ picks. subst Q
    (sym (returned_at c.args.look.now c.requires.ready (frame_of s.top) (below_of s) (stack_of s).payloads c.requires.stands c.args.s.now.thread picks w (sym c.is_main.ensures ∙ c.if-is_main.false)
    fn same c.in-Ok.v (seen c.return_value.new.s.notes) c.in-Ok.ensures.given
    ∙ ap (λ (x : World). on (freed_each fn.locals s.top.locals.items x) (λ u v. left_by lk (stack_of s) (local_type fn fn.ret) c.in-Ok.v (below_of s) v)) (sym (ap world_of c.in-Ok.ensures.rest))))
    c.leave.ensures
