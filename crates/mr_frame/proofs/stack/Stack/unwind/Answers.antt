use Rattle.mr_frame.proofs.Common.{◌∷◌, refl, sym, ap, ◌∙◌, Pointer, Outcome, Went, on, seen, env_surround, Surround, Seen, seen_of, with_seen, world_of, acted, pointed, GoesOn, Stack, at_block, below_of, frame_of, look_of, stack_of, AtTerminator}
use Rattle.mr_ast.specs.declared.program.Term.TheVariants as term
use Rattle.mr_frame.proofs.ActedLaws.{acted_unwind}
use Rattle.mr_frame.proofs.StackLaws.{unwound_stack}
use Rattle.mr_frame.proofs.StandLaws.{term_in_block}
use Rattle.mr_frame.proofs.TermLaws.{unwind_value}
use Rattle.mr_frame.proofs.ToldLaws.{told_stop}
use Rattle.mr_frame.proofs.stack.Stack.unwind.Goals as goal

pub pointer-requires : goal.pointer-requires
pointer-requires c =
    let t = term.Unwind c.args.payload.now c.args.block in
    unwind_value c.env-env.result c.args.payload.now c.args.block
    (term_in_block c.args.look.now c.args.self.now (AtTerminator t) c.requires t refl c.env-env.result (c.env-env.ensures.inside c.requires.stands.fits) c.env-env.ensures.program)

pub returns-in-Err : goal.returns-in-Err
returns-in-Err c =
    let s = c.args.self.now in
    let w = world_of c.args.s.now in
    let fits = c.requires.stands.fits in
    let scene = c.env-env.ensures.scene fits.function fits.is in
    λ picks. told_stop c.in-Err.fault (pointed w.0 (env_surround c.env-env.result) c.args.payload.now (seen_of w.1)) (acted (look_of c.args.look.now) c.args.s.now.thread (stack_of s) picks w)
    (seen c.pointer.new.n) (w.0, with_seen w.1 (seen c.pointer.new.n)) c.pointer.new.n.refused c.in-Err.ensures.given
    (λ r e. acted_unwind c.args.look.now c.requires.ready (frame_of s.top) (below_of s) (stack_of s).payloads c.args.payload.now c.args.block c.requires.stands c.args.s.now.thread picks w
    ∙ ap (λ (o : Outcome Pointer Seen). on o (λ p l. Went (GoesOn (record { frames = at_block (frame_of s.top) c.args.block.0 ∷ below_of s; payloads = p ∷ (stack_of s).payloads })) (w.0, with_seen w.1 l)))
    (ap (λ (a : Surround). pointed w.0 a c.args.payload.now (seen_of w.1)) (sym scene) ∙ e))

pub returns-in_ok-push_payload-in-Ok : goal.returns-in_ok-push_payload-in-Ok
returns-in_ok-push_payload-in-Ok c =
    let s = c.args.self.now in
    let w = world_of c.args.s.now in
    let new = c.push_payload.new.self in
    let fits = c.requires.stands.fits in
    let scene = c.env-env.ensures.scene fits.function fits.is in
    let b = c.args.block.0 in
    λ picks. acted_unwind c.args.look.now c.requires.ready (frame_of s.top) (below_of s) (stack_of s).payloads c.args.payload.now c.args.block c.requires.stands c.args.s.now.thread picks w
    ∙ ap (λ (o : Outcome Pointer Seen). on o (λ p l. Went (GoesOn (record { frames = at_block (frame_of s.top) b ∷ below_of s; payloads = p ∷ (stack_of s).payloads })) (w.0, with_seen w.1 l)))
    (ap (λ (a : Surround). pointed w.0 a c.args.payload.now (seen_of w.1)) (sym scene) ∙ c.in-Ok.ensures.given)
    ∙ ap (λ (k : Stack). Went (GoesOn k) (w.0, with_seen w.1 (seen c.pointer.new.n))) (unwound_stack s new (frame_of c.jump.new.self) c.in-Ok.p b c.in_ok-push_payload-in-Ok.ensures c.jump.ensures)
