use Rattle.mr_frame.proofs.Common.{subst, Program, seen, Surround, Prepares, prepared, Look}
use Rattle.mr_frame.proofs.CallStands.{call_stands}
use Rattle.mr_frame.proofs.stack.Stack.prepared.Goals as goal

pub prepare-requires : goal.prepare-requires
prepare-requires c =
    call_stands c.args.look.now c.args.self.now c.args.callee.now c.args.args.now c.args.place.now c.requires c.env-env.result (c.env-env.ensures.inside c.requires.due.stands.fits) c.env-env.ensures.program

pub returns : goal.returns
returns c =
    let env = c.env-env.ensures in
    let P : Program × Look × Surround → Type 0 = λ z. Prepares z.0 c.prepare.result (prepared c.args.m.now z.1 z.2 c.args.callee.now c.args.args.now c.args.place.now (seen c.args.notes.now)) (seen c.prepare.new.n) c.prepare.new.n.refused in
    λ fn is. subst P (λ i. (env.program i, env.look i, env.scene fn is i)) c.prepare.ensures.given
