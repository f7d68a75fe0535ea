use Rattle.mr_frame.proofs.Common.{◌∷◌, ℕ, refl, sym, ap, ◌∙◌, Outcome, Went, on, seen, env_surround, Surround, Seen, seen_of, with_seen, world_of, acted, chosen, Frame, GoesOn, at_block, below_of, frame_of, look_of, stack_of, AtTerminator}
use Rattle.mr_ast.specs.declared.program.Term.TheVariants as term
use Rattle.mr_frame.proofs.ActedLaws.{acted_switch}
use Rattle.mr_frame.proofs.StandLaws.{term_in_block}
use Rattle.mr_frame.proofs.TermLaws.{switch_value}
use Rattle.mr_frame.proofs.ToldLaws.{told_stop}
use Rattle.mr_frame.proofs.stack.Stack.switch.Goals as goal

pub switch-requires : goal.switch-requires
switch-requires c =
    let t = term.Switch c.args.on.now c.args.cases.now c.args.other in
    switch_value c.env-env.result c.args.on.now c.args.cases.now c.args.other
    (term_in_block c.args.look.now c.args.self.now (AtTerminator t) c.requires t refl c.env-env.result (c.env-env.ensures.inside c.requires.stands.fits) c.env-env.ensures.program)

pub returns-in-Err : goal.returns-in-Err
returns-in-Err c =
    let s = c.args.self.now in
    let w = world_of c.args.s.now in
    let fits = c.requires.stands.fits in
    let scene = c.env-env.ensures.scene fits.function fits.is in
    λ picks. told_stop c.in-Err.fault (chosen w.0 (env_surround c.env-env.result) c.args.on.now c.args.cases.now c.args.other (seen_of w.1)) (acted (look_of c.args.look.now) c.args.s.now.thread (stack_of s) picks w)
    (seen c.switch.new.n) (w.0, with_seen w.1 (seen c.switch.new.n)) c.switch.new.n.refused c.in-Err.ensures
    (λ r e. acted_switch c.args.look.now c.requires.ready (frame_of s.top) (below_of s) (stack_of s).payloads c.args.on.now c.args.cases.now c.args.other c.requires.stands c.args.s.now.thread picks w
    ∙ ap (λ (o : Outcome ℕ Seen). on o (λ b l. Went (GoesOn (record { frames = at_block (frame_of s.top) b ∷ below_of s; payloads = (stack_of s).payloads })) (w.0, with_seen w.1 l)))
    (ap (λ (a : Surround). chosen w.0 a c.args.on.now c.args.cases.now c.args.other (seen_of w.1)) (sym scene) ∙ e))

pub returns-in-Ok : goal.returns-in-Ok
returns-in-Ok c =
    let s = c.args.self.now in
    let w = world_of c.args.s.now in
    let fits = c.requires.stands.fits in
    let scene = c.env-env.ensures.scene fits.function fits.is in
    let payloads = (stack_of s).payloads in
    λ picks. acted_switch c.args.look.now c.requires.ready (frame_of s.top) (below_of s) payloads c.args.on.now c.args.cases.now c.args.other c.requires.stands c.args.s.now.thread picks w
    ∙ ap (λ (o : Outcome ℕ Seen). on o (λ b l. Went (GoesOn (record { frames = at_block (frame_of s.top) b ∷ below_of s; payloads = payloads })) (w.0, with_seen w.1 l)))
    (ap (λ (a : Surround). chosen w.0 a c.args.on.now c.args.cases.now c.args.other (seen_of w.1)) (sym scene) ∙ c.in-Ok.ensures)
    ∙ ap (λ (f : Frame). Went (GoesOn (record { frames = f ∷ below_of s; payloads = payloads })) (w.0, with_seen w.1 (seen c.switch.new.n))) (sym c.jump.ensures)
