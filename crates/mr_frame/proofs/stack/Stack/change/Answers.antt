use Rattle.mr_frame.proofs.Common.{◌∷◌, refl, sym, ap, ◌∙◌, Went, on, seen, env_surround, Surround, seen_of, with_seen, world_of, Left, acted, changed, Frame, GoesOn, behind_stmt, below_of, frame_of, look_of, stack_of, AtStatement}
use Rattle.mr_frame.proofs.ActedLaws.{acted_change}
use Rattle.mr_frame.proofs.StandLaws.{room_behind, stmt_in}
use Rattle.mr_frame.proofs.ToldLaws.{left_stop}
use Rattle.mr_frame.proofs.stack.Stack.change.Goals as goal

pub change-requires-clause-inside : goal.change-requires-clause-inside
change-requires-clause-inside c =
    stmt_in c.args.look.now c.args.self.now (AtStatement c.args.stmt.now) c.requires.due c.args.stmt.now refl c.env-env.result (c.env-env.ensures.inside c.requires.due.stands.fits) c.env-env.ensures.program

pub step_on-requires : goal.step_on-requires
step_on-requires c = room_behind c.args.look.now c.args.self.now (AtStatement c.args.stmt.now) c.requires.due c.args.stmt.now refl

pub returns-in-Err : goal.returns-in-Err
returns-in-Err c =
    let s = c.args.self.now in
    let w = world_of c.args.s.now in
    let fits = c.requires.due.stands.fits in
    let scene = c.env-env.ensures.scene fits.function fits.is in
    λ picks. left_stop c.in-Err.fault (changed w.0 (env_surround c.env-env.result) c.args.stmt.now (seen_of w.1)) (acted (look_of c.args.look.now) c.args.s.now.thread (stack_of s) picks w)
    c.change.new.m (seen c.change.new.n) (c.change.new.m, with_seen w.1 (seen c.change.new.n)) c.change.new.n.refused c.in-Err.ensures
    (λ r e. acted_change c.args.look.now c.requires.due.ready (frame_of s.top) (below_of s) (stack_of s).payloads c.args.stmt.now c.requires.kind c.requires.due.stands c.args.s.now.thread picks w
    ∙ ap (λ (o : Left). on o (λ m l. Went (GoesOn (record { frames = behind_stmt (frame_of s.top) ∷ below_of s; payloads = (stack_of s).payloads })) (m, with_seen w.1 l)))
    (ap (λ (a : Surround). changed w.0 a c.args.stmt.now (seen_of w.1)) (sym scene) ∙ e))

pub returns-in-Ok : goal.returns-in-Ok
returns-in-Ok c =
    let s = c.args.self.now in
    let w = world_of c.args.s.now in
    let fits = c.requires.due.stands.fits in
    let scene = c.env-env.ensures.scene fits.function fits.is in
    let payloads = (stack_of s).payloads in
    λ picks. acted_change c.args.look.now c.requires.due.ready (frame_of s.top) (below_of s) payloads c.args.stmt.now c.requires.kind c.requires.due.stands c.args.s.now.thread picks w
    ∙ ap (λ (o : Left). on o (λ m l. Went (GoesOn (record { frames = behind_stmt (frame_of s.top) ∷ below_of s; payloads = payloads })) (m, with_seen w.1 l)))
    (ap (λ (a : Surround). changed w.0 a c.args.stmt.now (seen_of w.1)) (sym scene) ∙ c.in-Ok.ensures)
    ∙ ap (λ (f : Frame). Went (GoesOn (record { frames = f ∷ below_of s; payloads = payloads })) (c.change.new.m, with_seen w.1 (seen c.change.new.n))) (sym c.step_on.ensures)
