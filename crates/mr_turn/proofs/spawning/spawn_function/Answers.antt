use Rattle.mr_turn.proofs.Common.{◌∙◌, refl, subst, sym, Err, SignatureMismatch, operands_of, look_of, do_breaks, do_comes_to, do_planned, Does, IsSame, JudgeAnswer, begun, own_of}
use Rattle.mr_turn.proofs.DoAnswers.{stopped_turn}
use Rattle.mr_turn.proofs.FrameAnswers.{deed_is_turn, judged_broken}
use Rattle.mr_turn.proofs.SpawnAnswers.{found_start, spawns_for, start_breaks, start_fits}
use Rattle.mr_turn.proofs.SpawnTurns.{other_planned, other_turned}
use Rattle.mr_turn.proofs.spawning.spawn_function.Goals as goal

pub returns-then-not-begins_thread : goal.returns-then-not-begins_thread
returns-then-not-begins_thread c = λ d due.
    let look = c.args.look.now in
    let stack = c.args.stack.now in
    let s = c.args.s.now in
    let x = c.args.sync.now in
    let call = c.args.call.now in
    let picks = c.args.picks.now in
    let h = spawns_for look stack s x call c.args.f.0 c.requires d due in
    let o = do_comes_to look stack s x call d picks in
    let own = own_of s.thread stack in
    let g = h.given_to in
    let other = sym (found_start look stack s x call d c.args.f.0 h c.function_of.result.now c.function_of.ensures _ c.if-not-begins_thread.ensures) in
    stopped_turn c.stopped.result SignatureMismatch picks s x (do_planned (look_of look) own d (operands_of call) (begun s x)) o s.notes.refused (Does stack s x o stack s x) (IsSame stack s x stack s x)
    c.stopped.ensures
    (other_planned (look_of look) own d (operands_of call) h.is g.callee g.argument g.args (begun s x) c.args.f.0 h.called h.function h.there h.types h.typed other)
    (other_turned (look_of look) own d (operands_of call) h.is g.callee g.argument g.args (begun s x) c.args.f.0 h.called h.function h.there h.types h.typed picks other)
    (record { stack = refl; memory = refl; tables = refl })

pub start-requires : goal.start-requires
start-requires c =
    let look = c.args.look.now in
    let stack = c.args.stack.now in
    let s = c.args.s.now in
    let x = c.args.sync.now in
    let call = c.args.call.now in
    let picks = c.args.picks.now in
    let (d, h) = c.requires in
    let same = sym (found_start look stack s x call d c.args.f.0 h c.function_of.result.now c.function_of.ensures _ c.if-not-begins_thread.ensures) in
    (d, start_fits look stack s x call d c.args.f.0 picks h same c.in-Ok.ensures)

pub returns-in-Err : goal.returns-in-Err
returns-in-Err c = λ d due.
    let look = c.args.look.now in
    let stack = c.args.stack.now in
    let s = c.args.s.now in
    let x = c.args.sync.now in
    let call = c.args.call.now in
    let picks = c.args.picks.now in
    let h = spawns_for look stack s x call c.args.f.0 c.requires d due in
    let o = do_comes_to look stack s x call d picks in
    let same = sym (found_start look stack s x call d c.args.f.0 h c.function_of.result.now c.function_of.ensures _ c.if-not-begins_thread.ensures) in
    judged_broken c.in-Err.fault (do_breaks look stack s x call d picks) o s.notes.refused (Does stack s x o stack s x) (IsSame stack s x stack s x)
    (subst (JudgeAnswer (Err c.in-Err.fault))
    (sym (start_breaks look stack s x call d c.args.f.0 picks h.is h.given_to (record { called = h.called; function = h.function; there = h.there; types = h.types; typed = h.typed; same = same })))
    c.in-Err.ensures)
    (record { stack = refl; memory = refl; tables = refl })

pub returns-in-Ok : goal.returns-in-Ok
returns-in-Ok c = λ d due.
    let look = c.args.look.now in
    let stack = c.args.stack.now in
    let s = c.args.s.now in
    let x = c.args.sync.now in
    let call = c.args.call.now in
    let picks = c.args.picks.now in
    let h = spawns_for look stack s x call c.args.f.0 c.requires d due in
    let o = do_comes_to look stack s x call d picks in
    let same = sym (found_start look stack s x call d c.args.f.0 h c.function_of.result.now c.function_of.ensures _ c.if-not-begins_thread.ensures) in
    deed_is_turn c.start.result (do_breaks look stack s x call d picks) o c.start.new.s.notes.refused (Does stack s x o c.start.new.stack c.start.new.s c.start.new.sync) (IsSame stack s x c.start.new.stack c.start.new.s c.start.new.sync)
    (start_breaks look stack s x call d c.args.f.0 picks h.is h.given_to (record { called = h.called; function = h.function; there = h.there; types = h.types; typed = h.typed; same = same }) ∙ c.in-Ok.ensures)
    (c.start.ensures d due)
