use Rattle.mr_turn.proofs.Common.{◌∙◌, arith, refl, sym, Does, IsSame, breaks, comes_to}
use Rattle.mr_turn.proofs.FrameAnswers.{deed_is_turn, frame_breaks, judged_turn, lawful_fresh}
use Rattle.mr_turn.proofs.framed.frame_turn.Goals as goal

pub returns-in-Err : goal.returns-in-Err
returns-in-Err c =
    let look = c.args.look.now in
    let stack = c.args.stack.now in
    let s = c.args.s.now in
    let x = c.args.sync.now in
    let picks = c.args.picks.now in
    let o = comes_to look stack s x picks in
    judged_turn c.in-Err.fault (breaks look stack s x picks) o s.notes.refused (Does stack s x o stack s x) (IsSame stack s x stack s x) c.in-Err.ensures
    (record { stack = refl; memory = refl; tables = refl })

pub take-requires-clause-lawful : goal.take-requires-clause-lawful
take-requires-clause-lawful c =
    let look = c.args.look.now in
    let stack = c.args.stack.now in
    let s = c.args.s.now in
    let x = c.args.sync.now in
    let picks = c.args.picks.now in
    let begins = c.requires.begins in
    record {
      lawful = lawful_fresh look stack s x picks c.requires.other begins.begins (sym (frame_breaks look stack s x picks c.requires.other begins.begins) ∙ c.in-Ok.ensures);
      uncounted = begins.uncounted;
      few = (let few = begins.few in omega arith);
    }

pub returns-in-Ok : goal.returns-in-Ok
returns-in-Ok c =
    let look = c.args.look.now in
    let stack = c.args.stack.now in
    let s = c.args.s.now in
    let x = c.args.sync.now in
    let picks = c.args.picks.now in
    let o = comes_to look stack s x picks in
    deed_is_turn c.take.result (breaks look stack s x picks) o c.take.new.s.notes.refused (Does stack s x o c.take.new.stack c.take.new.s c.take.new.sync) (IsSame stack s x c.take.new.stack c.take.new.s c.take.new.sync)
    c.in-Ok.ensures c.take.ensures
