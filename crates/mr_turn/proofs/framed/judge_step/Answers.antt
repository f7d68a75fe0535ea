use Rattle.mr_turn.proofs.Common.{length, sym, ◌∙◌}
use Rattle.std.proofs.lemmas.Bool.{eqb-true}
use Rattle.std.proofs.lemmas.List.{nil_from_length}
use Rattle.mr_turn.proofs.FrameAnswers.{frame_breaks, quiet_allows}
use Rattle.mr_turn.proofs.framed.judge_step.Goals as goal

pub returns-then-is_quiet : goal.returns-then-is_quiet
returns-then-is_quiet c =
    let look = c.args.look.now in
    let stack = c.args.stack.now in
    let s = c.args.s.now in
    let x = c.args.sync.now in
    let picks = c.args.picks.now in
    let none = nil_from_length picks (eqb-true (length picks) 0 (sym c.is_empty.ensures ∙ c.if-is_empty.true)) in
    frame_breaks look stack s x picks c.requires.other c.requires.begins.begins ∙ quiet_allows look stack s x picks (c.is_quiet.ensures c.if-is_quiet.true) none
