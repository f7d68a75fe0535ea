use Rattle.mr_turn.proofs.Common.{◌∙◌, ap, subst, sym, nothing_seen, look_of, stack_of, IsJudged, asks_break}
use Rattle.std.proofs.Common.{◌++◌}
use Rattle.mr_frame.specs.Effects.{asked}
use Rattle.mr_turn.proofs.FrameAnswers.{frame_breaks, judged_so}
use Rattle.mr_turn.proofs.framed.judge_asked.Goals as goal

pub returns : goal.returns
returns c =
    let look = c.args.look.now in
    let stack = c.args.stack.now in
    let s = c.args.s.now in
    let x = c.args.sync.now in
    let picks = c.args.picks.now in
    let asked_is = c.as_slice.ensures.value ∙ c.in_ok-asks.ensures.ok s.thread ∙ ap (λ l. l ++ asked s.memory (look_of look) s.thread (stack_of stack) nothing_seen) c.new-asks.ensures.items in
    subst (IsJudged c.judged.result)
    (ap (λ a. asks_break s x a picks) asked_is ∙ sym (frame_breaks look stack s x picks c.requires.other c.requires.begins.begins))
    (judged_so c.judged.result (asks_break s x c.as_slice.result.now picks) c.judged.ensures)
