use Rattle.mr_answer.proofs.Common.{◌≡◌, ◌≤◌, List, length, subst, sym, IfOk, Footprint, steps_within, Written, Answer, seen}
use Rattle.mr_auto.specs.Drawing.{drawn_schedule}
use Rattle.mr_answer.proofs.PrintedLaws.{printed_by_run}
use Rattle.mr_answer.proofs.RunLaws.{drawn_is}
use Rattle.mr_answer.proofs.drawing.drawn.Goals as goal

pub drawn_report-requires-clause-steps : goal.drawn_report-requires-clause-steps
drawn_report-requires-clause-steps c =
    let w = c.in-Ok.run'.schedule in
    subst (λ (l : List Footprint). length l ≤ length w.entries) (sym c.in-Ok.ensures.kept) (steps_within c.args.p.now w)

pub drawn_report-requires-clause-texts : goal.drawn_report-requires-clause-texts
drawn_report-requires-clause-texts c = printed_by_run c.args.p.now c.in-Ok.run'.schedule c.in-Ok.run'.machine.config c.in-Ok.ensures.run.config

pub returns-in-Ok-clause-answer : goal.returns-in-Ok-clause-answer
returns-in-Ok-clause-answer c =
    let p = c.args.p.now in
    let run = c.in-Ok.run' in
    subst (λ (a : Answer). IfOk c.drawn_report.result (λ (x : Written). seen x ≡ a))
    (drawn_is p run.schedule (drawn_schedule p c.args.number c.args.most) run.machine.config c.draw.new.kept c.in-Ok.ensures.schedule c.in-Ok.ensures.run.config c.in-Ok.ensures.kept)
    c.drawn_report.ensures.answer
