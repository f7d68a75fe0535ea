use Rattle.mr_answer.proofs.Common.{ap₂, ◌∙◌, sym, [], ◌∷◌, ◌++◌, subst, Printed, line_of}
use Rattle.std.proofs.Common.{get_or, ◌<◌}
use Rattle.std.proofs.lemmas.List.{map_more}
use Rattle.std.proofs.lemmas.Option.{slice_get-get_or}
use Rattle.mr_report.specs.declared.report.Line.{Line}
use Rattle.mr_answer.proofs.report.lines_of.Goals as goal

-- what stands for a print that isn't there
abbrev no_print : Printed
no_print = record { thread = 0; text = [] }

pub loop-i-preserved : goal.loop-i-preserved
loop-i-preserved c =
    let ps = c.args.machine.now.config.output in
    let within = subst (λ n. c.loop-i.i < n) c.lines-i-end.ensures c.loop-i-test.true in
    let p = get_or ps c.loop-i.i no_print in
    let there = slice_get-get_or ps c.loop-i.i no_print within in
    c.in_ok-push.ensures.items
    ∙ ap₂ (λ front (l : Line). front ++ l ∷ []) c.loop-i.invariant (c.in_ok-line_at.ensures p there)
    ∙ sym (map_more line_of ps c.loop-i.i no_print within)
