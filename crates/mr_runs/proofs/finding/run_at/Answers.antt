use Rattle.mr_runs.proofs.Common.{arith}
use Rattle.std.proofs.lemmas.Map.Keys.{ge_from_not_lt, le_from_not_gt}
use Rattle.mr_runs.proofs.FindLaws.{holds_from_last, not_greater, tiled_begins}
use Rattle.mr_runs.proofs.finding.run_at.Goals as goal

pub unreachable-requires : goal.unreachable-requires
unreachable-requires g c =
    let es = c.args.runs.now.entries in
    let h = c.range.ensures.in_range tt in
    tiled_begins es c.requires.tiled (omega (arith, c.requires.inside)) (h.5 c.in-None.ensures.steps.0 0 (tt, not_greater 0 c.args.at (omega arith)))

pub returns-then-begin-at : goal.returns-then-begin-at
returns-then-begin-at g c =
    let es = c.args.runs.now.entries in
    let begin = c.in-Some.begin.now in
    holds_from_last es c.args.at begin c.in-Some.run'.now c.requires.tiled c.requires.inside c.in-Some.ensures.value (omega arith)
    (λ q le some. ge_from_not_lt begin q (c.in-Some.ensures.greatest q some))

pub returns : goal.returns
returns g c =
    let es = c.args.runs.now.entries in
    let begin = c.in-Some-next_back.begin.now in
    let h = c.range.ensures.in_range tt in
    let here = h.3 _ _ c.in-Some-next_back.ensures.steps in
    let last = h.4 _ _ c.in-Some-next_back.ensures.steps in
    holds_from_last es c.args.at begin c.in-Some-next_back.run'.now c.requires.tiled c.requires.inside here.1 (le_from_not_gt begin c.args.at here.0.1)
    (λ q le some. ge_from_not_lt begin q (last q (tt, not_greater q c.args.at le) some))
