use Rattle.std.proofs.Common.{◌≡◌, ◌-◌, slice_index, ◌∙◌, ap, arith}
use Rattle.std.proofs.lemmas.Bool.{both_ways}
use Rattle.mr_clocks.specs.Rows.{row_at, step_of}
use Rattle.mr_clocks.proofs.known.is_latest_known.Goals as goal

pub returns-then-is_known-clause-known : goal.returns-then-is_known-clause-known
returns-then-is_known-clause-known c = λ _ k inside at apart.
    let row = row_at c.args.rows.now c.args.x in
    let same : k ≡ row.last - 1 = omega (arith, at) in
    let step = ap (step_of c.args.links.now) same in
    let number = ap (slice_index c.args.clock.now) ((c.requires.rows.each c.args.x inside).newest k at) in
    let known = c.is_known.ensures.0 c.if-is_known.true in
    omega (arith, known, step, number)

pub returns-clause-known : goal.returns-clause-known
returns-clause-known c = λ own k inside at apart.
    absurd (apart ((c.requires.rows.each c.args.x inside).newest k at ∙ c.names_thread_of.ensures.0 own))

pub returns-clause-apart : goal.returns-clause-apart
returns-clause-apart c = λ other own. both_ways _ other (c.names_thread_of.ensures.1 own)
