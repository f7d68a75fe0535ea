use Rattle.mr_hunt.proofs.Common.{◌≤◌, arith, ◌∙◌, sym, None, Some, aim_of, is_met}
use Rattle.mr_hunt.proofs.AimLaws.{first_found, none_next}
use Rattle.mr_hunt.proofs.aims.first_met.Goals as goal

pub loop-i-init : goal.loop-i-init
loop-i-init c = λ n low high. absurd (omega (arith, low, high))

pub number_behind-number-requires : goal.number_behind-number-requires
number_behind-number-requires c = omega (arith, c.loop-i-test.true, c.how_many-i-end.ensures, c.ranges.to)

pub loop-i-preserved : goal.loop-i-preserved
loop-i-preserved c =
    none_next (is_met (aim_of c.args.aim) c.args.places.now c.args.p.now c.args.most) c.args.from c.loop-i.i
    c.number_behind-number.result c.number_behind-number.ensures (sym c.in_ok-met.ensures ∙ c.if-met.false)
    c.loop-i.invariant

pub returns-then-met-clause-first : goal.returns-then-met-clause-first
returns-then-met-clause-first c =
    let there = c.number_behind-number.ensures in
    let low : c.args.from ≤ c.number_behind-number.result = omega (arith, there) in
    let high : c.number_behind-number.result ≤ c.args.to =
    omega (arith, there, c.loop-i-test.true, c.how_many-i-end.ensures) in
    first_found (is_met (aim_of c.args.aim) c.args.places.now c.args.p.now c.args.most) c.args.from c.args.to
    (Some c.number_behind-number.result)
    (low, high, sym c.in_ok-met.ensures ∙ c.if-met.true, λ m above below. c.loop-i.invariant m above (omega (arith, there, below)))

pub returns-clause-first : goal.returns-clause-first
returns-clause-first c =
    first_found (is_met (aim_of c.args.aim) c.args.places.now c.args.p.now c.args.most) c.args.from c.args.to None
    (λ n low high.
    c.loop-i.invariant n low (omega (arith, low, high, c.loop-i-test.false, c.how_many-i-end.ensures)))
