use Rattle.mr_clocks.proofs.Common.{◌≡◌, ℕ, ◌+◌, ◌-◌, ap, subst, sym, arith, both_ways, RacePair, IsUnder, row_at, step_of}
use Rattle.mr_clocks.proofs.Chains.{in_here}
use Rattle.mr_clocks.proofs.RowLaws.{known_beyond, latest_rival}
use Rattle.mr_clocks.proofs.rows.better.Goals as goal

pub returns-then-is_latest_known-clause-beyond : goal.returns-then-is_latest_known-clause-beyond
returns-then-is_latest_known-clause-beyond c =
    known_beyond c.args.run.now c.args.rows.now c.args.links.now c.args.x c.args.j c.args.best c.args.clock.now c.requires.clock (c.is_latest_known.ensures.known c.if-is_latest_known.true)

pub returns-then-not-may_rival-clause-beyond : goal.returns-then-not-may_rival-clause-beyond
returns-then-not-may_rival-clause-beyond c = λ k inside races at pair.
    absurd (both_ways _ c.if-not-may_rival.true (c.may_rival.ensures.all races))

pub is_under-requires : goal.is_under-requires
is_under-requires c =
    let row = row_at c.args.rows.now c.args.x in
    let m : ℕ = row.last - 1 in
    let some = c.is_latest_known.ensures.some c.if-is_latest_known.false in
    let at : row.last ≡ m + 1 = omega (arith, some) in
    let here = (c.requires.rows.each c.args.x (c.is_latest_known.ensures.inside c.if-is_latest_known.false)).steps m (in_here c.args.links.now m row.last at) in
    let low = here.within in
    omega (arith, low, c.requires.within)

pub returns-then-i-best-clause-beyond : goal.returns-then-i-best-clause-beyond
returns-then-i-best-clause-beyond c = λ k inside races at pair.
    let same : k ≡ (row_at c.args.rows.now c.args.x).last - 1 = omega (arith, at) in
    let is = ap (step_of c.args.links.now) same in
    omega (arith, is, c.if-i-best.true)

pub returns-then-is_under-clause-beyond : goal.returns-then-is_under-clause-beyond
returns-then-is_under-clause-beyond c = λ k inside races at pair.
    let run = c.args.run.now in
    let links = c.args.links.now in
    let same : k ≡ (row_at c.args.rows.now c.args.x).last - 1 = omega (arith, at) in
    let here = c.is_under.ensures.0 c.if-is_under.true in
    absurd (pair.unordered (c.requires.clock.sound (step_of links k) (subst (λ (q : ℕ). IsUnder run c.args.clock.now (step_of links q)) (sym same) here)))

pub returns-clause-partner : goal.returns-clause-partner
returns-clause-partner c = λ p e.
    let run = c.args.run.now in
    let links = c.args.links.now in
    let row = row_at c.args.rows.now c.args.x in
    let m : ℕ = row.last - 1 in
    let some = c.is_latest_known.ensures.some c.if-is_latest_known.false in
    let at : row.last ≡ m + 1 = omega (arith, some) in
    let pair = latest_rival run c.args.rows.now links c.args.x c.args.j m c.args.clock.now c.requires.rows c.requires.clock (c.is_latest_known.ensures.inside c.if-is_latest_known.false) at
    (c.is_latest_known.ensures.apart c.if-is_latest_known.false) (c.may_rival.ensures.raced c.if-not-may_rival.false)
    (λ h. both_ways _ c.if-is_under.false (c.is_under.ensures.1 h)) in
    let is : step_of links m ≡ p = omega (arith, e) in
    subst (λ (q : ℕ). RacePair run q c.args.j) is pair

pub returns-clause-beyond : goal.returns-clause-beyond
returns-clause-beyond c = λ k inside races at pair.
    let same : k ≡ (row_at c.args.rows.now c.args.x).last - 1 = omega (arith, at) in
    let is = ap (step_of c.args.links.now) same in
    omega (arith, is)
