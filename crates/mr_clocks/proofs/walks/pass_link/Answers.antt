use Rattle.mr_clocks.proofs.Common.{◌≡◌, ℕ, ◌+◌, ◌-◌, arith}
use Rattle.mr_clocks.proofs.SkipLaws.{walking_link, walking_step}
use Rattle.mr_clocks.proofs.walks.pass_link.Goals as goal

pub note_race-requires-clause-first : goal.note_race-requires-clause-first
note_race-requires-clause-first c =
    let walk = c.args.walk.now in
    let m : ℕ = walk.end - 1 in
    let at : walk.end ≡ m + 1 = omega arith in
    let of = walking_step c.args.run.now c.args.j m walk.end c.args.links.now c.args.row walk.whole walk.by.items c.requires.walking c.requires.row at in
    let lt = of.within in
    omega (arith, lt, c.requires.within)

pub returns-clause-falls : goal.returns-clause-falls
returns-clause-falls c =
    let walk = c.args.walk.now in
    let low = c.requires.walking.low in
    let less = c.requires.links.low (walk.end - 1) (omega (arith, low)) in
    omega (arith, less)

pub returns-clause-walking : goal.returns-clause-walking
returns-clause-walking c =
    let walk = c.args.walk.now in
    let m : ℕ = walk.end - 1 in
    let at : walk.end ≡ m + 1 = omega arith in
    let w = c.requires.walking in
    let e = c.in_ok-note_race.ensures in
    walking_link c.args.run.now c.args.j m walk.end c.args.links.now c.args.row walk.whole c.note_race.new.walk.whole walk.by.items c.note_race.new.walk.by.items
    c.requires.links at (c.requires.none m at) e.kept (e.covered w.covered) (λ i. (e.whole i, e.raced i)) w
