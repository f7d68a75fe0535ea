use Rattle.mr_clocks.proofs.Common.{◌≡◌, ℕ, ◌+◌, ◌-◌, true, subst, sym, ◌∙◌, refl, arith, both_ways, Edge, IsPart, IsUnder, step_of}
use Rattle.mr_clocks.proofs.SkipLaws.{walking_end, walking_known, walking_left, walking_start, walking_step}
use Rattle.mr_clocks.proofs.rows.follow_row.Goals as goal

pub loop-walk-init : goal.loop-walk-init
loop-walk-init c = record {
  clock = refl;
  changed = refl;
  walking = walking_start c.args.run.now c.args.j c.args.row.last c.args.links.now c.args.row true c.new.result.items c.new.ensures.items refl c.requires.row;
}

pub loop-walk-preserved : goal.loop-walk-preserved
loop-walk-preserved c = record {
  clock = c.loop-walk.invariant.clock;
  changed = c.in_ok-pass.ensures.changed ∙ c.loop-walk.invariant.changed;
  walking = c.in_ok-pass.ensures.walking;
}

pub is_own_or_under-requires-clause-first : goal.is_own_or_under-requires-clause-first
is_own_or_under-requires-clause-first c =
    let run = c.args.run.now in
    let links = c.args.links.now in
    let row = c.args.row in
    let walk = c.loop-walk.walk in
    let m : ℕ = walk.end - 1 in
    let at : walk.end ≡ m + 1 = omega arith in
    let w = c.loop-walk.invariant.walking in
    let of = walking_step run c.args.j m walk.end links row walk.whole walk.by.items w c.requires.row at in
    let before = of.within in
    omega (arith, before, c.requires.within)

pub edge-requires-clause-order : goal.edge-requires-clause-order
edge-requires-clause-order c =
    let run = c.args.run.now in
    let links = c.args.links.now in
    let row = c.args.row in
    let walk = c.loop-walk.walk in
    let m : ℕ = walk.end - 1 in
    let at : walk.end ≡ m + 1 = omega arith in
    let w = c.loop-walk.invariant.walking in
    let of = walking_step run c.args.j m walk.end links row walk.whole walk.by.items w c.requires.row at in
    of.within

pub edge-requires-clause-apart : goal.edge-requires-clause-apart
edge-requires-clause-apart c = c.is_own_or_under.ensures.apart c.if-is_own_or_under.false

pub follow_edge-requires-clause-order : goal.follow_edge-requires-clause-order
follow_edge-requires-clause-order c =
    let run = c.args.run.now in
    let links = c.args.links.now in
    let row = c.args.row in
    let walk = c.loop-walk.walk in
    let m : ℕ = walk.end - 1 in
    let at : walk.end ≡ m + 1 = omega arith in
    let w = c.loop-walk.invariant.walking in
    let of = walking_step run c.args.j m walk.end links row walk.whole walk.by.items w c.requires.row at in
    of.within

pub follow_edge-requires-clause-edge : goal.follow_edge-requires-clause-edge
follow_edge-requires-clause-edge c = c.edge.ensures.0 c.if-edge.true

pub follow_edge-requires-clause-part : goal.follow_edge-requires-clause-part
follow_edge-requires-clause-part c = subst (λ l. IsPart c.args.run.now l c.args.j) (sym c.loop-walk.invariant.clock) c.requires.part

pub pass-requires-clause-none : goal.pass-requires-clause-none
pass-requires-clause-none c = λ m e h.
    let same : m ≡ c.loop-walk.walk.end - 1 = omega (arith, e) in
    both_ways _ c.if-edge.false (c.edge.ensures.1 (subst (λ (q : ℕ). Edge c.args.run.now (step_of c.args.links.now q) c.args.j) same h))

pub returns-then-is_own_or_under-clause-part : goal.returns-then-is_own_or_under-clause-part
returns-then-is_own_or_under-clause-part c = subst (λ l. IsPart c.args.run.now l c.args.j) (sym c.loop-walk.invariant.clock) c.requires.part

pub returns-then-is_own_or_under-clause-seen : goal.returns-then-is_own_or_under-clause-seen
returns-then-is_own_or_under-clause-seen c =
    let run = c.args.run.now in
    let links = c.args.links.now in
    let row = c.args.row in
    let walk = c.loop-walk.walk in
    let m : ℕ = walk.end - 1 in
    let at : walk.end ≡ m + 1 = omega arith in
    let w = c.loop-walk.invariant.walking in
    let part = subst (λ l. IsPart run l c.args.j) (sym c.loop-walk.invariant.clock) c.requires.part in
    walking_known run c.args.j m walk.end links row walk.whole walk.by.items c.loop-walk.clock c.requires.links c.requires.row part at
    (c.is_own_or_under.ensures.known c.if-is_own_or_under.true) w

pub returns-then-is_own_or_under-clause-kept : goal.returns-then-is_own_or_under-clause-kept
returns-then-is_own_or_under-clause-kept c = λ m under. subst (λ l. IsUnder c.args.run.now l m) (sym c.loop-walk.invariant.clock) under

pub returns-then-is_own_or_under-clause-skip : goal.returns-then-is_own_or_under-clause-skip
returns-then-is_own_or_under-clause-skip c = λ whole.
    let walk = c.loop-walk.walk in
    walking_left c.args.run.now c.args.j walk.end c.args.links.now c.args.row walk.whole walk.by.items c.requires.row whole c.loop-walk.invariant.walking

pub returns-then-edge-clause-seen : goal.returns-then-edge-clause-seen
returns-then-edge-clause-seen c =
    let run = c.args.run.now in
    let links = c.args.links.now in
    let row = c.args.row in
    let walk = c.loop-walk.walk in
    let m : ℕ = walk.end - 1 in
    let at : walk.end ≡ m + 1 = omega arith in
    let w = c.loop-walk.invariant.walking in
    let e = c.in_ok-follow_edge.ensures in
    walking_known run c.args.j m walk.end links row walk.whole walk.by.items c.follow_edge.new.clock c.requires.links c.requires.row e.part at
    (λ _. e.under) w

pub returns-then-edge-clause-kept : goal.returns-then-edge-clause-kept
returns-then-edge-clause-kept c = λ q under.
    c.in_ok-follow_edge.ensures.kept q (subst (λ l. IsUnder c.args.run.now l q) (sym c.loop-walk.invariant.clock) under)

pub returns-then-edge-clause-skip : goal.returns-then-edge-clause-skip
returns-then-edge-clause-skip c = λ whole.
    let walk = c.loop-walk.walk in
    walking_left c.args.run.now c.args.j walk.end c.args.links.now c.args.row walk.whole walk.by.items c.requires.row whole c.loop-walk.invariant.walking

pub returns-clause-part : goal.returns-clause-part
returns-clause-part c = subst (λ l. IsPart c.args.run.now l c.args.j) (sym c.loop-walk.invariant.clock) c.requires.part

pub returns-clause-seen : goal.returns-clause-seen
returns-clause-seen c =
    let walk = c.loop-walk.walk in
    walking_end c.args.run.now c.args.j walk.end c.args.links.now c.args.row walk.whole walk.by.items c.loop-walk.clock (omega arith) c.loop-walk.invariant.walking

pub returns-clause-kept : goal.returns-clause-kept
returns-clause-kept c = λ m under. subst (λ l. IsUnder c.args.run.now l m) (sym c.loop-walk.invariant.clock) under

pub returns-clause-skip : goal.returns-clause-skip
returns-clause-skip c = λ whole.
    let walk = c.loop-walk.walk in
    walking_left c.args.run.now c.args.j walk.end c.args.links.now c.args.row walk.whole walk.by.items c.requires.row whole c.loop-walk.invariant.walking
