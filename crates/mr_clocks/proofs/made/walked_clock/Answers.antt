use Rattle.mr_clocks.proofs.Common.{ℕ, ◌-◌, ◌∙◌, ap, slice_index, subst, sym, arith, ℕ_discrete, IsMade, IsPlaceKnown, IsPlaceSeen, step_of}
use Rattle.mr_clocks.proofs.Parts.{made_of, part_ends}
use Rattle.mr_clocks.proofs.RowLaws.{known_alone, known_clock, known_stays, next_of, seen_rows}
use Rattle.mr_clocks.proofs.SkipLaws.{skips_none}
use Rattle.mr_clocks.proofs.made.walked_clock.Goals as goal

pub follow_first-requires-clause-next : goal.follow_first-requires-clause-next
follow_first-requires-clause-next c =
    next_of c.args.run.now c.args.j c.at-next.result c.args.latest.now c.requires.latest (c.at-next.ensures ∙ ap (slice_index c.args.latest.now) c.thread_at.ensures)

pub returns-then-is_done-clause-made : goal.returns-then-is_done-clause-made
returns-then-is_done-clause-made c =
    let run = c.args.run.now in
    let next = next_of run c.args.j c.at-next.result c.args.latest.now c.requires.latest (c.at-next.ensures ∙ ap (slice_index c.args.latest.now) c.thread_at.ensures) in
    known_clock run c.args.rows.now c.args.links.now c.args.found.now c.follow_first.new.clock c.args.j c.at-next.result c.requires.rows c.requires.found next
    c.in_ok-changed.ensures.part c.in_ok-changed.ensures.syncs (c.is_done.ensures c.if-is_done.true)

pub returns-then-is_done-clause-skips : goal.returns-then-is_done-clause-skips
returns-then-is_done-clause-skips c = skips_none c.args.run.now c.args.j c.args.links.now c.new.result.items c.new.ensures.items

pub returns-then-is_done-clause-alone : goal.returns-then-is_done-clause-alone
returns-then-is_done-clause-alone c = λ _.
    let run = c.args.run.now in
    let next = next_of run c.args.j c.at-next.result c.args.latest.now c.requires.latest (c.at-next.ensures ∙ ap (slice_index c.args.latest.now) c.thread_at.ensures) in
    let known = c.is_done.ensures c.if-is_done.true in
    let here = known_clock run c.args.rows.now c.args.links.now c.args.found.now c.follow_first.new.clock c.args.j c.at-next.result c.requires.rows c.requires.found next
    c.in_ok-changed.ensures.part c.in_ok-changed.ensures.syncs known in
    known_alone run c.args.rows.now c.args.links.now c.args.found.now c.follow_first.new.clock c.args.j c.requires.rows c.requires.found here known

pub loop-y-init : goal.loop-y-init
loop-y-init c = record {
  part = c.in_ok-changed.ensures.part;
  woken = c.in_ok-changed.ensures.syncs;
  seen = λ z lt. absurd (omega (arith, lt));
  same = λ none p e. c.in_ok-changed.ensures.same none ∙ c.in_ok-clock.ensures.previous p e;
  left = skips_none c.args.run.now c.args.j c.args.links.now c.new-left.result.items c.new-left.ensures.items;
  known = λ all z lt. absurd (omega (arith, lt));
}

pub walk_next-requires-clause-next : goal.walk_next-requires-clause-next
walk_next-requires-clause-next c =
    next_of c.args.run.now c.args.j c.at-next.result c.args.latest.now c.requires.latest (c.at-next.ensures ∙ ap (slice_index c.args.latest.now) c.thread_at.ensures)

pub loop-y-preserved : goal.loop-y-preserved
loop-y-preserved c =
    let i = c.loop-y.invariant in
    let w = c.in_ok-walked.ensures in
    let rows = c.args.rows.now in
    let links = c.args.links.now in
    let found = c.args.found.now in
    let new = c.walk_next.new.clock in
    record {
      part = w.part;
      woken = λ m s apart. w.kept m (i.woken m s apart);
      seen = λ z lt. elim (ℕ_discrete z c.loop-y.y) [
        | yes is ↦ subst (λ (q : ℕ). IsPlaceSeen c.args.run.now rows links (slice_index found q) new c.args.j) (sym is) w.seen
        | no ne ↦ λ inside it_asks none k here apart e counts. w.kept (step_of links k) (i.seen z (omega (arith, lt, ne)) inside it_asks none k here apart e counts)
      ];
      same = λ none p e. w.same (c.is_either-changed.ensures.other none) ∙ i.same (c.is_either-changed.ensures.one none) p e;
      left = w.left;
      known = λ all z lt. elim (ℕ_discrete z c.loop-y.y) [
        | yes is ↦ subst (λ (q : ℕ). IsPlaceKnown c.args.run.now rows links (slice_index found q) new c.args.j) (sym is) (w.known (c.is_both-alone.ensures.other all))
        | no ne ↦ known_stays c.args.run.now rows links (slice_index found z) c.args.j c.loop-y.clock new w.kept (i.known (c.is_both-alone.ensures.one all) z (omega (arith, lt, ne)))
      ];
    }

pub returns-clause-made : goal.returns-clause-made
returns-clause-made c =
    let run = c.args.run.now in
    let clocks = c.args.clocks.now in
    let numbers = c.args.numbers.now in
    let number = c.at-next.result in
    let is_next = c.at-next.ensures ∙ ap (slice_index c.args.latest.now) c.thread_at.ensures in
    let next = next_of run c.args.j number c.args.latest.now c.requires.latest is_next in
    let here = part_ends run c.loop-y.clock c.args.j c.loop-y.invariant.part
    (seen_rows run c.args.rows.now c.args.links.now c.args.found.now c.loop-y.clock c.args.j number c.requires.rows c.requires.found next c.loop-y.invariant.woken
    (λ z lt. c.loop-y.invariant.seen z (omega (arith, lt)))) in
    subst (λ n. IsMade run clocks numbers n c.if_new-made.result c.args.j) is_next
    (made_of run clocks numbers c.loop-y.clock number c.args.j c.loop-y.changed c.if_new-made.result here
    (λ none some. c.loop-y.invariant.same none (number - 1) (sym is_next ∙ omega (arith, some)))
    c.if_new-made.ensures)

pub returns-clause-alone : goal.returns-clause-alone
returns-clause-alone c = λ all.
    let run = c.args.run.now in
    let rows = c.args.rows.now in
    let links = c.args.links.now in
    let found = c.args.found.now in
    let clock = c.loop-y.clock in
    let next = next_of run c.args.j c.at-next.result c.args.latest.now c.requires.latest (c.at-next.ensures ∙ ap (slice_index c.args.latest.now) c.thread_at.ensures) in
    let here = part_ends run clock c.args.j c.loop-y.invariant.part
    (seen_rows run rows links found clock c.args.j c.at-next.result c.requires.rows c.requires.found next c.loop-y.invariant.woken (λ z lt. c.loop-y.invariant.seen z (omega (arith, lt)))) in
    known_alone run rows links found clock c.args.j c.requires.rows c.requires.found here (λ z lt. c.loop-y.invariant.known all z (omega (arith, lt)))
