use Rattle.mr_picture.proofs.Common.{◌≡◌, ℕ, ◌+◌, ◌-◌, ◌++◌, List, ◌∙◌, ap, append-nil, arith, sym, flat_map, as_written, line_marks, tail_mark, scene_in}
use Rattle.mr_picture.proofs.RowLaws.{line_taken}
use Rattle.mr_picture.proofs.ends.push_tail.Goals as goal

pub loop-number-preserved : goal.loop-number-preserved
loop-number-preserved c =
    let s = scene_in c.args.scene.now in
    let now = c.loop-number.out.items in
    let next = c.push_tail_line.new.out.items in
    let n = c.loop-number.number in
    record {
      within = omega (arith, c.loop-number-test.true);
      rest =
          ap (λ (text : List ℕ). next ++ flat_map as_written (line_marks s (n + 1) (c.tail_count-count.result - (n + 1)) text))
          c.behind_line-rest.ensures
          ∙ line_taken s now next n c.tail_count-count.result c.loop-number.rest.now c.loop-number-test.true
          (c.in_ok-push_tail_line.ensures
          ∙ ap (λ (line : List ℕ). now ++ as_written (tail_mark s n line)) c.first_line.ensures)
          ∙ c.loop-number.invariant.rest;
    }

pub returns : goal.returns
returns c =
    let s = scene_in c.args.scene.now in
    let out = c.loop-number.out.items in
    let n = c.loop-number.number in
    let none : c.tail_count-count.result - n ≡ 0 = omega (arith, c.loop-number.invariant.within, c.loop-number-test.false) in
    sym (ap (λ (m : ℕ). out ++ flat_map as_written (line_marks s n m c.loop-number.rest.now)) none ∙ append-nil out)
    ∙ c.loop-number.invariant.rest
    ∙ ap (λ (m : ℕ). c.args.out.now.items ++ flat_map as_written (line_marks s 0 m s.sketch.tail)) c.tail_count-count.ensures
