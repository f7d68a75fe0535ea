use Rattle.mr_layout.proofs.Common.{◌≡◌, ◌*◌, ◌%◌, ◌<◌, ◌≤◌, length, max, min, slice_index, take, sym, ap, ◌∙◌, arith, ◌||◌, length-take, is_marked}
use Rattle.std.proofs.lemmas.Bool.{eqb-true, eqb-false}
use Rattle.mr_layout.proofs.FoldLaws.{first_step, step_over, last_step, within_one, written_back}
use Rattle.mr_layout.proofs.marks.gathered.Goals as goal

pub loop-rest-init : goal.loop-rest-init
loop-rest-init c =
    let start = c.in_ok-all.ensures.items ∙ c.first.ensures.bytes in
    let whole : length c.in_ok-all.all.items ≡ min c.args.step (length c.args.row.now) = ap length start ∙ length-take c.args.step c.args.row.now in
    record {
      few = omega (arith, whole);
      enough = λ h. omega (arith, whole, c.behind-rest.ensures.left, h);
      same = λ part len n e. first_step part len n c.args.step c.args.row.now c.in_ok-all.all.items c.behind-rest.result.now e start c.behind-rest.ensures.bytes;
    }

pub loop-rest-preserved : goal.loop-rest-preserved
loop-rest-preserved c =
    let some = eqb-false (length c.loop-rest.rest.now) 0 (sym c.loop-rest-test.ensures) in
    let more : 0 < length c.loop-rest.rest.now = omega (arith, some) in
    let long : length c.mark.new.table ≡ length c.loop-rest.all.items = c.mark.ensures.long ∙ ap length c.as_mut_slice.ensures.value in
    let written = written_back c.loop-rest.all.len c.mark.new.table c.loop-rest.all.items long c.loop-rest.all.ok.0 in
    let kept = ap length written ∙ long in
    let first_len : length c.first-in-loop-rest.result.now ≡ length (take c.args.step c.loop-rest.rest.now) = ap length c.first-in-loop-rest.ensures.bytes in
    let short : length (take c.args.step c.loop-rest.rest.now) ≤ length c.loop-rest.all.items = omega (arith, first_len, c.first-in-loop-rest.ensures.few, c.loop-rest.invariant.enough more) in
    record {
      few = omega (arith, kept, c.loop-rest.invariant.few);
      enough = λ h. omega (arith, kept, c.loop-rest.invariant.enough more);
      same = λ part len n e.
          step_over part len n c.args.step c.args.row.now c.loop-rest.all.items c.loop-rest.rest.now c.mark.new.table e long short
          (λ k. c.mark.ensures.marks k ∙ (λ i. max (slice_index (c.as_mut_slice.ensures.value i) k) (slice_index (c.first-in-loop-rest.ensures.bytes i) k)))
          (c.loop-rest.invariant.same part len n e)
          ∙ sym (λ i. is_marked (λ at. part (at % len)) (written i) || is_marked (λ at. part (at % len)) (c.behind-rest-in-loop-rest.ensures.bytes i));
    }

pub returns-clause-same : goal.returns-clause-same
returns-clause-same c = λ part len n e.
    last_step part len c.args.row.now c.loop-rest.all.items c.loop-rest.rest.now (eqb-true (length c.loop-rest.rest.now) 0 (sym c.loop-rest-test.ensures)) (c.loop-rest.invariant.same part len n e)

pub returns-clause-one : goal.returns-clause-one
returns-clause-one c = λ part.
    let once : c.args.step ≡ 1 * c.args.step = omega arith in
    last_step part c.args.step c.args.row.now c.loop-rest.all.items c.loop-rest.rest.now (eqb-true (length c.loop-rest.rest.now) 0 (sym c.loop-rest-test.ensures)) (c.loop-rest.invariant.same part c.args.step 1 once)
    ∙ within_one part c.args.step c.loop-rest.all.items c.loop-rest.invariant.few
