use Rattle.mr_picture.proofs.Common.{◌++◌, List, ◌∙◌, ap, arith, sym, drop_all, flat_map, as_written, legend_row, rows_marks, scene_in}
use Rattle.mr_svg.specs.declared.shape.Sign.{Sign}
use Rattle.mr_picture.proofs.RowLaws.{no_rows, row_taken}
use Rattle.mr_picture.proofs.legend.push_legend.Goals as goal

pub loop-sign-preserved : goal.loop-sign-preserved
loop-sign-preserved c =
    let marks = legend_row (scene_in c.args.scene.now) in
    let now = c.loop-sign.out.items in
    let row = c.loop-sign.row in
    record {
      row = omega (arith, c.loop-sign.invariant.row);
      rest =
          row_taken marks now c.push_row.new.out.items row c.loop-sign.sign-index
          c.args.signs.now _ c.loop-sign-test.true c.in_ok-push_row.ensures
          ∙ c.loop-sign.invariant.rest;
    }

pub returns : goal.returns
returns c =
    let marks = legend_row (scene_in c.args.scene.now) in
    let out = c.loop-sign.out.items in
    let row = c.loop-sign.row in
    sym (ap (λ (signs : List Sign). out ++ flat_map as_written (rows_marks marks row signs))
    (drop_all c.loop-sign.sign-index c.args.signs.now c.loop-sign-test.false)
    ∙ no_rows marks out row)
    ∙ c.loop-sign.invariant.rest
