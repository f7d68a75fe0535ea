use Rattle.mr_picture.proofs.Common.{◌≡◌, ℕ, List, [], ◌++◌, ◌∙◌, ap, subst, OnOk, as_written, column_place, scene_in, mark_of}
use Rattle.std.proofs.Common.{ap₂}
use Rattle.mr_svg.specs.declared.shape.Shape.{Shape}
use Rattle.mr_svg.specs.declared.shape.Sign.{Sign}
use Rattle.mr_picture.specs.Column.{kept_shape, kept_sign, kept_title}
use Rattle.mr_picture.proofs.column.push_kept_mark.Goals as goal

pub returns : goal.returns
returns c =
    let s = scene_in c.args.scene.now in
    let old = c.args.out.now.items in
    let new = c.push_mark.new.out.items in
    let told = kept_title c.args.step c.args.row in
    let at = c.column_place-at.ensures
    ∙ ap (λ (thread : ℕ). column_place s thread c.args.row) c.thread_at.ensures in
    let shape = c.kept_shape.ensures ∙ ap₂ kept_shape c.is_of_race-races.ensures at in
    let of = c.kept_sign.ensures ∙ ap kept_sign c.is_of_race-races.ensures in
    subst (λ (end : Sign × Shape). OnOk c.push_mark.result (new ≡ old ++ as_written (mark_of end.0 end.1 [] told)))
    (ap₂ (λ (a : Sign) (b : Shape). (a, b)) of shape)
    (subst (λ (title : List ℕ). OnOk c.push_mark.result
    (new ≡ old ++ as_written (mark_of c.kept_sign.result c.kept_shape.result [] title))) c.requires.title
    c.push_mark.ensures)
