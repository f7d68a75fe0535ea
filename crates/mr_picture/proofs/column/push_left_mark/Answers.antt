use Rattle.mr_picture.proofs.Common.{◌≡◌, ℕ, List, [], ◌++◌, ◌∙◌, ap, subst, OnOk, Point, Dot, as_written, column_place, left_title, scene_in, mark_of}
use Rattle.mr_svg.specs.declared.shape.Sign.TheVariants as sign
use Rattle.mr_picture.proofs.column.push_left_mark.Goals as goal

pub returns : goal.returns
returns c =
    let old = c.args.out.now.items in
    let new = c.push_mark.new.out.items in
    let at = c.column_place-at.ensures
    ∙ ap (λ (thread : ℕ). column_place (scene_in c.args.scene.now) thread c.args.row) c.thread_at.ensures in
    subst (λ (p : Point). OnOk c.push_mark.result
    (new ≡ old ++ as_written (mark_of sign.LeftOut (Dot p) [] (left_title c.args.step)))) at
    (subst (λ (title : List ℕ). OnOk c.push_mark.result
    (new ≡ old ++ as_written (mark_of sign.LeftOut (Dot c.column_place-at.result) [] title))) c.requires.title
    c.push_mark.ensures)
