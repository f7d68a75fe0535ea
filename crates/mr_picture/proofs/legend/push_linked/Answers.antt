use Rattle.mr_picture.proofs.Common.{◌∷◌, [], ◌∙◌, ◌++◌, as_written, Point, sample, words_mark, scene_in, mark_of}
use Rattle.std.proofs.Common.{ap₂}
use Rattle.mr_svg.specs.declared.shape.Shape.TheVariants.{Line}
use Rattle.mr_picture.proofs.Marks.{begun, last_mark, more_mark}
use Rattle.mr_picture.proofs.legend.push_linked.Goals as goal

pub returns : goal.returns
returns c =
    let s = scene_in c.args.scene.now in
    let old = c.args.out.now.items in
    let words = c.args.words.now in
    let line = mark_of c.args.sign (sample s c.args.number) [] words in
    let one = mark_of c.args.end c.args.one [] words in
    let other = mark_of c.args.end c.args.other [] words in
    last_mark as_written c.push_words.result old _ _ (line ∷ one ∷ other ∷ []) (words_mark s c.args.number words)
    (more_mark as_written old _ _ (line ∷ one ∷ []) other
    (more_mark as_written old _ _ (line ∷ []) one
    (more_mark as_written old old _ [] line (begun as_written old)
    (c.in_ok-push_mark.ensures
    ∙ ap₂ (λ (a b : Point). old ++ as_written (mark_of c.args.sign (Line a b) [] words)) c.point_at.ensures
    c.point_at-2.ensures))
    c.in_ok-push_mark-2.ensures)
    c.in_ok-push_mark-3.ensures)
    c.push_words.ensures
