use Rattle.mr_picture.proofs.Common.{◌≡◌, ℕ, List, ◌+◌, ◌++◌, ◌∙◌, subst, OnOk, decimal, Point, as_written, left_title, mark_of}
use Rattle.mr_svg.specs.declared.shape.Shape.TheVariants.{WordsTo}
use Rattle.mr_svg.specs.declared.shape.Sign.TheVariants as sign
use Rattle.mr_picture.proofs.column.push_left_number.Goals as goal

pub returns : goal.returns
returns c =
    let old = c.args.out.now.items in
    let new = c.push_mark.new.out.items in
    let at = c.number_place-at.result in
    subst (λ (p : Point). OnOk c.push_mark.result
    (new ≡ old ++ as_written (mark_of sign.LeftOut (WordsTo p) (decimal (c.args.step + 1)) (left_title c.args.step))))
    c.number_place-at.ensures
    (subst (λ (words : List ℕ). OnOk c.push_mark.result
    (new ≡ old ++ as_written (mark_of sign.LeftOut (WordsTo at) words (left_title c.args.step))))
    (c.as_slice.ensures.value ∙ c.in_ok-count.ensures)
    (subst (λ (title : List ℕ). OnOk c.push_mark.result
    (new ≡ old ++ as_written (mark_of sign.LeftOut (WordsTo at) c.as_slice.result.now title))) c.requires.title
    c.push_mark.ensures))
