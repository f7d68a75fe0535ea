use Rattle.mr_picture.proofs.Common.{◌≡◌, ℕ, List, ◌++◌, subst, OnOk, Words, as_written, mark_of, cut_at}
use Rattle.mr_svg.specs.declared.shape.Sign.TheVariants as sign
use Rattle.mr_picture.proofs.ends.push_title.Goals as goal

pub returns : goal.returns
returns c =
    subst (λ (text : List ℕ). OnOk c.push_line.result
    (c.push_line.new.out.items ≡ c.args.out.now.items
    ++ as_written (mark_of sign.Title (Words (record { x = 16; y = 30 })) (cut_at 70 text) text)))
    c.requires c.push_line.ensures
