use Rattle.mr_layout.proofs.Common.{◌≡◌, ap, sym, subst, ◌∙◌, IfSome, is_mark, are_unmarked, is_in_chunk}
use Rattle.mr_layout.proofs.MarkLaws.{unmarked_covered, marks_in_gaps}
use Rattle.mr_layout.proofs.gaps.are_outside_table.Goals as goal

pub are_unmarked-requires-clause-marks : goal.are_unmarked-requires-clause-marks
are_unmarked-requires-clause-marks c = λ k e.
    ap (λ ranges. is_in_chunk ranges k) c.as_slice.ensures.value
    ∙ marks_in_gaps c.args.end c.args.chunks.now c.in-Ok.gaps.items c.in-Ok-between.table.items c.in-Ok.ensures c.in-Ok-between.ensures.long c.requires.rising c.in-Ok-between.ensures.marks k
    (sym (ap (λ items. is_mark items k) c.as_slice-in-Ok-between.ensures.value) ∙ e)

pub returns-in-Ok-between : goal.returns-in-Ok-between
returns-in-Ok-between c =
    subst (λ v. IfSome c.are_unmarked.result (λ b. b ≡ v))
    (ap (are_unmarked c.args.fields.now) c.as_slice-in-Ok-between.ensures.value
    ∙ unmarked_covered c.args.end c.args.fields.now c.args.chunks.now c.in-Ok-between.table.items c.in-Ok-between.ensures.long c.in-Ok-between.ensures.marks c.requires.inside)
    c.are_unmarked.ensures
