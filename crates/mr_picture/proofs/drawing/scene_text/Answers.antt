use Rattle.mr_picture.proofs.Common.{◌++◌, ◌∙◌, List, ap, filter, flat_map, as_written, drawn_marks, scene_in}
use Rattle.mr_picture.specs.declared.written.Written.{Written}
use Rattle.mr_picture.specs.Legend.{has_sign, legend_order, legend_signs}
use Rattle.mr_picture.proofs.drawing.scene_text.Goals as goal

pub laid_text-requires-clause-signs : goal.laid_text-requires-clause-signs
unfolding legend_signs
laid_text-requires-clause-signs c =
    c.as_slice-4.ensures.value ∙ c.in_ok-signs.ensures
    ∙ ap (λ (marks : List Written). filter (has_sign marks) legend_order)
    (c.as_slice-2.ensures.value ∙ c.in_ok-push_drawn.ensures
    ∙ ap (λ (marks : List Written). marks ++ flat_map as_written (drawn_marks (scene_in c.args.scene.now)))
    c.new-drawn.ensures.items)
