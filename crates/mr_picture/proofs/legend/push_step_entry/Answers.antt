use Rattle.mr_picture.proofs.Common.{◌≡◌, ◌++◌, ◌∙◌, subst, OnOk, flat_map, as_written, entry, scene_in}
use Rattle.std.proofs.Common.{ap₂}
use Rattle.mr_svg.specs.declared.shape.Shape.{Shape}
use Rattle.mr_picture.specs.Steps.{part_shape}
use Rattle.mr_picture.proofs.legend.push_step_entry.Goals as goal

pub returns : goal.returns
returns c =
    subst (λ (shape : Shape). OnOk c.push_entry.result (c.push_entry.new.out.items
    ≡ c.args.out.now.items
    ++ flat_map as_written (entry (scene_in c.args.scene.now) c.args.number c.args.sign shape c.args.words.now)))
    (c.part_shape-shape.ensures ∙ ap₂ part_shape c.part_with.ensures c.point_at-at.ensures) c.push_entry.ensures
