use Rattle.mr_picture.proofs.Common.{◌≡◌, ◌++◌, ℕ, List, subst, OnOk, flat_map, as_written, scene_in}
use Rattle.mr_picture.specs.Legend.{row_of}
use Rattle.mr_picture.proofs.legend.push_row.Goals as goal

pub returns : goal.returns
returns c =
    subst (λ (words : List ℕ). OnOk c.push_row_of.result (c.push_row_of.new.out.items
    ≡ c.args.out.now.items
    ++ flat_map as_written (row_of (scene_in c.args.scene.now) c.args.number c.args.sign words)))
    c.sign_text.ensures c.push_row_of.ensures
