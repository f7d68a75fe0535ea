use Rattle.mr_frame.proofs.Common.{sym, ◌∙◌}
use Rattle.mr_frame.proofs.InsideLaws.{disc_tags, tags_fit}
use Rattle.mr_frame.proofs.changes.set_discriminant.Goals as goal

pub write_tags-requires : goal.write_tags-requires
write_tags-requires c = tags_fit c.type_at.result.now c.args.number c.in-Some.tags.now c.type_at.ensures.ok (sym c.in-Some.ensures)

pub unreachable-requires : goal.unreachable-requires
unreachable-requires c =
    let tags = disc_tags c.args.e.now c.args.at.now c.args.number c.type_at.result.now c.requires c.type_at.ensures in
    let both = c.in-None.ensures ∙ tags.1 in
    absurd (cc)
