use Rattle.mr_frame.proofs.Common.{false, ◌∙◌, arith, Tag, seen}
use Rattle.mr_ast.specs.declared.types.IntType.TheVariants.{U8}
use Rattle.mr_layout.proofs.Turns.{tag_turn}
use Rattle.mr_frame.proofs.TagLaws.{tag_stored}
use Rattle.mr_frame.proofs.changes.write_tags.Goals as goal

-- what stands for a tag that isn't there
abbrev no_tag : Tag
no_tag = record { at = 0; int = U8; number = record { neg = false; mag = 0 } }

pub loop-tag-preserved : goal.loop-tag-preserved
loop-tag-preserved c =
    let l = c.loop-tag in
    let tags = c.args.tags.now in
    let fit = l.invariant.fit in
    record {
      tags = l.invariant.tags ∙ tag_stored l.m c.args.p tags l.tag-index no_tag (seen l.n) c.write_tag.new.m (seen c.write_tag.new.n) (omega arith) c.in_ok-write_tag.ensures;
      fit = (fit.0, fit.1, (tag_turn fit.0 fit.1 tags l.tag-index no_tag (omega arith) fit.2).rest);
    }
