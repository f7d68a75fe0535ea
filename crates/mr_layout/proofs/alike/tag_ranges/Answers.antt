use Rattle.mr_layout.proofs.Common.{false, get_or, ap, arith, U8, Tag, tag_range}
use Rattle.mr_layout.proofs.AlikeLaws.{not_empty_step}
use Rattle.mr_layout.proofs.alike.tag_ranges.Goals as goal

-- what stands for a tag that isn't there
abbrev no_tag : Tag
no_tag = record { at = 0; int = U8; number = record { neg = false; mag = 0 } }

pub loop-tag-preserved : goal.loop-tag-preserved
loop-tag-preserved c =
    let at = (get_or c.args.tags.now c.loop-tag.tag-index no_tag).at in
    not_empty_step tag_range c.args.tags.now c.loop-tag.tag-index no_tag (omega arith) c.loop-tag.ranges.items c.push_range.new.ranges.items c.loop-tag.invariant
    (at, c.int_bytes.result) (ap (λ n. (at, n)) c.int_bytes.ensures) c.in_ok-push_range.ensures
