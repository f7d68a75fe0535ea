use Rattle.mr_value.proofs.Common.{◌≡◌, ◌+◌, ◌≤◌, ◌++◌, false, None, drop, get_or, length, sym, ap, ◌∙◌, arith, Tag, are_tags, int_size, with_range_replaced, length-with_range_replaced, with_provenance, tag_bytes, with_tags, Bytes, little_endian}
use Rattle.mr_ast.specs.declared.types.IntType.TheVariants.{U8}
use Rattle.mr_value.proofs.EncodeLength.{length-tag_bytes}
use Rattle.mr_value.proofs.EncodeSteps.{next_tag, tags_written}
use Rattle.mr_value.proofs.encoding.write_tags.Goals as goal

-- what stands for a tag that isn't there
abbrev no_tag : Tag
no_tag = record { at = 0; int = U8; number = record { neg = false; mag = 0 } }

pub loop-tag-preserved : goal.loop-tag-preserved
loop-tag-preserved c =
    let l = c.loop-tag in
    let tags = c.args.tags.now in
    let g = get_or tags l.tag-index no_tag in
    let old = l.bytes.items in
    let t = l.invariant.ok.0 in
    let n = next_tag (length old) t tags l.tag-index no_tag (omega arith) l.invariant.ok.1 in
    let piece : c.as_slice.result.now ≡ tag_bytes g =
    c.as_slice.ensures.value ∙ c.in_ok-append_number.ensures.ok
    ∙ ap (λ (b : Bytes). b ++ with_provenance None (little_endian c.int_bytes.result c.bits_of_number.result)) c.new-piece.ensures.items
    ∙ ap (λ k. with_provenance None (little_endian k c.bits_of_number.result)) c.int_bytes.ensures
    ∙ ap (λ k. with_provenance None (little_endian (int_size g.int) k)) c.bits_of_number.ensures in
    let now : c.replace.new.bytes.items ≡ with_range_replaced old g.at (tag_bytes g) = c.replace.ensures ∙ ap (with_range_replaced old g.at) piece in
    let inside : g.at + length (tag_bytes g) ≤ length old = omega (arith, n.inside, length-tag_bytes g) in
    let long : length c.replace.new.bytes.items ≡ length old = ap length now ∙ length-with_range_replaced old g.at (tag_bytes g) inside in
    record {
      ok = (t, ap (λ k. are_tags k t (drop (l.tag-index + 1) tags)) long ∙ n.rest);
      all = l.invariant.all ∙ tags_written tags old l.tag-index no_tag (omega arith) ∙ ap (with_tags (drop (l.tag-index + 1) tags)) (sym now);
    }
