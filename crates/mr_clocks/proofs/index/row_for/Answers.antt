use Rattle.mr_clocks.proofs.Common.{◌-◌, ◌^◌, refl, arith, mark_of}
use Rattle.mr_clocks.proofs.MarkLaws.{low_mark, low_read}
use Rattle.mr_clocks.proofs.index.row_for.Goals as goal

pub range-mark-items-requires : goal.range-mark-items-requires
range-mark-items-requires c =
    let low = mark_of c.args.shelf c.key_place-at.result c.marked_thread-marked.result 0 in
    let high = mark_of c.args.shelf c.key_place-at.result c.marked_thread-marked.result (2 ^ 64 - 1) in
    low_read c.new.result.start c.new.result.end low high c.new.ensures.start c.new.ensures.end (low_mark low high refl (omega arith) (omega arith) (omega arith))
