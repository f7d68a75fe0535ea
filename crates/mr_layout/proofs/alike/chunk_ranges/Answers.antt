use Rattle.mr_layout.proofs.Common.{arith}
use Rattle.mr_layout.proofs.AlikeLaws.{not_empty_next}
use Rattle.mr_layout.proofs.alike.chunk_ranges.Goals as goal

pub loop-chunk-preserved : goal.loop-chunk-preserved
loop-chunk-preserved c =
    not_empty_next c.args.chunks.now c.loop-chunk.chunk-index (0, 0) (omega arith) c.loop-chunk.ranges.items c.push_range.new.ranges.items c.loop-chunk.invariant c.in_ok-push_range.ensures
