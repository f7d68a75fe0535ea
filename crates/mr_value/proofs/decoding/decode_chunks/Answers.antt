use Rattle.mr_value.proofs.Common.{◌∙◌, arith, bytes_of_pieces}
use Rattle.mr_value.proofs.DecodeSteps.{next_chunk, chunks_next}
use Rattle.mr_value.proofs.decoding.decode_chunks.Goals as goal

pub copy_range-requires : goal.copy_range-requires
copy_range-requires c =
    let n = next_chunk c.args.size c.args.chunks.now c.loop-chunk.chunk-index (0, 0) (omega arith) c.loop-chunk.invariant.ok in
    omega (arith, n.inside)

pub loop-chunk-preserved : goal.loop-chunk-preserved
loop-chunk-preserved c =
    let l = c.loop-chunk in
    let n = next_chunk c.args.size c.args.chunks.now l.chunk-index (0, 0) (omega arith) l.invariant.ok in
    record {
      ok = n.rest;
      all = l.invariant.all
          ∙ chunks_next (bytes_of_pieces c.args.v.now) c.args.at c.args.size c.args.chunks.now l.chunk-index (0, 0) l.content c.copy_range.new.out (omega arith) n.inside c.in_ok-copy_range.ensures;
    }
