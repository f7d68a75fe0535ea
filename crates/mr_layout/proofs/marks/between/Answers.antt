use Rattle.mr_layout.proofs.Common.{◌≡◌, ◌+◌, length, drop, slice_index, ap, ◌∙◌, arith, not, ◌&&◌, length-replicate, is_mark, is_in_chunk}
use Rattle.mr_layout.proofs.FoldLaws.{written_back}
use Rattle.mr_layout.proofs.MarkLaws.{chunk_fits, chunks_fit, chunk_step, chunk_end, all_marks_of}
use Rattle.mr_layout.proofs.marks.between.Goals as goal

pub loop-chunk-init : goal.loop-chunk-init
loop-chunk-init c = record {
  long = ap length c.in_ok-table.ensures ∙ length-replicate c.args.end 1;
  inside = c.requires;
  marks = all_marks_of c.args.end c.args.chunks.now c.in_ok-table.table.items c.in_ok-table.ensures;
}

pub clear-requires : goal.clear-requires
clear-requires c =
    omega (arith, chunk_fits c.args.end c.loop-chunk.chunk-index c.args.chunks.now c.loop-chunk-test.true c.loop-chunk.invariant.inside, c.loop-chunk.invariant.long, ap length c.as_mut_slice.ensures.value)

pub loop-chunk-preserved : goal.loop-chunk-preserved
loop-chunk-preserved c =
    let i = c.loop-chunk.chunk-index in
    let low = c.loop-chunk-test.true in
    let value = c.as_mut_slice.ensures.value in
    let long : length c.clear.new.table ≡ length c.loop-chunk.table.items = c.clear.ensures.long ∙ ap length value in
    let written = written_back c.loop-chunk.table.len c.clear.new.table c.loop-chunk.table.items long c.loop-chunk.table.ok.0 in
    record {
      long = ap length written ∙ long ∙ c.loop-chunk.invariant.long;
      inside = chunks_fit c.args.end i c.args.chunks.now low c.loop-chunk.invariant.inside;
      marks = λ k l.
          ap (λ items. is_mark items k && not (is_in_chunk (drop (i + 1) c.args.chunks.now) k)) written
          ∙ chunk_step c.args.end i c.args.chunks.now low c.loop-chunk.table.items c.clear.new.table
          (λ m h. c.clear.ensures.before m h ∙ ap (λ items. slice_index items m) value)
          c.clear.ensures.inside
          (λ m h. c.clear.ensures.after m h ∙ ap (λ items. slice_index items m) value)
          c.loop-chunk.invariant.marks k l;
    }

pub returns-clause-marks : goal.returns-clause-marks
returns-clause-marks c =
    chunk_end c.args.end c.loop-chunk.chunk-index c.args.chunks.now c.loop-chunk.table.items c.loop-chunk-test.false c.loop-chunk.invariant.marks
