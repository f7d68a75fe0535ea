use Rattle.mr_value.proofs.Common.{◌≡◌, true, drop, length, are_chunks_ok, blank, with_chunks, chunks_size}
use Rattle.mr_value.proofs.encoding.union_bytes.Given as goal

abbrev pub invariant-loop-chunk : goal.invariant-loop-chunk
invariant-loop-chunk l = record {
  ok : are_chunks_ok l.size (drop l.chunk-index l.chunks) ≡ true;
  left : length l.rest ≡ chunks_size (drop l.chunk-index l.chunks);
  sized : length l.bytes.items ≡ l.size;
  all : with_chunks l.chunks l.content (blank l.size) ≡ with_chunks (drop l.chunk-index l.chunks) l.rest l.bytes.items;
}
