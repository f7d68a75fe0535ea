use Rattle.mr_value.proofs.Common.{◌≡◌, ◌++◌, true, drop, are_chunks_ok, bytes_of_pieces, part, chunks_in}
use Rattle.mr_value.proofs.decoding.decode_chunks.Given as goal

abbrev pub invariant-loop-chunk : goal.invariant-loop-chunk
invariant-loop-chunk l = record {
  ok : are_chunks_ok l.size (drop l.chunk-index l.chunks) ≡ true;
  all : chunks_in l.chunks (part l.at l.size (bytes_of_pieces l.v)) ≡ l.content ++ chunks_in (drop l.chunk-index l.chunks) (part l.at l.size (bytes_of_pieces l.v));
}
