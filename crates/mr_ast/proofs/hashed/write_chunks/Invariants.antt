use Rattle.mr_ast.proofs.Common.{◌≡◌, take, fold, flat_map, chunk_writes}
use Rattle.mr_ast.proofs.hashed.write_chunks.Given as goal

abbrev pub invariant-loop-chunk : goal.invariant-loop-chunk
invariant-loop-chunk g l = l.state ≡ fold g.H.Hasher.write l.initial.state (flat_map chunk_writes (take l.chunk-index l.chunks))
