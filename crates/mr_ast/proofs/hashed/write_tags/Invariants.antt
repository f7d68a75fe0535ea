use Rattle.mr_ast.proofs.Common.{◌≡◌, take, fold, flat_map}
use Rattle.mr_ast.specs.Hashed.{tag_writes}
use Rattle.mr_ast.proofs.hashed.write_tags.Given as goal

abbrev pub invariant-loop-tag : goal.invariant-loop-tag
invariant-loop-tag g l = l.state ≡ fold g.H.Hasher.write l.initial.state (flat_map tag_writes (take l.tag-index l.tags))
