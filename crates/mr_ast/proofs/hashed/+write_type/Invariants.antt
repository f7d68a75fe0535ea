use Rattle.mr_ast.proofs.Common.{◌≡◌, take, fold, flat_map, field_writes, variant_writes}
use Rattle.mr_ast.proofs.hashed.+write_type.Given as goal

abbrev pub invariant-write_fields-loop-field : goal.invariant-write_fields-loop-field
invariant-write_fields-loop-field g l = l.state ≡ fold g.H.Hasher.write l.initial.state (flat_map field_writes (take l.field-index l.fields))

abbrev pub invariant-write_variants-loop-variant : goal.invariant-write_variants-loop-variant
invariant-write_variants-loop-variant g l = l.state ≡ fold g.H.Hasher.write l.initial.state (flat_map variant_writes (take l.variant-index l.variants))
