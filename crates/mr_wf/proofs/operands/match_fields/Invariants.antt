use Rattle.mr_wf.proofs.Common.{◌≡◌, drop, map, ty_of}
use Rattle.mr_typing.specs.Operands.{match_fields}
use Rattle.mr_wf.proofs.operands.match_fields.Given as goal

abbrev pub invariant-loop-field : goal.invariant-loop-field
invariant-loop-field l = match_fields l.fields (map ty_of l.types) ≡ match_fields (drop l.field-index l.fields) (map ty_of l.left)
