use Rattle.mr_ast.proofs.Common.{◌≡◌, take, fold, flat_map, case_writes}
use Rattle.mr_ast.proofs.hashed.+write_tree.Given as goal

abbrev pub invariant-write_cases-loop-case : goal.invariant-write_cases-loop-case
invariant-write_cases-loop-case g l = l.state ≡ fold g.H.Hasher.write l.initial.state (flat_map case_writes (take l.case-index l.cases))
