use Rattle.mr_value.proofs.Common.{◌≡◌, drop, bytes_of_pieces, part, walk, walk_case}
use Rattle.mr_value.proofs.Weights.{tree_weight}
use Rattle.mr_value.proofs.walking.+walk.Given as goal

abbrev pub invariant-loop-case : goal.invariant-loop-case
invariant-loop-case l = record {
  all : walk l.fn.tree (part l.at l.size (bytes_of_pieces l.v)) ≡ walk_case l.number (drop l.case-index l.case-items) l.rest (part l.at l.size (bytes_of_pieces l.v));
}

abbrev pub decreases-walk_at : goal.decreases-walk_at
decreases-walk_at l = tree_weight l.tree.now
