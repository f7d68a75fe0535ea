use Rattle.mr_runs.proofs.Common.{◌≡◌, ℕ, ◌+◌, ◌≤◌, List, ◌++◌, length, take, AbstractByte, IsBegun, SeenPiece, total_len}
use Rattle.mr_runs.proofs.row.push_each.Given as goal

abbrev pub invariant-loop-index : goal.invariant-loop-index
invariant-loop-index l = (total_len l.row.items ≤ l.at + l.index) × ((es : List (ℕ × SeenPiece)) (done : List AbstractByte) → IsBegun es l.initial.row.items done → length done ≡ l.at → IsBegun es l.row.items (done ++ take l.index l.bytes))
