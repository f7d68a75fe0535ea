use Rattle.mr_runs.proofs.Common.{◌≡◌, ℕ, ◌+◌, ◌≤◌, List, ◌++◌, length, map, take, AbstractByte, IsBegun, SeenPiece, total_len, without_number}
use Rattle.mr_runs.proofs.marks.push_marks.Given as goal

abbrev pub invariant-loop-index : goal.invariant-loop-index
invariant-loop-index l =
    (total_len l.row.items ≤ l.at + l.index)
    × ((es : List (ℕ × SeenPiece)) (done : List AbstractByte) → IsBegun es l.initial.row.items done → length done ≡ l.at → IsBegun es l.row.items (done ++ take l.index (map without_number l.bytes)))
