use Rattle.mr_start.proofs.Common.{◌≡◌, ◌++◌, map, drop, None, fault_over, piece_of, placed}
use Rattle.std.specs.FinMap as fin
use Rattle.mr_start.proofs.StartStores.{AreCounted}
use Rattle.mr_start.proofs.placing.place.Given as goal

-- the identities so far, and what the pieces and picks that are left come to
abbrev pub invariant-loop-count : goal.invariant-loop-count
invariant-loop-count l =
    let pieces = map piece_of l.pieces in
    let left = map piece_of (drop l.count l.pieces) in
    let rest = placed l.memory l.count left (drop l.count l.picks) in
    record {
      counted : AreCounted l.memory l.count;
      legal : fault_over l.memory l.count left (drop l.count l.picks) ≡ None;
      memory : (placed fin.empty 0 pieces l.picks).memory ≡ rest.memory;
      pointers : (placed fin.empty 0 pieces l.picks).pointers ≡ l.pointers.items ++ rest.pointers;
    }
