-- What a run freed, in order, so that it need not be gone through for each block.
use Rattle.std.specs.Prelude.{ℕ, List, flat_map, map}
use Rattle.std.specs.List.Sorted.{IsPermutation, IsSorted}
use Rattle.mr_base.specs.declared.byte.AllocId.{AllocId}
use Rattle.mr_base.specs.Pairs.{pair_cmp}
use Rattle.mr_event.specs.Footprint.{Footprint}

-- an identity of an allocation as a pair of numbers
abbrev pub id_pair : AllocId → ℕ × ℕ
id_pair id = (id.thread, id.count)

-- all that these steps freed, as they freed it
abbrev pub freed_pairs : List Footprint → List (ℕ × ℕ)
freed_pairs feet = flat_map (λ foot. map id_pair foot.freed) feet

-- these are all of them, in the order of pairs
pub record AreFreed (feet : List Footprint) (pairs : List (ℕ × ℕ)) : Type 0 where
  pub sorted : IsSorted pair_cmp pairs
  pub moved : IsPermutation (freed_pairs feet) pairs
