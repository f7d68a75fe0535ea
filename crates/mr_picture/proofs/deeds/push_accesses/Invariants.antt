use Rattle.mr_picture.proofs.Common.{◌≡◌, ◌++◌, flat_map, range_with_len, seen}
use Rattle.std.specs.Prelude.{option_copied}
use Rattle.mr_picture.specs.Deeds.{deed_back}
use Rattle.mr_picture.proofs.deeds.push_accesses.Given as goal

-- the accesses before this one are told
abbrev pub invariant-loop-back : goal.invariant-loop-back
invariant-loop-back l =
    l.out.items
    ≡ l.fn.out.items
    ++ flat_map (deed_back (seen l.shown) l.here (option_copied l.values) l.accesses) (range_with_len 0 l.back)
