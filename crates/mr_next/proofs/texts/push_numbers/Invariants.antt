use Rattle.mr_next.proofs.Common.{◌≡◌, ◌++◌, flat_map, take}
use Rattle.mr_next.specs.Texts.{blank_number}
use Rattle.mr_next.proofs.texts.push_numbers.Given as goal

-- the numbers before this one are written
abbrev pub invariant-loop-number : goal.invariant-loop-number
invariant-loop-number l =
    l.out.items ≡ l.fn.out.items ++ flat_map blank_number (take l.number-index l.numbers)
