use Rattle.mr_picture.proofs.Common.{◌≡◌, flat_map, take}
use Rattle.mr_picture.specs.Steps.{joined}
use Rattle.mr_picture.proofs.steps.on_one_line.Given as goal

-- the bytes before this one are there
abbrev pub invariant-loop-byte : goal.invariant-loop-byte
invariant-loop-byte l = l.out.items ≡ flat_map joined (take l.byte-index l.text)
