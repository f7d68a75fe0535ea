use Rattle.std.specs.Prelude.{◌≡◌, ◌++◌, take}
use Rattle.mr_svg.specs.Escape.{escaped}
use Rattle.mr_svg.proofs.escape.push_escaped.Given as goal

-- the bytes before this one are written
abbrev pub invariant-loop-byte : goal.invariant-loop-byte
invariant-loop-byte l = l.out.items ≡ l.fn.out.items ++ escaped (take l.byte-index l.text)
