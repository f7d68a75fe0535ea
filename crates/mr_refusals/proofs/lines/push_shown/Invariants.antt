use Rattle.std.proofs.Common.{◌≡◌, ◌++◌, map, take}
use Rattle.mr_refusals.specs.Lines.{shown_byte}
use Rattle.mr_refusals.proofs.lines.push_shown.Given as goal

-- the bytes before this one are shown
abbrev pub invariant-loop-byte : goal.invariant-loop-byte
invariant-loop-byte l = l.out.items ≡ l.fn.out.items ++ map shown_byte (take l.byte-index l.bytes)
