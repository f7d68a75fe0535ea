use Rattle.mr_traced.proofs.Common.{◌≡◌, ◌++◌, map, take}
use Rattle.mr_traced.specs.Names.{shown_byte}
use Rattle.mr_traced.proofs.naming.push_bytes_of.Given as goal

-- the bytes before this one are shown
abbrev pub invariant-loop-byte : goal.invariant-loop-byte
invariant-loop-byte l = l.out.items ≡ l.fn.out.items ++ map shown_byte (take l.byte-index l.name)
