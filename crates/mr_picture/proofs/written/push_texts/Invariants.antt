use Rattle.mr_picture.proofs.Common.{◌≡◌, ◌++◌, flat_map, take}
use Rattle.mr_picture.specs.Written.{text_of}
use Rattle.mr_picture.proofs.written.push_texts.Given as goal

-- the texts of the marks before this one are written
abbrev pub invariant-loop-mark : goal.invariant-loop-mark
invariant-loop-mark l = l.out.items ≡ l.fn.out.items ++ flat_map text_of (take l.mark-index l.marks)
