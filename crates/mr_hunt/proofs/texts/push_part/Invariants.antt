use Rattle.mr_hunt.proofs.Common.{◌≡◌, ◌++◌, flat_map, take}
use Rattle.mr_listing.specs.Seen.{seen}
use Rattle.mr_hunt.specs.Texts.{line_in}
use Rattle.mr_hunt.proofs.texts.push_part.Given as goal

-- the rows before this one have their lines
abbrev pub invariant-loop-row : goal.invariant-loop-row
invariant-loop-row l = l.out.items ≡ l.fn.out.items ++ flat_map (line_in (seen l.shown) l.part) (take l.row-index l.rows)
