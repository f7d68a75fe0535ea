-- A range of a list, replaced.
use Rattle.std.specs.Prelude.{ℕ, ◌+◌, List, ◌++◌, length, take, drop}

-- the old list, with just as many items from the position `from` on as there are new ones replaced by these
abbrev pub with_range_replaced : {X : Type 0} → List X → ℕ → List X → List X
with_range_replaced old from new = take from old ++ new ++ drop (from + length new) old
