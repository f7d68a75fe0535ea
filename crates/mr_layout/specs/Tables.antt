-- A table with a number for each byte, which is 0 where the byte bears no mark, and what a step marks in it.
use Rattle.std.specs.Prelude.{◌≡◌, ℕ, zero, suc, ◌+◌, ◌*◌, ◌%◌, ◌<◌, Bool, true, false, ◌&&◌, ◌||◌, nat_lt, nat_le}
use Rattle.std.specs.Prelude.{List, [], ◌∷◌, length, Option, Some, None, Result, Ok, Err}
use Rattle.mr_ast.specs.declared.rule.Rule.{Rule}
use Rattle.mr_ast.specs.declared.types.Tag.{Tag}
use Rattle.mr_ast.specs.declared.types.Ty.{Ty}
use Rattle.mr_ast.specs.Integers.{int_size}
use Rattle.mr_layout.specs.Sizes.{size_of}
use Rattle.mr_layout.specs.Used.{Use, is_in_part, is_used}
use Rattle.mr_layout.specs.Marks.{is_mark}

-- a step marks what a part uses that begins at an offset, and leaves the other marks as they were
pub record Marks (part : Use) (start : ℕ) (old new : List ℕ) : Type 0 where
  pub long : length new ≡ length old
  pub marks : (k : ℕ) → k < length old → is_mark new k ≡ (is_mark old k || is_in_part start part k)

-- the first bytes of a part
abbrev pub is_first : ℕ → Use
is_first len at = nat_lt at len

-- the used bytes of so many elements in a row
abbrev pub is_used_row : ℕ → Ty → Use
is_used_row count elem at = nat_lt at (count * size_of elem) && is_used elem (at % size_of elem)

-- the marks of a table, over and over to an end
abbrev pub is_row_mark : List ℕ → ℕ → Use
is_row_mark row bytes at = nat_lt at bytes && is_mark row (at % length row)

-- behind an offset each of these tags ends before an end
abbrev pub are_tags_inside : ℕ → ℕ → List Tag → Bool
are_tags_inside start end [] = true
are_tags_inside start end (g ∷ tags) = nat_le ((start + g.at) + int_size g.int) end && are_tags_inside start end tags

-- one of some bytes in a row is marked
abbrev pub is_some_mark : List ℕ → ℕ → ℕ → Bool
is_some_mark table start zero = false
is_some_mark table start (suc n) = is_some_mark table start n || is_mark table (start + n)

-- a byte of one of these tags is marked, behind an offset
abbrev pub is_some_tag_mark : List ℕ → ℕ → List Tag → Bool
is_some_tag_mark table start [] = false
is_some_tag_mark table start (g ∷ tags) =
    is_some_mark table (start + g.at) (int_size g.int) || is_some_tag_mark table start tags

-- the rule that was found to be broken, if one was
abbrev pub rule_of : {A : Type 0} → Result A Rule → Option Rule
rule_of (Ok x) = None
rule_of (Err rule) = Some rule

-- one of two, where both are known
abbrev pub either : Option Bool → Option Bool → Option Bool
either (Some a) (Some b) = Some (a || b)
either (Some a) None = None
either None b = None
