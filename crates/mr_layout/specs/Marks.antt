-- Whether a part uses a marked byte of a table that begins where the part does, with a number for each byte: 0 where it
-- bears no mark.
use Rattle.std.specs.Prelude.{ℕ, Bool, true, false, not, ◌&&◌, ◌||◌, nat_lt, List, [], ◌∷◌, length, slice_index, take, drop}
use Rattle.mr_ast.specs.declared.types.Tag.{Tag}
use Rattle.mr_ast.specs.declared.types.Ty.{Ty}
use Rattle.mr_ast.specs.declared.types.Variant.{Variant}
use Rattle.mr_ast.specs.Integers.{int_size}
use Rattle.mr_layout.specs.Sizes.{size_of}
use Rattle.mr_layout.specs.Used.{Use, is_used}
use Rattle.mr_layout.specs.Met.{is_some_below}

-- each byte is used
abbrev pub every : Use
every at = true

-- a byte of a table bears a mark
abbrev pub is_mark : List ℕ → ℕ → Bool
is_mark table at = nat_lt 0 (slice_index table at)

-- a used byte of a part bears a mark
unfoldable pub is_marked : Use → List ℕ → Bool
is_marked part table = is_some_below (λ at. part at && is_mark table at) (length table)

-- one of some bytes in a row bears a mark
abbrev pub is_run_marked : ℕ → ℕ → List ℕ → Bool
is_run_marked start len table = is_marked every (take len (drop start table))

-- a used byte of some of these fields bears a mark
abbrev pub is_field_marked : List (ℕ × Ty) → List ℕ → Bool
is_field_marked [] table = false
is_field_marked (f ∷ fields) table = is_marked (is_used f.1) (drop f.0 table) || is_field_marked fields table

-- a byte of some of these chunks bears a mark
abbrev pub is_chunk_marked : List (ℕ × ℕ) → List ℕ → Bool
is_chunk_marked [] table = false
is_chunk_marked (c ∷ chunks) table = is_run_marked c.0 c.1 table || is_chunk_marked chunks table

-- a byte of some of these tags bears a mark
abbrev pub is_tag_marked : List Tag → List ℕ → Bool
is_tag_marked [] table = false
is_tag_marked (t ∷ tags) table = is_run_marked t.at (int_size t.int) table || is_tag_marked tags table

-- a used byte of some of these variants, or one of their tags, bears a mark
abbrev pub is_variant_marked : List Variant → List ℕ → Bool
is_variant_marked [] table = false
is_variant_marked (v ∷ variants) table =
    (is_marked (is_used v.ty) table || is_tag_marked v.tags table) || is_variant_marked variants table

-- no used byte of these fields, each to its end, bears a mark
abbrev pub are_unmarked : List (ℕ × Ty) → List ℕ → Bool
are_unmarked [] table = true
are_unmarked (f ∷ fields) table =
    not (is_marked (is_used f.1) (take (size_of f.1) (drop f.0 table))) && are_unmarked fields table
