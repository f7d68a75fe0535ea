-- The rules of a well-formed type, and the first that is broken.
use Rattle.std.specs.Prelude.{ℕ, zero, suc, ◌+◌, ◌*◌, ◌%◌, ◌^◌, Bool, true, false, not, ◌&&◌, ◌||◌, ◌==◌, nat_lt}
use Rattle.std.specs.Prelude.{nat_le, if◌then◌else◌, List, [], ◌∷◌, Option, Some, None, count_ones}
use Rattle.mr_ast.specs.declared.rule.Rule.{Rule}
use Rattle.mr_ast.specs.declared.rule.Rule.TheVariants.{TypeSize, TypeAlign, FieldOutside, FieldOverlap, SizeMultiple}
use Rattle.mr_ast.specs.declared.rule.Rule.TheVariants.{UnionChunk}
use Rattle.mr_ast.specs.declared.types.Ty.{Ty}
use Rattle.mr_ast.specs.declared.types.Variant.{Variant}
use Rattle.mr_base.specs.Pairs.{is_meeting}
use Rattle.mr_ast.specs.Limits.{max_align, max_size}
use Rattle.mr_layout.specs.Sizes.{size_of}
use Rattle.mr_layout.specs.Used.{is_used, is_in_chunk}

-- a rule where it is broken, or else what comes after it
abbrev pub rule : Rule → Bool → Option Rule → Option Rule
rule r broken next = if broken then Some r else next

-- the first of two
abbrev pub or_else : Option Rule → Option Rule → Option Rule
or_else None next = next
or_else (Some r) next = Some r

-- a size or a count passes the limit
abbrev pub is_large : ℕ → Bool
is_large n = nat_lt max_size n

-- a power of two of at most 4096
abbrev pub is_align : ℕ → Bool
is_align n = (count_ones n == 1) && nat_le n max_align

-- a field passes the size
abbrev pub is_past : ℕ → List (ℕ × Ty) → Bool
is_past size [] = false
is_past size (f ∷ fields) = nat_lt size (f.0 + size_of f.1) || is_past size fields

-- a range has a byte in common with one of these fields
abbrev pub meets_any : ℕ → ℕ → List (ℕ × Ty) → Bool
meets_any start len [] = false
meets_any start len (f ∷ fields) = is_meeting start len f.0 (size_of f.1) || meets_any start len fields

-- two of these fields have a byte in common
abbrev pub is_overlapping : List (ℕ × Ty) → Bool
is_overlapping [] = false
is_overlapping (f ∷ fields) = meets_any f.0 (size_of f.1) fields || is_overlapping fields

-- the first broken rule of a tuple, whose fields break none
unfoldable pub tuple_rules : ℕ → ℕ → List (ℕ × Ty) → Option Rule
tuple_rules size align fields =
    rule TypeSize (is_large size) (rule TypeAlign (not (is_align align)) (rule FieldOutside (is_past size fields)
    (rule FieldOverlap (is_overlapping fields) (rule SizeMultiple (not (size % align == 0)) None))))

-- the first broken rule of a reference
unfoldable pub ref_rules : ℕ → ℕ → Option Rule
ref_rules size align = rule TypeSize (not (nat_lt size (2 ^ 63))) (rule TypeAlign (not (is_align align)) None)

-- the first broken rule of an array, whose element breaks none
unfoldable pub array_rules : ℕ → Ty → Option Rule
array_rules count elem = rule TypeSize (is_large count || is_large (count * size_of elem)) None

-- a chunk passes the size
abbrev pub is_chunk_past : ℕ → List (ℕ × ℕ) → Bool
is_chunk_past size [] = false
is_chunk_past size (c ∷ chunks) = nat_lt size (c.0 + c.1) || is_chunk_past size chunks

-- each chunk begins after the start of the one before
abbrev pub is_rising_after : ℕ → List (ℕ × ℕ) → Bool
is_rising_after start [] = true
is_rising_after start (c ∷ chunks) = nat_lt start c.0 && is_rising_after c.0 chunks

-- each chunk begins after the one before
abbrev pub is_rising : List (ℕ × ℕ) → Bool
is_rising [] = true
is_rising (c ∷ chunks) = is_rising_after c.0 chunks

-- a range has a byte in common with one of these chunks
abbrev pub meets_chunk : ℕ → ℕ → List (ℕ × ℕ) → Bool
meets_chunk start len [] = false
meets_chunk start len (c ∷ chunks) = is_meeting start len c.0 c.1 || meets_chunk start len chunks

-- two of these chunks have a byte in common
abbrev pub is_chunk_overlapping : List (ℕ × ℕ) → Bool
is_chunk_overlapping [] = false
is_chunk_overlapping (c ∷ chunks) = meets_chunk c.0 c.1 chunks || is_chunk_overlapping chunks

-- of the first bytes of a part, each used one is in a chunk
abbrev pub is_covered : ℕ → Ty → List (ℕ × ℕ) → ℕ → Bool
is_covered start t chunks zero = true
is_covered start t chunks (suc n) = is_covered start t chunks n && (not (is_used t n) || is_in_chunk chunks (start + n))

-- each used byte of each field is in a chunk
abbrev pub are_covered : List (ℕ × Ty) → List (ℕ × ℕ) → Bool
are_covered [] chunks = true
are_covered (f ∷ fields) chunks = is_covered f.0 f.1 chunks (size_of f.1) && are_covered fields chunks

-- the first broken rule of a union, whose fields break none
unfoldable pub union_rules : ℕ → ℕ → List (ℕ × Ty) → List (ℕ × ℕ) → Option Rule
union_rules size align fields chunks =
    rule TypeSize (is_large size) (rule TypeAlign (not (is_align align))
    (rule FieldOutside (is_past size fields || is_chunk_past size chunks)
    (rule SizeMultiple (not (size % align == 0)) (rule UnionChunk
    (not (is_rising chunks && (not (is_chunk_overlapping chunks) && are_covered fields chunks))) None))))

-- the first broken rule of these fields
abbrev pub first_field : List (ℕ × (Ty × Option Rule)) → Option Rule
first_field [] = None
first_field (f ∷ fields) = or_else f.1.1 (first_field fields)

-- the first broken rule of these variants
abbrev pub first_variant : List (Variant × Option Rule) → Option Rule
first_variant [] = None
first_variant (v ∷ variants) = or_else v.1 (first_variant variants)

-- the types alone
abbrev pub field_types : List (ℕ × (Ty × Option Rule)) → List (ℕ × Ty)
field_types [] = []
field_types (f ∷ fields) = (f.0, f.1.0) ∷ field_types fields

-- the variants alone
abbrev pub variant_types : List (Variant × Option Rule) → List Variant
variant_types [] = []
variant_types (v ∷ variants) = v.0 ∷ variant_types variants
