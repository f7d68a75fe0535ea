-- Whether ranges of bytes meet the used bytes of a type, and the bytes of a union that are in none of its chunks.
use Rattle.std.specs.Prelude.{ℕ, zero, suc, ◌+◌, ◌-◌, ◌%◌, ◌^◌, Bool, true, false, not, ◌&&◌, ◌||◌, nat_lt, nat_le}
use Rattle.std.specs.Prelude.{if◌then◌else◌, List, [], ◌∷◌}
use Rattle.mr_ast.specs.declared.types.Tag.{Tag}
use Rattle.mr_ast.specs.declared.types.Ty.{Ty}
use Rattle.mr_ast.specs.declared.types.Variant.{Variant}
use Rattle.mr_ast.specs.Integers.{int_size}
use Rattle.mr_layout.specs.Sizes.{size_of}
use Rattle.mr_layout.specs.Used.{Use, is_in, is_in_part, is_in_chunk, is_used}

-- whether a test holds of a number below an end
abbrev pub is_some_below : (ℕ → Bool) → ℕ → Bool
is_some_below test zero = false
is_some_below test (suc n) = is_some_below test n || test n

-- of a part that begins at an offset, a used byte before an end lies in one of these ranges
unfoldable pub is_met : Use → ℕ → ℕ → List (ℕ × ℕ) → Bool
is_met part start end ranges = is_some_below (λ at. is_in_part start part at && is_in_chunk ranges at) end

-- of a range of bytes, one before an end lies in one of these ranges
unfoldable pub is_run_met : ℕ → ℕ → ℕ → List (ℕ × ℕ) → Bool
is_run_met start len end ranges = is_some_below (λ at. is_in start len at && is_in_chunk ranges at) end

-- the same of some of these fields, in a tuple that begins at an offset
abbrev pub is_field_met : List (ℕ × Ty) → ℕ → ℕ → List (ℕ × ℕ) → Bool
is_field_met [] start end ranges = false
is_field_met (f ∷ fields) start end ranges =
    is_met (is_used f.1) (start + f.0) end ranges || is_field_met fields start end ranges

-- the same of some of these chunks
abbrev pub is_chunk_met : List (ℕ × ℕ) → ℕ → ℕ → List (ℕ × ℕ) → Bool
is_chunk_met [] start end ranges = false
is_chunk_met (c ∷ chunks) start end ranges =
    is_run_met (start + c.0) c.1 end ranges || is_chunk_met chunks start end ranges

-- the same of some of these tags
abbrev pub is_tag_met : List Tag → ℕ → ℕ → List (ℕ × ℕ) → Bool
is_tag_met [] start end ranges = false
is_tag_met (t ∷ tags) start end ranges =
    is_run_met (start + t.at) (int_size t.int) end ranges || is_tag_met tags start end ranges

-- the same of some of these variants
abbrev pub is_variant_met : List Variant → ℕ → ℕ → List (ℕ × ℕ) → Bool
is_variant_met [] start end ranges = false
is_variant_met (v ∷ variants) start end ranges =
    (is_met (is_used v.ty) start end ranges || is_tag_met v.tags start end ranges)
    || is_variant_met variants start end ranges

-- of elements of a length in a row, a used byte lies from one offset to another and before an end
unfoldable pub is_row_met : Use → ℕ → ℕ → ℕ → ℕ → Bool
is_row_met part len from to end = is_some_below (λ at. nat_le from at && (nat_lt at to && part (at % len))) end

-- the same of some of these ranges, of elements in a row that begin at an offset and stop at another
abbrev pub are_rows_met : Use → ℕ → ℕ → ℕ → List (ℕ × ℕ) → Bool
are_rows_met part len start stop [] = false
are_rows_met part len start stop (r ∷ ranges) =
    is_row_met part len (r.0 - start) ((r.0 + r.1) - start) (stop - start) || are_rows_met part len start stop ranges

-- each range has a byte, ends at 2^64 or before, and begins where the one before ends, or behind
abbrev pub is_in_order_after : ℕ → List (ℕ × ℕ) → Bool
is_in_order_after low [] = true
is_in_order_after low (r ∷ ranges) =
    nat_le low r.0 && (nat_lt 0 r.1 && (nat_le (r.0 + r.1) (2 ^ 64) && is_in_order_after (r.0 + r.1) ranges))

-- the same from the first range on
abbrev pub is_in_order : List (ℕ × ℕ) → Bool
is_in_order ranges = is_in_order_after 0 ranges

-- the ranges from the first that ends behind a byte on
abbrev pub ranges_past : ℕ → List (ℕ × ℕ) → List (ℕ × ℕ)
ranges_past at [] = []
ranges_past at (r ∷ ranges) = if nat_le (r.0 + r.1) at then ranges_past at ranges else r ∷ ranges

-- where what was looked at ends, once a chunk is looked at too
abbrev pub end_of : ℕ → ℕ × ℕ → ℕ
end_of at c = if nat_lt at (c.0 + c.1) then c.0 + c.1 else at

-- the ranges between these chunks, from an offset to an end
abbrev pub gaps_from : ℕ → ℕ → List (ℕ × ℕ) → List (ℕ × ℕ)
gaps_from at end [] = (at, end - at) ∷ []
gaps_from at end (c ∷ chunks) = (at, c.0 - at) ∷ gaps_from (end_of at c) end chunks

-- no used byte of these fields, each to its end, lies in one of these ranges
abbrev pub are_outside : List (ℕ × Ty) → List (ℕ × ℕ) → Bool
are_outside [] ranges = true
are_outside (f ∷ fields) ranges = not (is_met (is_used f.1) f.0 (f.0 + size_of f.1) ranges) && are_outside fields ranges
