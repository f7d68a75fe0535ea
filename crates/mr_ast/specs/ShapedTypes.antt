-- The numbers that the text form can write, and the types that are made of such numbers.
use Rattle.std.specs.Prelude.{ℕ, ◌^◌, Bool, true, not, ◌&&◌, ◌==◌, nat_lt}
use Rattle.std.specs.List.{list_all}
use Rattle.mr_ast.specs.declared.types.Num.{Num}
use Rattle.mr_ast.specs.declared.types.Tag.{Tag}
use Rattle.mr_ast.specs.declared.types.Tree.{Tree}
use Rattle.mr_ast.specs.declared.types.Tree.TheOpen.{Tree-F}
use Rattle.mr_ast.specs.declared.types.Tree.TheFolds.{fold-Tree}
use Rattle.mr_ast.specs.declared.types.Ty.{Ty}
use Rattle.mr_ast.specs.declared.types.Ty.TheOpen.{Ty-F, Variant-F}
use Rattle.mr_ast.specs.declared.types.Ty.TheFolds.{fold-Ty}
use Rattle.mr_ast.specs.declared.types.Variant.{Variant}

-- sizes, alignments, offsets, counts, chunks, the numbers of fields, raw constants
abbrev pub fits_u64 : ℕ → Bool
fits_u64 n = nat_lt n (2 ^ 64)

-- a sign and a magnitude of at most 128 bits, and not minus 0
abbrev pub is_shaped_num : Num → Bool
is_shaped_num n = nat_lt n.mag (2 ^ 128) && not (n.neg && (n.mag == 0))

-- a tag's offset and number
abbrev pub is_shaped_tag : Tag → Bool
is_shaped_tag t = fits_u64 t.at && is_shaped_num t.number

-- a chunk's offset and length
abbrev pub is_shaped_chunk : ℕ × ℕ → Bool
is_shaped_chunk c = fits_u64 c.0 && fits_u64 c.1

-- one level of a tree, where the answer for each part stands in its place
abbrev pub shaped_tree_step : Tree-F Bool → Bool
shaped_tree_step (Tree-F.Known n) = is_shaped_num n
shaped_tree_step Tree-F.Invalid = true
shaped_tree_step (Tree-F.Branch at int cases other) =
    fits_u64 at && (list_all (λ c. is_shaped_num c.0 && c.1) cases && other)

-- each number of the tree is one that can be written
unfoldable pub is_shaped_tree : Tree → Bool
is_shaped_tree = fold-Tree Bool shaped_tree_step

-- a number of a branch, and the tree for it
abbrev pub is_shaped_case : Num × Tree → Bool
is_shaped_case c = is_shaped_num c.0 && is_shaped_tree c.1

-- one level of a type, where the answer for each part stands in its place
abbrev pub shaped_type_step : Ty-F Bool Bool → Bool
shaped_type_step (Ty-F.Int int) = true
shaped_type_step Ty-F.Bool = true
shaped_type_step Ty-F.Raw = true
shaped_type_step Ty-F.FnPtr = true
shaped_type_step (Ty-F.Ref size align never) = fits_u64 size && fits_u64 align
shaped_type_step (Ty-F.Tuple size align fields) =
    fits_u64 size && (fits_u64 align && list_all (λ f. fits_u64 f.0 && f.1) fields)
shaped_type_step (Ty-F.Array count elem) = fits_u64 count && elem
shaped_type_step (Ty-F.Union size align fields chunks) =
    fits_u64 size && (fits_u64 align && (list_all (λ f. fits_u64 f.0 && f.1) fields && list_all is_shaped_chunk chunks))
shaped_type_step (Ty-F.Enum size align disc variants tree) =
    fits_u64 size && (fits_u64 align && (list_all (λ v. v) variants && is_shaped_tree tree))

-- the same of a variant
abbrev pub shaped_variant_step : Variant-F Bool Bool → Bool
shaped_variant_step v = is_shaped_num v.number && (v.ty && list_all is_shaped_tag v.tags)

-- each number of the type is one that can be written
unfoldable pub is_shaped_type : Ty → Bool
is_shaped_type = fold-Ty Bool Bool shaped_type_step shaped_variant_step

-- an offset, and the type of the field there
abbrev pub is_shaped_field : ℕ × Ty → Bool
is_shaped_field f = fits_u64 f.0 && is_shaped_type f.1

-- a variant's number, type and tags
abbrev pub is_shaped_variant : Variant → Bool
is_shaped_variant v = is_shaped_num v.number && (is_shaped_type v.ty && list_all is_shaped_tag v.tags)
