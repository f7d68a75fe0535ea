-- The parts of a list that are compared with one another, and what is asked of each of them alone.
use Rattle.std.specs.Prelude.{ℕ, ◌+◌, Bool, true, false, not, ◌&&◌, ◌||◌, ◌==◌, nat_le, if◌then◌else◌, List, [], ◌∷◌, map}
use Rattle.std.specs.List.Sorted.{IsPermutation, IsSorted}
use Rattle.mr_ast.specs.declared.types.IntType.{IntType}
use Rattle.mr_ast.specs.declared.types.Num.{Num}
use Rattle.mr_ast.specs.declared.types.Tag.{Tag}
use Rattle.mr_ast.specs.declared.types.Tree.{Tree}
use Rattle.mr_ast.specs.declared.types.Ty.{Ty}
use Rattle.mr_ast.specs.declared.types.Variant.{Variant}
use Rattle.mr_ast.specs.Integers.{int_size, is_fitting}
use Rattle.mr_base.specs.Pairs.{pair_cmp}
use Rattle.mr_layout.specs.Sizes.{size_of, align_of}
use Rattle.mr_layout.specs.EnumRules.{is_number_of, is_some_used, is_case, is_tree, meets_tag}

-- a number as a pair: 1 where a minus stands before it, and its magnitude
abbrev pub number_key : Num → ℕ × ℕ
number_key n = ((if n.neg then 1 else 0), n.mag)

-- the number of a variant
abbrev pub variant_key : Variant → ℕ × ℕ
variant_key v = number_key v.number

-- the numbers of the variants, in order
pub record AreKeys (variants : List Variant) (keys : List (ℕ × ℕ)) : Type 0 where
  pub moved : IsPermutation (map variant_key variants) keys
  pub sorted : IsSorted pair_cmp keys

-- the number of a case
abbrev pub case_key : Num × Tree → ℕ × ℕ
case_key c = number_key c.0

-- the bytes of a tag
abbrev pub tag_range : Tag → ℕ × ℕ
tag_range t = (t.at, int_size t.int)

-- the bytes of a field
abbrev pub field_range : ℕ × Ty → ℕ × ℕ
field_range f = (f.0, size_of f.1)

-- a variant has the number of a later one
abbrev pub number_twice : List Variant → Bool
number_twice [] = false
number_twice (v ∷ variants) = is_number_of v.number variants || number_twice variants

-- a case has the number of a later one
abbrev pub case_twice : List (Num × Tree) → Bool
case_twice [] = false
case_twice (c ∷ cases) = is_case c.0 cases || case_twice cases

-- a tag has a byte in common with a later one
abbrev pub tags_meeting : List Tag → Bool
tags_meeting [] = false
tags_meeting (t ∷ tags) = meets_tag t tags || tags_meeting tags

-- each variant has the size and at most the alignment, and a number that fits
abbrev pub each_variant : ℕ → ℕ → IntType → List Variant → Bool
each_variant size align disc [] = true
each_variant size align disc (v ∷ variants) =
    (size_of v.ty == size)
    && (nat_le (align_of v.ty) align && (is_fitting disc v.number && each_variant size align disc variants))

-- each tag lies inside the size, and has a number that fits
abbrev pub are_tags_fitting : ℕ → List Tag → Bool
are_tags_fitting size [] = true
are_tags_fitting size (g ∷ tags) =
    nat_le (g.at + int_size g.int) size && (is_fitting g.int g.number && are_tags_fitting size tags)

-- a byte of a tag is used
abbrev pub is_some_tag_used : Ty → List Tag → Bool
is_some_tag_used t [] = false
is_some_tag_used t (g ∷ tags) = is_some_used t g.at (int_size g.int) || is_some_tag_used t tags

-- of each variant no two tags meet, and each lies inside the size and has a number that fits
abbrev pub are_tags_alone : ℕ → List Variant → Bool
are_tags_alone size [] = true
are_tags_alone size (v ∷ variants) =
    (not (tags_meeting v.tags) && are_tags_fitting size v.tags) && are_tags_alone size variants

-- a byte of a variant's tag is used by the variant's type
abbrev pub is_variant_tag_used : List Variant → Bool
is_variant_tag_used [] = false
is_variant_tag_used (v ∷ variants) = is_some_tag_used v.ty v.tags || is_variant_tag_used variants

-- each case fits and has a tree without a fault
abbrev pub each_case : ℕ → List Variant → IntType → List (Num × Tree) → Bool
each_case size variants i [] = true
each_case size variants i (c ∷ cases) =
    is_fitting i c.0 && (is_tree size variants c.1 && each_case size variants i cases)
