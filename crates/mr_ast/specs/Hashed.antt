-- What is written of a type into a hasher: all of it, in numbers, and each level behind the number of its kind.
use Rattle.std.specs.Prelude.{ℕ, Bool, true, false, ◌++◌}
use Rattle.std.specs.Hash as fed
use Rattle.std.specs.Hash.{HashWrites}
use Rattle.mr_ast.specs.declared.types.IntType.{IntType}
use Rattle.mr_ast.specs.declared.types.Num.{Num}
use Rattle.mr_ast.specs.declared.types.Tag.{Tag}
use Rattle.mr_ast.specs.declared.types.Tree.{Tree}
use Rattle.mr_ast.specs.declared.types.Tree.TheOpen.{Tree-F}
use Rattle.mr_ast.specs.declared.types.Tree.TheFolds.{fold-Tree}
use Rattle.mr_ast.specs.declared.types.Ty.{Ty}
use Rattle.mr_ast.specs.declared.types.Ty.TheOpen.{Ty-F, Variant-F}
use Rattle.mr_ast.specs.declared.types.Ty.TheFolds.{fold-Ty}
use Rattle.mr_ast.specs.declared.types.Variant.{Variant}
use Rattle.mr_ast.specs.Integers.{int_size, is_signed}

-- what is so is written as 1, and what isn't as 0
abbrev pub truth_number : Bool → ℕ
truth_number false = 0
truth_number true = 1

-- an integer type is told by its size and its sign
abbrev pub int_writes : IntType → HashWrites
int_writes i = fed.u64 (int_size i) ++ fed.u64 (truth_number (is_signed i))

-- a number as whether a minus stands before it, and its magnitude
abbrev pub num_writes : Num → HashWrites
num_writes n = fed.u64 (truth_number n.neg) ++ fed.u128 n.mag

-- a tag as its offset, its type, and its number
abbrev pub tag_writes : Tag → HashWrites
tag_writes t = fed.u64 t.at ++ (int_writes t.int ++ num_writes t.number)

-- a chunk as its offset and its length
abbrev pub chunk_writes : ℕ × ℕ → HashWrites
chunk_writes c = fed.u64 c.0 ++ fed.u64 c.1

-- a number of a branch, and what is written of the tree for it
abbrev pub case_step : Num × HashWrites → HashWrites
case_step c = num_writes c.0 ++ c.1

-- one level of a tree, where what is written of each part stands in its place
abbrev pub tree_step : Tree-F HashWrites → HashWrites
tree_step (Tree-F.Known n) = fed.u64 0 ++ num_writes n
tree_step Tree-F.Invalid = fed.u64 1
tree_step (Tree-F.Branch at int cases other) =
    fed.u64 2 ++ (fed.u64 at ++ (int_writes int ++ (fed.slice case_step cases ++ other)))

-- what is written of a tree
unfoldable pub tree_writes : Tree → HashWrites
tree_writes = fold-Tree HashWrites tree_step

-- a number of a branch, and the tree for it
abbrev pub case_writes : Num × Tree → HashWrites
case_writes c = num_writes c.0 ++ tree_writes c.1

-- the number of a kind, the size, and the alignment
abbrev pub head_writes : ℕ → ℕ → ℕ → HashWrites
head_writes kind size align = fed.u64 kind ++ (fed.u64 size ++ fed.u64 align)

-- the offset of a field, and what is written of its type
abbrev pub field_step : ℕ × HashWrites → HashWrites
field_step f = fed.u64 f.0 ++ f.1

-- one level of a type, where what is written of each part stands in its place
abbrev pub type_step : Ty-F HashWrites HashWrites → HashWrites
type_step (Ty-F.Int i) = fed.u64 0 ++ int_writes i
type_step Ty-F.Bool = fed.u64 1
type_step Ty-F.Raw = fed.u64 2
type_step Ty-F.FnPtr = fed.u64 3
type_step (Ty-F.Ref size align never) = head_writes 4 size align ++ fed.u64 (truth_number never)
type_step (Ty-F.Tuple size align fields) = head_writes 5 size align ++ fed.slice field_step fields
type_step (Ty-F.Array count elem) = fed.u64 6 ++ (fed.u64 count ++ elem)
type_step (Ty-F.Union size align fields chunks) =
    head_writes 7 size align ++ (fed.slice field_step fields ++ fed.slice chunk_writes chunks)
type_step (Ty-F.Enum size align disc variants tree) =
    head_writes 8 size align ++ (int_writes disc ++ (fed.slice (λ v. v) variants ++ tree_writes tree))

-- the same of a variant: its number, its type, and its tags
abbrev pub variant_step : Variant-F HashWrites HashWrites → HashWrites
variant_step v = num_writes v.number ++ (v.ty ++ fed.slice tag_writes v.tags)

-- what is written of a type
unfoldable pub type_writes : Ty → HashWrites
type_writes = fold-Ty HashWrites HashWrites type_step variant_step

-- a field as its offset, and its type
abbrev pub field_writes : ℕ × Ty → HashWrites
field_writes f = fed.u64 f.0 ++ type_writes f.1

-- a variant as its number, its type, and its tags
abbrev pub variant_writes : Variant → HashWrites
variant_writes v = num_writes v.number ++ (type_writes v.ty ++ fed.slice tag_writes v.tags)
