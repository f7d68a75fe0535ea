-- The canonical words of types: those of the text in which a type is printed.
use Rattle.std.specs.Prelude.{ℕ, Bool, ◌&&◌, ◌==◌, if◌then◌else◌, List, [], ◌∷◌, ◌++◌, length, map, flat_map, codes}
use Rattle.std.specs.Prelude.{decimal}
use Rattle.mr_ast.specs.declared.types.IntType.{IntType}
use Rattle.mr_ast.specs.declared.types.IntType.TheVariants.{U8, U16, U32, U64, U128, I8, I16, I32, I64, I128}
use Rattle.mr_ast.specs.declared.types.Num.{Num}
use Rattle.mr_ast.specs.declared.types.Tag.{Tag}
use Rattle.mr_ast.specs.declared.types.Tree.{Tree}
use Rattle.mr_ast.specs.declared.types.Tree.TheOpen.{Tree-F}
use Rattle.mr_ast.specs.declared.types.Tree.TheFolds.{fold-Tree}
use Rattle.mr_ast.specs.declared.types.Ty.{Ty}
use Rattle.mr_ast.specs.declared.types.Ty.TheOpen.{Ty-F, Variant-F}
use Rattle.mr_ast.specs.declared.types.Ty.TheFolds.{fold-Ty}
use Rattle.mr_ast.specs.declared.types.Variant.{Variant}
use Rattle.mr_ast.specs.Words.{Texts}

-- the word of an integer type
abbrev pub int_word : IntType → List ℕ
int_word U8 = codes "u8"
int_word U16 = codes "u16"
int_word U32 = codes "u32"
int_word U64 = codes "u64"
int_word U128 = codes "u128"
int_word I8 = codes "i8"
int_word I16 = codes "i16"
int_word I32 = codes "i32"
int_word I64 = codes "i64"
int_word I128 = codes "i128"

-- a minus where there is one, and the magnitude in decimal: two words for a negative number
abbrev pub num_words : Num → Texts
num_words n = if n.neg then codes "-" ∷ decimal n.mag ∷ [] else decimal n.mag ∷ []

-- rows of words with a comma between two of them
abbrev pub with_commas : List Texts → Texts
with_commas [] = []
with_commas (row ∷ rows) = row ++ flat_map (λ r. codes "," ∷ r) rows

-- such rows in curly brackets
abbrev pub braced : List Texts → Texts
braced rows = codes "{" ∷ with_commas rows ++ codes "}" ∷ []

-- the words of a size and an alignment
abbrev pub shape_words : ℕ → ℕ → Texts
shape_words size align = codes "size" ∷ decimal size ∷ codes "align" ∷ decimal align ∷ []

-- the words of a chunk
abbrev pub chunk_words : ℕ × ℕ → Texts
chunk_words c = decimal c.0 ∷ decimal c.1 ∷ []

-- the words of a tag
abbrev pub tag_words : Tag → Texts
tag_words t = decimal t.at ∷ codes ":" ∷ int_word t.int ∷ codes "=" ∷ num_words t.number

-- a number of a branch, and the words of the tree for it
abbrev pub case_row : Num × Texts → Texts
case_row c = num_words c.0 ++ codes "=>" ∷ c.1 ++ codes "," ∷ []

-- one level of a tree, where the words of each part stand in its place
abbrev pub tree_words_step : Tree-F Texts → Texts
tree_words_step (Tree-F.Known n) = codes "known" ∷ num_words n
tree_words_step Tree-F.Invalid = codes "invalid" ∷ []
tree_words_step (Tree-F.Branch at int cases other) =
    codes "branch" ∷ decimal at ∷ int_word int ∷ codes "{" ∷ flat_map case_row cases ++ codes "_" ∷ codes "=>" ∷ other
    ++ codes "}" ∷ []

-- the words of a tree
unfoldable pub words_of_tree : Tree → Texts
words_of_tree = fold-Tree Texts tree_words_step

-- a field: its offset, and the words of its type
abbrev pub field_row : ℕ × Texts → Texts
field_row f = decimal f.0 ∷ codes ":" ∷ f.1

-- the empty tuple of size 0 and alignment 1 has a word of its own
abbrev pub is_unit : ℕ → ℕ → ℕ → Bool
is_unit size align fields = size == 0 && (align == 1 && fields == 0)

-- one level of a type, where the words of each part stand in its place
abbrev pub type_words_step : Ty-F Texts Texts → Texts
type_words_step (Ty-F.Int i) = int_word i ∷ []
type_words_step Ty-F.Bool = codes "bool" ∷ []
type_words_step Ty-F.Raw = codes "raw" ∷ []
type_words_step Ty-F.FnPtr = codes "fnptr" ∷ []
type_words_step (Ty-F.Ref size align never) =
    codes "ref" ∷ decimal size ∷ decimal align ∷ (if never then codes "never" ∷ [] else [])
type_words_step (Ty-F.Tuple size align fields) =
    if is_unit size align (length fields) then codes "unit" ∷ []
    else codes "tuple" ∷ shape_words size align ++ braced (map field_row fields)
type_words_step (Ty-F.Array count elem) = codes "array" ∷ codes "(" ∷ decimal count ∷ codes "," ∷ elem ++ codes ")" ∷ []
type_words_step (Ty-F.Union size align fields chunks) =
    codes "union" ∷ shape_words size align ++ braced (map field_row fields) ++ codes "chunks"
    ∷ braced (map chunk_words chunks)
type_words_step (Ty-F.Enum size align disc variants tree) =
    codes "enum" ∷ shape_words size align ++ codes "disc" ∷ int_word disc ∷ braced variants ++ words_of_tree tree

-- the same of a variant
abbrev pub variant_words_step : Variant-F Texts Texts → Texts
variant_words_step v = num_words v.number ++ codes ":" ∷ v.ty ++ codes "tag" ∷ braced (map tag_words v.tags)

-- the words of a type
unfoldable pub words_of_type : Ty → Texts
words_of_type = fold-Ty Texts Texts type_words_step variant_words_step

-- a number of a branch, and the tree for it
abbrev pub case_words : Num × Tree → Texts
case_words c = case_row (c.0, words_of_tree c.1)

-- a field's offset and type
abbrev pub field_words : ℕ × Ty → Texts
field_words f = field_row (f.0, words_of_type f.1)

-- a variant's number, type and tags
abbrev pub variant_words : Variant → Texts
variant_words v = num_words v.number ++ codes ":" ∷ words_of_type v.ty ++ codes "tag" ∷ braced (map tag_words v.tags)
