-- How types are written.
use Rattle.std.specs.Prelude.{ℕ, true, false, List, [], codes, Option, None, Some}
use Rattle.mr_ast.specs.declared.types.Num.{Num}
use Rattle.mr_ast.specs.declared.types.Tag.{Tag}
use Rattle.mr_ast.specs.declared.types.Tree.{Tree}
use Rattle.mr_ast.specs.declared.types.Tree.TheVariants as tree
use Rattle.mr_ast.specs.declared.types.Ty.{Ty}
use Rattle.mr_ast.specs.declared.types.Ty.TheVariants as ty
use Rattle.mr_ast.specs.declared.types.Variant.{Variant}
use Rattle.mr_ast.specs.declared.words.TypeWord.{TypeWord}
use Rattle.mr_ast.specs.declared.words.TypeWord.TheVariants as type_word
use Rattle.mr_ast.specs.declared.words.TreeWord.{TreeWord}
use Rattle.mr_ast.specs.declared.words.TreeWord.TheVariants as tree_word
use Rattle.mr_ast.specs.Forms.{Word, Empty, Then, Cases, Either, Many, Part}
use Rattle.mr_ast.specs.declared.words.Bracket.TheVariants.{Round, Curly}
use Rattle.mr_ast.specs.Words.{looked_up, int_words, type_words, tree_words}
use Rattle.mr_ast.specs.Writing.{Judged, TheTree, TheType, Writing, fine, giving, int_form, is_word, listed, num_form}
use Rattle.mr_ast.specs.Writing.{other_than, separated, u64_form, within, word, ◌▪◌, ◌▸◌, ◌◂◌}

-- a size and an alignment
pub record Shape : Type 0 where
  pub size : ℕ
  pub align : ℕ

-- a size and an alignment
unfoldable pub shape_form : Writing Shape
shape_form =
    Then (λ size align. record { size = size; align = align }) (codes "size" ▸ u64_form) (codes "align" ▸ u64_form)

-- a field of a type: its offset and its type
unfoldable pub field_form : Writing (ℕ × Ty)
field_form = u64_form ◂ codes ":" ▪ Part TheType

-- the fields of a type
unfoldable pub fields_form : Writing (List (ℕ × Ty))
fields_form = separated field_form

-- a chunk
unfoldable pub chunk_form : Writing (ℕ × ℕ)
chunk_form = u64_form ▪ u64_form

-- the chunks of a union
unfoldable pub chunks_form : Writing (List (ℕ × ℕ))
chunks_form = separated chunk_form

-- a tag
unfoldable pub tag_form : Writing Tag
tag_form =
    Then (λ at rest. record { at = at; int = rest.0; number = rest.1 })
    (u64_form ◂ codes ":") (int_form ◂ codes "=" ▪ num_form)

-- the tags of a variant
unfoldable pub tags_form : Writing (List Tag)
tags_form = separated tag_form

-- a variant
unfoldable pub variant_form : Writing Variant
variant_form =
    Then (λ head tags. record { number = head.0; ty = head.1; tags = tags })
    (num_form ◂ codes ":" ▪ Part TheType) (codes "tag" ▸ listed Curly tags_form)

-- the variants of an enum
unfoldable pub variants_form : Writing (List Variant)
variants_form = separated variant_form

-- the tree for some numbers, and that for all others
unfoldable pub case_form : Writing (Num × Tree)
case_form = num_form ◂ codes "=>" ▪ Part TheTree ◂ codes ","

-- the cases of a branch
unfoldable pub cases_form : Writing (List (Num × Tree))
cases_form = Many (other_than (codes "_")) (λ k. case_form)

-- a branch
unfoldable pub branch_form : Writing Tree
branch_form =
    Then (λ head cases. tree.Branch head.0 head.1 cases.0 cases.1) (u64_form ▪ int_form)
    (within Curly (cases_form ▪ codes "_" ▸ codes "=>" ▸ Part TheTree))

-- what stands behind the word of a tree
abbrev pub tree_behind : TreeWord → Writing Tree
tree_behind tree_word.Known = giving tree.Known num_form
tree_behind tree_word.Invalid = Empty tree.Invalid
tree_behind tree_word.Branch = branch_form

-- which tree a word begins
unfoldable pub judged_tree : Word → Judged TreeWord
judged_tree w = fine (looked_up tree_words w.text)

-- a tree
unfoldable pub tree_form : Writing Tree
tree_form = Cases (λ scope. judged_tree) tree_behind

-- the word with which a type begins: that of an integer, or another
abbrev pub type_word_of : List ℕ → Option TypeWord
type_word_of text =
    elim (looked_up int_words text) as
    (λ _. Option TypeWord) [ Some i ↦ Some (type_word.Int i) | None ↦ looked_up type_words text ]

-- a reference
unfoldable pub ref_form : Writing Ty
ref_form =
    Then (λ numbers never. ty.Ref numbers.0 numbers.1 never) (u64_form ▪ u64_form)
    (Either (is_word (codes "never")) (giving (λ u. true) (word (codes "never"))) (Empty false))

-- a tuple
unfoldable pub tuple_type_form : Writing Ty
tuple_type_form = Then (λ shape fields. ty.Tuple shape.size shape.align fields) shape_form (listed Curly fields_form)

-- an array
unfoldable pub array_form : Writing Ty
array_form = giving (λ parts. ty.Array parts.0 parts.1) (within Round (u64_form ◂ codes "," ▪ Part TheType))

-- a union
unfoldable pub union_type_form : Writing Ty
union_type_form =
    Then (λ shape parts. ty.Union shape.size shape.align parts.0 parts.1) shape_form
    (listed Curly fields_form ▪ codes "chunks" ▸ listed Curly chunks_form)

-- an enum
unfoldable pub enum_form : Writing Ty
enum_form =
    Then (λ head parts. ty.Enum head.0.size head.0.align head.1 parts.0 parts.1) (shape_form ▪ codes "disc" ▸ int_form)
    (listed Curly variants_form ▪ tree_form)

-- what stands behind the word of a type
abbrev pub type_behind : TypeWord → Writing Ty
type_behind (type_word.Int i) = Empty (ty.Int i)
type_behind type_word.Bool = Empty ty.Bool
type_behind type_word.Raw = Empty ty.Raw
type_behind type_word.FnPtr = Empty ty.FnPtr
type_behind type_word.Unit = Empty (ty.Tuple 0 1 [])
type_behind type_word.Ref = ref_form
type_behind type_word.Tuple = tuple_type_form
type_behind type_word.Array = array_form
type_behind type_word.Union = union_type_form
type_behind type_word.Enum = enum_form

-- which type a word begins
unfoldable pub judged_type : Word → Judged TypeWord
judged_type w = fine (type_word_of w.text)

-- a type
unfoldable pub type_form : Writing Ty
type_form = Cases (λ scope. judged_type) type_behind
