-- The canonical words of places and values.
use Rattle.std.specs.Prelude.{ℕ, List, [], ◌∷◌, ◌++◌, flat_map, slice_index_or, codes, decimal}
use Rattle.mr_ast.specs.declared.expr.Place.{Place}
use Rattle.mr_ast.specs.declared.expr.Value.{Value}
use Rattle.mr_ast.specs.declared.expr.Place.TheOpen.{Place-F, Value-F}
use Rattle.mr_ast.specs.declared.expr.Place.TheFolds.{fold-Place, fold-Value}
use Rattle.mr_ast.specs.declared.expr.UnaryOp.{UnaryOp}
use Rattle.mr_ast.specs.declared.expr.UnaryOp.TheVariants as unary
use Rattle.mr_ast.specs.declared.expr.BinaryOp.{BinaryOp}
use Rattle.mr_ast.specs.declared.expr.BinaryOp.TheVariants as binary
use Rattle.mr_ast.specs.Words.{Texts}
use Rattle.mr_ast.specs.CanonTypes.{int_word, num_words, words_of_type}

-- The texts of names, by position: those of a program's globals and functions, and those of the locals and blocks of
-- one function.
pub record NameTexts : Type 0 where
  pub globals : Texts
  pub functions : Texts
  pub locals : Texts
  pub blocks : Texts

-- the text at a position, and the empty one where there is none
abbrev pub text_at : Texts → ℕ → List ℕ
text_at texts n = slice_index_or texts n []

-- the word of an operator with one operand
abbrev pub unary_word : UnaryOp → List ℕ
unary_word unary.Neg = codes "neg"
unary_word unary.Not = codes "not"

-- the word of an operator with two operands
abbrev pub binary_word : BinaryOp → List ℕ
binary_word binary.Add = codes "add"
binary_word binary.Sub = codes "sub"
binary_word binary.Mul = codes "mul"
binary_word binary.Div = codes "div"
binary_word binary.Rem = codes "rem"
binary_word binary.And = codes "and"
binary_word binary.Or = codes "or"
binary_word binary.Xor = codes "xor"
binary_word binary.AddUnchecked = codes "add_unchecked"
binary_word binary.SubUnchecked = codes "sub_unchecked"
binary_word binary.MulUnchecked = codes "mul_unchecked"
binary_word binary.AddOverflow = codes "add_overflow"
binary_word binary.SubOverflow = codes "sub_overflow"
binary_word binary.MulOverflow = codes "mul_overflow"
binary_word binary.Shl = codes "shl"
binary_word binary.Shr = codes "shr"
binary_word binary.ShlUnchecked = codes "shl_unchecked"
binary_word binary.ShrUnchecked = codes "shr_unchecked"
binary_word binary.Eq = codes "eq"
binary_word binary.Ne = codes "ne"
binary_word binary.Lt = codes "lt"
binary_word binary.Le = codes "le"
binary_word binary.Gt = codes "gt"
binary_word binary.Ge = codes "ge"
binary_word binary.Offset = codes "offset"
binary_word binary.WrappingOffset = codes "wrapping_offset"

-- one level of a place, where the words of each part stand in its place
abbrev pub place_words_step : NameTexts → Place-F Texts Texts → Texts
place_words_step names (Place-F.Local x) = text_at names.locals x.0 ∷ []
place_words_step names (Place-F.Deref pointer ty) =
    codes "deref" ∷ codes "(" ∷ pointer ++ codes "," ∷ words_of_type ty ++ codes ")" ∷ []
place_words_step names (Place-F.Field place field) = place ++ codes "." ∷ decimal field ∷ []
place_words_step names (Place-F.Index place index) = place ++ codes "[" ∷ index ++ codes "]" ∷ []
place_words_step names (Place-F.Place::Variant place number) = place ++ codes "@" ∷ num_words number

-- the same of a value
abbrev pub value_words_step : NameTexts → Value-F Texts Texts → Texts
value_words_step names (Value-F.Int int number) = int_word int ∷ num_words number
value_words_step names Value-F.True = codes "true" ∷ []
value_words_step names Value-F.False = codes "false" ∷ []
value_words_step names (Value-F.Raw address) = codes "raw" ∷ decimal address ∷ []
value_words_step names (Value-F.Fn f) = codes "fn" ∷ text_at names.functions f.0 ∷ []
value_words_step names (Value-F.Global g offset) =
    codes "global" ∷ text_at names.globals g.0 ∷ codes "+" ∷ decimal offset ∷ []
value_words_step names (Value-F.Tuple ty values) =
    codes "tuple" ∷ codes "(" ∷ words_of_type ty ++ flat_map (λ v. codes "," ∷ v) values ++ codes ")" ∷ []
value_words_step names (Value-F.Union ty field value) =
    codes "union" ∷ codes "(" ∷ words_of_type ty ++ codes "," ∷ decimal field ∷ codes "," ∷ value ++ codes ")" ∷ []
value_words_step names (Value-F.Value::Variant ty number value) =
    codes "variant" ∷ codes "(" ∷ words_of_type ty ++ codes "," ∷ num_words number ++ codes "," ∷ value ++ codes ")"
    ∷ []
value_words_step names (Value-F.Load place) = codes "load" ∷ codes "(" ∷ place ++ codes ")" ∷ []
value_words_step names (Value-F.Disc place) = codes "disc" ∷ codes "(" ∷ place ++ codes ")" ∷ []
value_words_step names (Value-F.AddrOf ty place) =
    codes "addrof" ∷ codes "(" ∷ words_of_type ty ++ codes "," ∷ place ++ codes ")" ∷ []
value_words_step names (Value-F.Cast int value) =
    codes "cast" ∷ codes "(" ∷ int_word int ∷ codes "," ∷ value ++ codes ")" ∷ []
value_words_step names (Value-F.Transmute ty value) =
    codes "transmute" ∷ codes "(" ∷ words_of_type ty ++ codes "," ∷ value ++ codes ")" ∷ []
value_words_step names (Value-F.Unary operator value) = unary_word operator ∷ codes "(" ∷ value ++ codes ")" ∷ []
value_words_step names (Value-F.Binary operator left right) =
    binary_word operator ∷ codes "(" ∷ left ++ codes "," ∷ right ++ codes ")" ∷ []

-- the words of a place
unfoldable pub words_of_place : NameTexts → Place → Texts
words_of_place names = fold-Place Texts Texts (place_words_step names) (value_words_step names)

-- the words of a value
unfoldable pub words_of_value : NameTexts → Value → Texts
words_of_value names = fold-Value Texts Texts (place_words_step names) (value_words_step names)
