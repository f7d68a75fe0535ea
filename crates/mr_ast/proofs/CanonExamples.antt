-- Canonical words and texts of small things, computed.
use Rattle.mr_ast.proofs.Common.{◌≡◌, ℕ, true, false, [], ◌∷◌, codes, refl, Num, Ty, num_words, words_of_type, NameTexts, words_of_place, words_of_value}
use Rattle.std.specs.Fmt.{digits}
use Rattle.mr_ast.specs.declared.types.IntType.TheVariants.{U8, I8}
use Rattle.mr_ast.specs.declared.expr.BinaryOp.TheVariants.{Add}
use Rattle.mr_ast.specs.declared.program.BlockKind.TheVariants.{Regular}
use Rattle.mr_ast.specs.declared.program.Program.{Program}
use Rattle.mr_ast.specs.Canon.{repeat_words, words_of_term, head_line, locals_line, block_lines, function_lines, lines_of, canonical_text}
use Rattle.mr_ast.specs.declared.types.Ty.TheVariants as ty
use Rattle.mr_ast.specs.declared.expr.Place.TheVariants as place
use Rattle.mr_ast.specs.declared.expr.Value.TheVariants as value
use Rattle.mr_ast.specs.declared.program.Term.TheVariants as term
use Rattle.mr_ast.proofs.CanonTypeLaws.{words_int_type, words_ref, words_tuple_type}
use Rattle.mr_ast.proofs.CanonValueLaws.{words_local, words_index, words_int, words_load, words_binary}

abbrev unit : Ty
unit = ty.Tuple 0 1 []

-- one function with a unit that exits
abbrev smallest : Program
smallest = record {
  edition = 1;
  globals = [];
  functions = record {
    name = 0;
    args = [];
    ret = record { 0 = 0 };
    locals = record { name = 1; ty = unit } ∷ [];
    blocks = record { name = 2; kind = Regular; stmts = []; term = term.Exit } ∷ [];
  } ∷ [];
  names = codes "main" ∷ codes "r" ∷ codes "b0" ∷ [];
  start = record { 0 = 0 };
}

pub smallest_text : canonical_text smallest ≡ codes "minirust 1\nfn main ( ) -> r {\nlet r : unit ;\nb0 regular :\nexit ;\n}\nmain main\n"
unfolding lines_of function_lines head_line locals_line block_lines words_of_term digits
smallest_text = simp words_tuple_type

-- ---- numbers

abbrev number : ℕ → Num
number n = record { neg = false; mag = n }

negative : num_words (record { neg = true; mag = 128 }) ≡ codes "-" ∷ codes "128" ∷ []
unfolding digits
negative = refl

once : repeat_words 1 ≡ []
once = refl

twice : repeat_words 2 ≡ codes "*" ∷ codes "2" ∷ []
unfolding digits
twice = refl

-- ---- types and values

aligned_unit : words_of_type (ty.Tuple 0 2 []) ≡ codes "tuple" ∷ codes "size" ∷ codes "0" ∷ codes "align" ∷ codes "2" ∷ codes "{" ∷ codes "}" ∷ []
unfolding digits
aligned_unit = simp words_tuple_type

never : words_of_type (ty.Ref 4 2 true) ≡ codes "ref" ∷ codes "4" ∷ codes "2" ∷ codes "never" ∷ []
unfolding digits
never = simp words_ref

field : words_of_type (ty.Tuple 1 1 ((0, ty.Int U8) ∷ []))
    ≡ codes "tuple" ∷ codes "size" ∷ codes "1" ∷ codes "align" ∷ codes "1" ∷ codes "{" ∷ codes "0" ∷ codes ":" ∷ codes "u8" ∷ codes "}" ∷ []
unfolding digits
field = simp (words_tuple_type, words_int_type)

-- inside a function with one local
abbrev names : NameTexts
names = record { globals = []; functions = []; locals = codes "x" ∷ []; blocks = [] }

sum : words_of_value names (value.Binary Add (value.Load (place.Local (record { 0 = 0 }))) (value.Int I8 (number 7)))
    ≡ codes "add" ∷ codes "(" ∷ codes "load" ∷ codes "(" ∷ codes "x" ∷ codes ")" ∷ codes "," ∷ codes "i8" ∷ codes "7" ∷ codes ")" ∷ []
unfolding digits
sum = simp (words_binary, words_load, words_local, words_int)

element : words_of_place names (place.Index (place.Local (record { 0 = 0 })) (value.Int U8 (number 0)))
    ≡ codes "x" ∷ codes "[" ∷ codes "u8" ∷ codes "0" ∷ codes "]" ∷ []
unfolding digits
element = simp (words_index, words_local, words_int)
