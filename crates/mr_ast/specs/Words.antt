-- The words of the text form: names, numbers, and the words that stand for themselves.
use Rattle.std.specs.Prelude.{◌≡◌, ◌⊎◌, ℕ, ◌+◌, ◌-◌, ◌*◌, ◌^◌, Bool, false, not, ◌||◌, ◌&&◌, ◌==◌, nat_lt}
use Rattle.std.specs.Prelude.{if◌then◌else◌, List}
use Rattle.std.specs.Prelude.{[], ◌∷◌, ◌++◌, length, map, slice_index, codes, bytes_eq, Option, None, Some}
use Rattle.std.specs.List.{fold, list_all, list_any}
use Rattle.std.specs.Char.{is_ascii_alphabetic, is_ascii_digit}
use Rattle.mr_ast.specs.declared.types.IntType.{IntType}
use Rattle.mr_ast.specs.declared.types.IntType.TheVariants as int
use Rattle.mr_ast.specs.declared.expr.UnaryOp.{UnaryOp}
use Rattle.mr_ast.specs.declared.expr.UnaryOp.TheVariants as unary
use Rattle.mr_ast.specs.declared.expr.BinaryOp.{BinaryOp}
use Rattle.mr_ast.specs.declared.expr.BinaryOp.TheVariants as binary
use Rattle.mr_ast.specs.declared.program.BlockKind.{BlockKind}
use Rattle.mr_ast.specs.declared.program.BlockKind.TheVariants as kind
use Rattle.mr_ast.specs.declared.program.Intrinsic.{Intrinsic}
use Rattle.mr_ast.specs.declared.program.Intrinsic.TheVariants as intrinsic
use Rattle.mr_ast.specs.declared.words.TypeWord.{TypeWord}
use Rattle.mr_ast.specs.declared.words.TypeWord.TheVariants as type
use Rattle.mr_ast.specs.declared.words.TreeWord.{TreeWord}
use Rattle.mr_ast.specs.declared.words.TreeWord.TheVariants as tree
use Rattle.mr_ast.specs.declared.words.ValueWord.{ValueWord}
use Rattle.mr_ast.specs.declared.words.ValueWord.TheVariants as value
use Rattle.mr_ast.specs.declared.words.StmtWord.{StmtWord}
use Rattle.mr_ast.specs.declared.words.StmtWord.TheVariants as stmt
use Rattle.mr_ast.specs.declared.words.TermWord.{TermWord}
use Rattle.mr_ast.specs.declared.words.TermWord.TheVariants as term

-- the bytes of some tokens
abbrev pub Texts : Type 0
Texts = List (List ℕ)

-- an ASCII letter or `_`
abbrev pub begins_name : ℕ → Bool
begins_name b = is_ascii_alphabetic b || b == 95

-- a letter, `_` or a digit
abbrev pub is_in_name : ℕ → Bool
is_in_name b = begins_name b || is_ascii_digit b

-- whether the first byte passes the test
abbrev pub first_passes : (ℕ → Bool) → List ℕ → Bool
first_passes test [] = false
first_passes test (b ∷ bs) = test b

-- the value of decimal digits, the highest first
abbrev pub value_of : List ℕ → ℕ
value_of digits = fold (λ n digit. n * 10 + (digit - 48)) 0 digits

-- decimal digits without a 0 in front of others, of a value below 2^128
unfoldable pub is_number : List ℕ → Bool
is_number text =
    first_passes is_ascii_digit text && list_all is_ascii_digit text
    && (not (slice_index text 0 == 48) || length text == 1) && nat_lt (value_of text) (2 ^ 128)

-- words, each with what it stands for
abbrev pub Table : Type 0 → Type 0
Table X = List (List ℕ × X)

-- the words of a table
abbrev pub texts_of : {X : Type 0} → Table X → Texts
texts_of table = map (λ entry. entry.0) table

-- what the word stands for
abbrev pub looked_up : {X : Type 0} → Table X → List ℕ → Option X
looked_up [] text = None
looked_up (entry ∷ entries) text = if bytes_eq text entry.0 then Some entry.1 else looked_up entries text

-- the editions of the language
abbrev pub edition_words : Table ℕ
edition_words = (codes "1", 1) ∷ (codes "2", 2) ∷ []

-- an edition is 1 or 2
abbrev pub IsEdition : ℕ → Type 0
IsEdition n = (n ≡ 1) ⊎ (n ≡ 2)

-- the integer types
abbrev pub int_words : Table IntType
int_words =
    (codes "u8", int.U8) ∷ (codes "u16", int.U16) ∷ (codes "u32", int.U32) ∷ (codes "u64", int.U64)
    ∷ (codes "u128", int.U128) ∷ (codes "i8", int.I8) ∷ (codes "i16", int.I16) ∷ (codes "i32", int.I32)
    ∷ (codes "i64", int.I64) ∷ (codes "i128", int.I128) ∷ []

-- the types whose word isn't that of an integer
abbrev pub type_words : Table TypeWord
type_words =
    (codes "bool", type.Bool) ∷ (codes "raw", type.Raw) ∷ (codes "fnptr", type.FnPtr) ∷ (codes "unit", type.Unit)
    ∷ (codes "ref", type.Ref) ∷ (codes "tuple", type.Tuple) ∷ (codes "array", type.Array) ∷ (codes "union", type.Union)
    ∷ (codes "enum", type.Enum) ∷ []

-- the trees
abbrev pub tree_words : Table TreeWord
tree_words = (codes "known", tree.Known) ∷ (codes "invalid", tree.Invalid) ∷ (codes "branch", tree.Branch) ∷ []

-- the operators with one operand
abbrev pub unary_words : Table UnaryOp
unary_words = (codes "neg", unary.Neg) ∷ (codes "not", unary.Not) ∷ []

-- the operators with two operands
abbrev pub binary_words : Table BinaryOp
binary_words =
    (codes "add", binary.Add) ∷ (codes "sub", binary.Sub) ∷ (codes "mul", binary.Mul) ∷ (codes "div", binary.Div)
    ∷ (codes "rem", binary.Rem) ∷ (codes "and", binary.And) ∷ (codes "or", binary.Or) ∷ (codes "xor", binary.Xor)
    ∷ (codes "add_unchecked", binary.AddUnchecked) ∷ (codes "sub_unchecked", binary.SubUnchecked)
    ∷ (codes "mul_unchecked", binary.MulUnchecked) ∷ (codes "add_overflow", binary.AddOverflow)
    ∷ (codes "sub_overflow", binary.SubOverflow) ∷ (codes "mul_overflow", binary.MulOverflow)
    ∷ (codes "shl", binary.Shl) ∷ (codes "shr", binary.Shr) ∷ (codes "shl_unchecked", binary.ShlUnchecked)
    ∷ (codes "shr_unchecked", binary.ShrUnchecked) ∷ (codes "eq", binary.Eq) ∷ (codes "ne", binary.Ne)
    ∷ (codes "lt", binary.Lt) ∷ (codes "le", binary.Le) ∷ (codes "gt", binary.Gt) ∷ (codes "ge", binary.Ge)
    ∷ (codes "offset", binary.Offset) ∷ (codes "wrapping_offset", binary.WrappingOffset) ∷ []

-- the values whose word is no integer type and no operator
abbrev pub value_words : Table ValueWord
value_words =
    (codes "true", value.True) ∷ (codes "false", value.False) ∷ (codes "raw", value.Raw) ∷ (codes "fn", value.Fn)
    ∷ (codes "global", value.Global) ∷ (codes "tuple", value.Tuple) ∷ (codes "union", value.Union)
    ∷ (codes "variant", value.Variant) ∷ (codes "load", value.Load) ∷ (codes "disc", value.Disc)
    ∷ (codes "addrof", value.AddrOf) ∷ (codes "cast", value.Cast) ∷ (codes "transmute", value.Transmute) ∷ []

-- the statements that are no assignment
abbrev pub stmt_words : Table StmtWord
stmt_words =
    (codes "live", stmt.Live) ∷ (codes "dead", stmt.Dead) ∷ (codes "mention", stmt.Mention) ∷ (codes "disc", stmt.Disc)
    ∷ (codes "deinit", stmt.Deinit) ∷ (codes "validate", stmt.Validate) ∷ []

-- the ends of blocks
abbrev pub term_words : Table TermWord
term_words =
    (codes "goto", term.Goto) ∷ (codes "switch", term.Switch) ∷ (codes "unreachable", term.Unreachable)
    ∷ (codes "return", term.Return) ∷ (codes "exit", term.Exit) ∷ (codes "abort", term.Abort)
    ∷ (codes "resume", term.Resume) ∷ (codes "stop", term.Stop) ∷ (codes "unwind", term.Unwind)
    ∷ (codes "call", term.Call) ∷ (codes "do", term.Do) ∷ []

-- the words that are no names: those of statements and of terminators, and two more
abbrev pub reserved : Texts
reserved = texts_of stmt_words ++ texts_of term_words ++ codes "deref" ∷ codes "_" ∷ []

-- a letter or `_`, then letters, digits and `_`, and no reserved word
unfoldable pub is_name : List ℕ → Bool
is_name text = first_passes begins_name text && list_all is_in_name text && not (list_any (bytes_eq text) reserved)

-- the kinds of blocks
abbrev pub kind_words : Table BlockKind
kind_words =
    (codes "regular", kind.Regular) ∷ (codes "cleanup", kind.Cleanup) ∷ (codes "catch", kind.Catch)
    ∷ (codes "terminate", kind.Terminate) ∷ []

-- the intrinsics
abbrev pub intrinsic_words : Table Intrinsic
intrinsic_words =
    (codes "assume", intrinsic.Assume) ∷ (codes "print", intrinsic.Print) ∷ (codes "allocate", intrinsic.Allocate)
    ∷ (codes "deallocate", intrinsic.Deallocate) ∷ (codes "spawn", intrinsic.Spawn) ∷ (codes "join", intrinsic.Join)
    ∷ (codes "create_lock", intrinsic.CreateLock) ∷ (codes "acquire", intrinsic.Acquire)
    ∷ (codes "release", intrinsic.Release) ∷ (codes "atomic_store", intrinsic.AtomicStore)
    ∷ (codes "atomic_load", intrinsic.AtomicLoad) ∷ (codes "compare_exchange", intrinsic.CompareExchange)
    ∷ (codes "fetch_add", intrinsic.FetchAdd) ∷ (codes "fetch_sub", intrinsic.FetchSub)
    ∷ (codes "fetch_and", intrinsic.FetchAnd) ∷ (codes "fetch_or", intrinsic.FetchOr)
    ∷ (codes "fetch_xor", intrinsic.FetchXor) ∷ (codes "payload", intrinsic.Payload) ∷ []

-- the words for casts between pointers and integers, which no program may have
abbrev pub is_exposed : List ℕ → Bool
is_exposed text = bytes_eq text (codes "expose_provenance") || bytes_eq text (codes "with_exposed_provenance")
