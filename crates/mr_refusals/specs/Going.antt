-- What may stand at a place of a text: each word with which, written there, the text goes on.
use Rattle.std.specs.Prelude.{ℕ, ◌==◌, ◌&&◌, ◌||◌, nat_lt, Bool, true, if◌then◌else◌, List, [], ◌∷◌, ◌++◌, codes}
use Rattle.std.specs.Prelude.{flat_map, Option, None, Some, Result, Ok, Err}
use Rattle.std.specs.List.{filter}
use Rattle.mr_ast.specs.declared.program.Program.{Program}
use Rattle.mr_ast.specs.Words.{Texts}
use Rattle.mr_lex.specs.declared.token.TextFault.{TextFault}
use Rattle.mr_parse.specs.GrammarParsing.{parsed}

-- ---- the words that are tried

-- a name, and a number
abbrev pub a_name : List ℕ
a_name = codes "x"

abbrev pub a_number : List ℕ
a_number = codes "1"

-- words of the language that may be names too
abbrev pub keywords : Texts
keywords =
    codes "minirust" ∷ codes "global" ∷ codes "align" ∷ codes "fn" ∷ codes "let" ∷ codes "main" ∷ codes "to"
    ∷ codes "regular" ∷ codes "cleanup" ∷ codes "catch" ∷ codes "terminate"
    ∷ codes "u8" ∷ codes "u16" ∷ codes "u32" ∷ codes "u64" ∷ codes "u128"
    ∷ codes "i8" ∷ codes "i16" ∷ codes "i32" ∷ codes "i64" ∷ codes "i128"
    ∷ codes "bool" ∷ codes "raw" ∷ codes "fnptr" ∷ codes "unit" ∷ codes "ref" ∷ codes "never" ∷ codes "tuple"
    ∷ codes "array" ∷ codes "union" ∷ codes "enum" ∷ codes "size" ∷ codes "chunks" ∷ codes "tag"
    ∷ codes "known" ∷ codes "invalid" ∷ codes "branch"
    ∷ codes "true" ∷ codes "false" ∷ codes "variant" ∷ codes "load" ∷ codes "addrof" ∷ codes "cast"
    ∷ codes "transmute"
    ∷ codes "neg" ∷ codes "not" ∷ codes "add" ∷ codes "sub" ∷ codes "mul" ∷ codes "div" ∷ codes "rem" ∷ codes "and"
    ∷ codes "or" ∷ codes "xor" ∷ codes "add_unchecked" ∷ codes "sub_unchecked" ∷ codes "mul_unchecked"
    ∷ codes "add_overflow" ∷ codes "sub_overflow" ∷ codes "mul_overflow" ∷ codes "shl" ∷ codes "shr"
    ∷ codes "shl_unchecked" ∷ codes "shr_unchecked" ∷ codes "eq" ∷ codes "ne" ∷ codes "lt" ∷ codes "le" ∷ codes "gt"
    ∷ codes "ge" ∷ codes "offset" ∷ codes "wrapping_offset"
    ∷ codes "assume" ∷ codes "print" ∷ codes "allocate" ∷ codes "deallocate" ∷ codes "spawn" ∷ codes "join"
    ∷ codes "create_lock" ∷ codes "acquire" ∷ codes "release" ∷ codes "atomic_store" ∷ codes "atomic_load"
    ∷ codes "compare_exchange" ∷ codes "fetch_add" ∷ codes "fetch_sub" ∷ codes "fetch_and" ∷ codes "fetch_or"
    ∷ codes "fetch_xor" ∷ codes "payload" ∷ []

-- words that no name may be, and signs
abbrev pub fixed_words : Texts
fixed_words =
    codes "live" ∷ codes "dead" ∷ codes "mention" ∷ codes "disc" ∷ codes "deinit" ∷ codes "validate"
    ∷ codes "goto" ∷ codes "switch" ∷ codes "unreachable" ∷ codes "return" ∷ codes "exit" ∷ codes "abort"
    ∷ codes "resume" ∷ codes "stop" ∷ codes "unwind" ∷ codes "call" ∷ codes "do" ∷ codes "deref" ∷ codes "_"
    ∷ codes "(" ∷ codes ")" ∷ codes "{" ∷ codes "}" ∷ codes "[" ∷ codes "]" ∷ codes "," ∷ codes ";" ∷ codes ":"
    ∷ codes "." ∷ codes "@" ∷ codes "+" ∷ codes "-" ∷ codes "*" ∷ codes "=" ∷ codes "?" ∷ codes "&" ∷ codes "->"
    ∷ codes "=>" ∷ []

-- ---- which of them go

-- the text up to a place, and the word on a line of its own
abbrev pub tried : List ℕ → List ℕ → List ℕ
tried front word = front ++ codes "\n" ++ word

-- the first fault, if there is one
abbrev pub fault_in : Result Program TextFault → Option TextFault
fault_in (Ok p) = None
fault_in (Err fault) = Some fault

-- a fault of names: names are looked at where the grammar has passed the whole text
abbrev pub is_of_names : ℕ → Bool
is_of_names code = (code == 5) || (code == 6)

-- a fault behind the first byte of a line
abbrev pub is_past : ℕ → TextFault → Bool
is_past line f = nat_lt line f.line || ((f.line == line) && nat_lt 1 f.col)

-- a text with this first fault goes on with the word that stands on this line
abbrev pub may_go : ℕ → Option TextFault → Bool
may_go line None = true
may_go line (Some f) = is_of_names f.code || is_past line f

-- THE WORD GOES behind the text, on this line: the first fault lies behind it, or is one of names, or there is none
abbrev pub goes : List ℕ → ℕ → List ℕ → Bool
goes front line word = may_go line (fault_in (parsed (tried front word)))

-- and the text may end there: the grammar has nothing against it
abbrev pub is_whole : Option TextFault → Bool
is_whole None = true
is_whole (Some f) = is_of_names f.code

-- ---- how they are told

-- a word, where it goes
abbrev pub if_going : List ℕ → ℕ → List ℕ → List ℕ → List ℕ
if_going front line word told = if goes front line word then told else []

abbrev pub word_told : List ℕ → ℕ → List ℕ → List ℕ
word_told front line word = if_going front line word (codes " " ++ word)

-- THOSE OF SOME WORDS THAT GO, and no other
abbrev pub going_words : List ℕ → ℕ → Texts → Texts
going_words front line words = filter (goes front line) words

-- each behind a blank
abbrev pub words_told : List ℕ → ℕ → Texts → List ℕ
words_told front line words = flat_map (λ word. codes " " ++ word) (going_words front line words)

-- a name; and where none goes, the words that may be names
abbrev pub named_told : List ℕ → ℕ → List ℕ
named_told front line = if goes front line a_name then codes " NAME" else words_told front line keywords

-- the end of the text
abbrev pub end_told : List ℕ → List ℕ
end_told front = if is_whole (fault_in (parsed front)) then codes " END" else []

-- WHAT MAY STAND behind the text, on this line
abbrev pub may_stand : List ℕ → ℕ → List ℕ
may_stand front line =
    codes "here may stand:" ++ named_told front line ++ if_going front line a_number (codes " NUMBER")
    ++ words_told front line fixed_words ++ end_told front ++ codes "\n"
