-- Where what a program's broken rule is told of begins in the text: its statement or terminator; outside blocks the
-- local, the function or the global.
use Rattle.std.specs.Prelude.{ℕ, zero, suc, ◌+◌, ◌&&◌, nat_le, nat_lt, Bool, false, if◌then◌else◌, List, [], codes}
use Rattle.std.specs.Prelude.{bytes_eq, length, Option, None, Some, slice_get, Result, Ok, Err}
use Rattle.std.specs.Option.{option_map, option_map_or}
use Rattle.mr_ast.specs.declared.program.BlockName.{BlockName}
use Rattle.mr_ast.specs.declared.program.Program.{Program}
use Rattle.mr_ast.specs.Canon.{global_texts}
use Rattle.mr_ast.specs.CanonValues.{text_at}
use Rattle.mr_lex.specs.Tokens.{Lexeme}
use Rattle.mr_lex.specs.declared.token.TextFault.{TextFault}
use Rattle.mr_labels.specs.Words.{function_word, local_word}
use Rattle.mr_typing.specs.declared.fault.FormFault.{FormFault}
use Rattle.mr_typing.specs.declared.fault.Item.{Item}
use Rattle.mr_typing.specs.declared.fault.Item.TheVariants.{Static, Function as InFunction}
use Rattle.mr_places.specs.Laid as laid
use Rattle.mr_places.specs.declared.places.Spot.{Spot}

-- ---- statements and terminators

-- the place of one of them: statement k, or the terminator, of block b in function n
abbrev pub stmt_spot : Program → Result (List Lexeme) TextFault → ℕ → ℕ → ℕ → Option Spot
stmt_spot p (Ok lexemes) n b k =
    laid.spot_at (record { lexemes = lexemes; firsts = laid.firsts_of 0 p.functions }) n b k
stmt_spot p (Err e) n b k = None

-- ---- what stands in front of a function's first block

-- the text of the token of a number, and nothing where there is none
abbrev pub word_at : List Lexeme → ℕ → List ℕ
word_at lexemes i = option_map_or (λ (l : Lexeme). l.text) (slice_get lexemes i) []

-- whether two words stand there beside one another
abbrev pub is_pair : List Lexeme → List ℕ → List ℕ → ℕ → Bool
is_pair lexemes first second i = bytes_eq (word_at lexemes i) first && bytes_eq (word_at lexemes (i + 1)) second

-- whether the token of a number begins in front of a byte
abbrev pub is_before : List Lexeme → ℕ → ℕ → Bool
is_before lexemes byte i = option_map_or (λ (l : Lexeme). nat_lt l.at byte) (slice_get lexemes i) false

-- whether two words stand there, and three more in front of a byte: these are a block's name, its kind and a colon
abbrev pub is_head : List Lexeme → List ℕ → List ℕ → ℕ → ℕ → Bool
is_head lexemes first second byte i = is_pair lexemes first second i && is_before lexemes byte (i + 4)

-- the last of so many numbers, from 0 on, that passes
abbrev pub last_of : (ℕ → Bool) → ℕ → Option ℕ
last_of test zero = None
last_of test (suc n) = if test n then Some n else last_of test n

-- where the token of a number begins
abbrev pub spot_at : List Lexeme → Option ℕ → Option Spot
spot_at lexemes None = None
spot_at lexemes (Some i) = option_map laid.spot_of (slice_get lexemes i)

-- THE LAST PLACE of two words in front of a function's first block, whose first statement stands there
abbrev pub head_in : List Lexeme → List ℕ → List ℕ → Option Spot → Option Spot
head_in lexemes first second None = None
head_in lexemes first second (Some s) = spot_at lexemes (last_of (is_head lexemes first second s.at) (length lexemes))

abbrev pub head_spot : Result (List Lexeme) TextFault → List ℕ → List ℕ → Option Spot → Option Spot
head_spot (Ok lexemes) first second from = head_in lexemes first second from
head_spot (Err e) first second from = None

-- ---- the place of a fault

-- whether a rule is one of types: outside blocks it is that of a local
abbrev pub is_of_type : ℕ → Bool
is_of_type code = nat_le code 28

-- a local's type, by `NAME :`, or the head of a function, by `fn NAME`
abbrev pub function_spot : Program → Result (List Lexeme) TextFault → FormFault → ℕ → Option Spot
function_spot p read f n =
    if is_of_type f.code
    then head_spot read (local_word p f.place (slice_get p.functions n)) (codes ":") (stmt_spot p read n 0 0)
    else head_spot read (codes "fn") (function_word p n) (stmt_spot p read n 0 0)

-- a global, by `global NAME`: all of them stand in front of the first function's first block
abbrev pub global_spot : Program → Result (List Lexeme) TextFault → ℕ → Option Spot
global_spot p read n = head_spot read (codes "global") (text_at (global_texts p) n) (stmt_spot p read 0 0 0)

abbrev pub spot_in : Program → Result (List Lexeme) TextFault → FormFault → Item → Option BlockName → Option Spot
spot_in p read f (InFunction n) (Some b) = stmt_spot p read n b.0 f.place
spot_in p read f (InFunction n) None = function_spot p read f n
spot_in p read f (Static n) block = global_spot p read n

-- WHERE A RULE IS BROKEN in the text that reads so
abbrev pub spot_of : Program → FormFault → Result (List Lexeme) TextFault → Option Spot
spot_of p f read = spot_in p read f f.item f.block
