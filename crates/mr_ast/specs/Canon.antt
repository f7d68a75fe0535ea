-- The canonical text of a program: its words, by lines.
use Rattle.std.specs.Prelude.{ℕ, ◌==◌, if◌then◌else◌, List, [], ◌∷◌, ◌++◌, map, flat_map, codes, decimal, Option, None}
use Rattle.std.specs.Prelude.{Some}
use Rattle.std.specs.List.{join_with_byte}
use Rattle.mr_ast.specs.declared.types.Num.{Num}
use Rattle.mr_ast.specs.declared.expr.Place.{Place}
use Rattle.mr_ast.specs.declared.expr.Value.{Value}
use Rattle.mr_ast.specs.declared.program.LocalName.{LocalName}
use Rattle.mr_ast.specs.declared.program.BlockName.{BlockName}
use Rattle.mr_ast.specs.declared.program.BlockKind.{BlockKind}
use Rattle.mr_ast.specs.declared.program.BlockKind.TheVariants as kind
use Rattle.mr_ast.specs.declared.program.Intrinsic.{Intrinsic}
use Rattle.mr_ast.specs.declared.program.Intrinsic.TheVariants as intrinsic
use Rattle.mr_ast.specs.declared.program.Target.{Target}
use Rattle.mr_ast.specs.declared.program.Target.TheVariants as target
use Rattle.mr_ast.specs.declared.program.Item_.{Item_}
use Rattle.mr_ast.specs.declared.program.Item_.TheVariants as item
use Rattle.mr_ast.specs.declared.program.Global_.{Global_}
use Rattle.mr_ast.specs.declared.program.Local.{Local}
use Rattle.mr_ast.specs.declared.program.Stmt.{Stmt}
use Rattle.mr_ast.specs.declared.program.Stmt.TheVariants as stmt
use Rattle.mr_ast.specs.declared.program.Term.{Term}
use Rattle.mr_ast.specs.declared.program.Term.TheVariants as term
use Rattle.mr_ast.specs.declared.program.Block.{Block}
use Rattle.mr_ast.specs.declared.program.Function.{Function}
use Rattle.mr_ast.specs.declared.program.Program.{Program}
use Rattle.mr_ast.specs.Words.{Texts}
use Rattle.mr_ast.specs.CanonTypes.{num_words, with_commas, words_of_type}
use Rattle.mr_ast.specs.CanonValues.{NameTexts, text_at, words_of_place, words_of_value}

-- the texts by which things of a program, and of one of its functions, go
abbrev pub global_texts : Program → Texts
global_texts p = map (λ g. text_at p.names g.name) p.globals

-- the names of the functions
abbrev pub function_texts : Program → Texts
function_texts p = map (λ f. text_at p.names f.name) p.functions

-- the names of the locals of a function
abbrev pub local_texts : Program → Function → Texts
local_texts p f = map (λ l. text_at p.names l.name) f.locals

-- the names of the blocks of a function
abbrev pub block_texts : Program → Function → Texts
block_texts p f = map (λ b. text_at p.names b.name) f.blocks

-- what the names in a function stand for
abbrev pub texts_in : Program → Function → NameTexts
texts_in p f =
    record {
      globals = global_texts p;
      functions = function_texts p;
      locals = local_texts p f;
      blocks = block_texts p f;
    }

-- the word of a kind of block
abbrev pub kind_word : BlockKind → List ℕ
kind_word kind.Regular = codes "regular"
kind_word kind.Cleanup = codes "cleanup"
kind_word kind.Catch = codes "catch"
kind_word kind.Terminate = codes "terminate"

-- the word of an intrinsic
abbrev pub intrinsic_word : Intrinsic → List ℕ
intrinsic_word intrinsic.Assume = codes "assume"
intrinsic_word intrinsic.Print = codes "print"
intrinsic_word intrinsic.Allocate = codes "allocate"
intrinsic_word intrinsic.Deallocate = codes "deallocate"
intrinsic_word intrinsic.Spawn = codes "spawn"
intrinsic_word intrinsic.Join = codes "join"
intrinsic_word intrinsic.CreateLock = codes "create_lock"
intrinsic_word intrinsic.Acquire = codes "acquire"
intrinsic_word intrinsic.Release = codes "release"
intrinsic_word intrinsic.AtomicStore = codes "atomic_store"
intrinsic_word intrinsic.AtomicLoad = codes "atomic_load"
intrinsic_word intrinsic.CompareExchange = codes "compare_exchange"
intrinsic_word intrinsic.FetchAdd = codes "fetch_add"
intrinsic_word intrinsic.FetchSub = codes "fetch_sub"
intrinsic_word intrinsic.FetchAnd = codes "fetch_and"
intrinsic_word intrinsic.FetchOr = codes "fetch_or"
intrinsic_word intrinsic.FetchXor = codes "fetch_xor"
intrinsic_word intrinsic.Payload = codes "payload"

-- ---- statements

-- a statement without its semicolon
unfoldable pub words_of_stmt : NameTexts → Stmt → Texts
words_of_stmt names (stmt.Live x) = codes "live" ∷ text_at names.locals x.0 ∷ []
words_of_stmt names (stmt.Dead x) = codes "dead" ∷ text_at names.locals x.0 ∷ []
words_of_stmt names (stmt.Assign place value) = words_of_place names place ++ codes "=" ∷ words_of_value names value
words_of_stmt names (stmt.Mention place) = codes "mention" ∷ words_of_place names place
words_of_stmt names (stmt.Disc place number) = codes "disc" ∷ words_of_place names place ++ codes "=" ∷ num_words number
words_of_stmt names (stmt.Deinit place) = codes "deinit" ∷ words_of_place names place
words_of_stmt names (stmt.Validate place) = codes "validate" ∷ words_of_place names place

-- the words of the line of a statement
abbrev pub stmt_line : NameTexts → Stmt → Texts
stmt_line names s = words_of_stmt names s ++ codes ";" ∷ []

-- ---- terminators

-- a number of a switch, and the block for it
abbrev pub target_words : NameTexts → Num × BlockName → Texts
target_words names c = num_words c.0 ++ codes "=>" ∷ text_at names.blocks c.1.0 ∷ codes "," ∷ []

-- a word and the name of a block, where there is one
abbrev pub optional_block : NameTexts → List ℕ → Option BlockName → Texts
optional_block names word None = []
optional_block names word (Some b) = word ∷ text_at names.blocks b.0 ∷ []

-- an arrow and the place for a result, where there is one
abbrev pub optional_result : NameTexts → Option Place → Texts
optional_result names None = []
optional_result names (Some place) = codes "->" ∷ words_of_place names place

-- values in round brackets, with commas between
abbrev pub arguments : NameTexts → List Value → Texts
arguments names values = codes "(" ∷ with_commas (map (words_of_value names) values) ++ codes ")" ∷ []

-- a terminator without its semicolon
unfoldable pub words_of_term : NameTexts → Term → Texts
words_of_term names (term.Goto b) = codes "goto" ∷ text_at names.blocks b.0 ∷ []
words_of_term names (term.Switch value cases other) =
    codes "switch" ∷ words_of_value names value ++ codes "{" ∷ flat_map (target_words names) cases
    ++ codes "_" ∷ codes "=>" ∷ text_at names.blocks other.0 ∷ codes "}" ∷ []
words_of_term names term.Unreachable = codes "unreachable" ∷ []
words_of_term names term.Return = codes "return" ∷ []
words_of_term names term.Exit = codes "exit" ∷ []
words_of_term names term.Abort = codes "abort" ∷ []
words_of_term names term.Resume = codes "resume" ∷ []
words_of_term names (term.Stop b) = codes "stop" ∷ codes "to" ∷ text_at names.blocks b.0 ∷ []
words_of_term names (term.Unwind payload b) =
    codes "unwind" ∷ words_of_value names payload ++ codes "to" ∷ text_at names.blocks b.0 ∷ []
words_of_term names (term.Call callee args place next unwind) =
    codes "call" ∷ words_of_value names callee ++ arguments names args ++ codes "->" ∷ words_of_place names place
    ++ optional_block names (codes "to") next ++ optional_block names (codes "unwind") unwind
words_of_term names (term.Do intrinsic args place next) =
    codes "do" ∷ intrinsic_word intrinsic ∷ arguments names args ++ optional_result names place ++ codes "to"
    ∷ text_at names.blocks next.0 ∷ []

-- the words of the line of the end of a block
abbrev pub term_line : NameTexts → Term → Texts
term_line names t = words_of_term names t ++ codes ";" ∷ []

-- ---- globals

-- a repeat of 1 is left out
abbrev pub repeat_words : ℕ → Texts
repeat_words n = if n == 1 then [] else codes "*" ∷ decimal n ∷ []

-- the text of the global or function that an item points to
abbrev pub target_text : Program → Target → List ℕ
target_text p (target.Global g) = text_at (global_texts p) g.0
target_text p (target.Function f) = text_at (function_texts p) f.0

-- the words of an item of a global
unfoldable pub words_of_item : Program → Item_ → Texts
words_of_item p (item.Byte value repeat) = decimal value ∷ repeat_words repeat
words_of_item p (item.Uninit repeat) = codes "?" ∷ repeat_words repeat
words_of_item p (item.Reloc to offset) = codes "&" ∷ target_text p to ∷ codes "+" ∷ decimal offset ∷ []

-- a global without its closing brace
abbrev pub words_of_global : Program → Global_ → Texts
words_of_global p g =
    codes "global" ∷ text_at p.names g.name ∷ codes "align" ∷ decimal g.align ∷ codes "{"
    ∷ flat_map (words_of_item p) g.items

-- the words of the line of a global
unfoldable pub global_line : Program → Global_ → Texts
global_line p g = words_of_global p g ++ codes "}" ∷ []

-- ---- functions

-- an argument's name
abbrev pub argument_words : Program → Function → LocalName → Texts
argument_words p f x = text_at (local_texts p f) x.0 ∷ []

-- a function's name, arguments and return local
abbrev pub words_of_head : Program → Function → Texts
words_of_head p f =
    codes "fn" ∷ text_at p.names f.name ∷ codes "(" ∷ with_commas (map (argument_words p f) f.args)
    ++ codes ")" ∷ codes "->" ∷ text_at (local_texts p f) f.ret.0 ∷ []

-- the words of the first line of a function
unfoldable pub head_line : Program → Function → Texts
head_line p f = words_of_head p f ++ codes "{" ∷ []

-- the words of a local
abbrev pub local_words : Program → Local → Texts
local_words p l = text_at p.names l.name ∷ codes ":" ∷ words_of_type l.ty

-- the words of the locals of a function
abbrev pub words_of_locals : Program → Function → Texts
words_of_locals p f = codes "let" ∷ with_commas (map (local_words p) f.locals)

-- the words of the line of the locals
unfoldable pub locals_line : Program → Function → Texts
locals_line p f = words_of_locals p f ++ codes ";" ∷ []

-- a block's name and kind, and a colon
abbrev pub block_head : Program → Block → Texts
block_head p b = text_at p.names b.name ∷ kind_word b.kind ∷ codes ":" ∷ []

-- a block: its head, its statements and its end, a line each
unfoldable pub block_lines : Program → Function → Block → List Texts
block_lines p f b = block_head p b ∷ map (stmt_line (texts_in p f)) b.stmts ++ term_line (texts_in p f) b.term ∷ []

-- the lines of a function
unfoldable pub function_lines : Program → Function → List Texts
function_lines p f = head_line p f ∷ locals_line p f ∷ flat_map (block_lines p f) f.blocks ++ (codes "}" ∷ []) ∷ []

-- ---- programs

-- the words of the first line of a program
abbrev pub header_line : ℕ → Texts
header_line edition = codes "minirust" ∷ decimal edition ∷ []

-- the words of the line that names the function to begin with
abbrev pub main_line : Program → Texts
main_line p = codes "main" ∷ text_at (function_texts p) p.start.0 ∷ []

-- the words of a program, by lines
unfoldable pub lines_of : Program → List Texts
lines_of p =
    header_line p.edition ∷ map (global_line p) p.globals ++ flat_map (function_lines p) p.functions ++ main_line p ∷ []

-- all words of a program
abbrev pub canonical_words : Program → Texts
canonical_words p = flat_map (λ line. line) (lines_of p)

-- one space between two words, and LF at the end
abbrev pub text_of_line : Texts → List ℕ
text_of_line words = join_with_byte 32 words ++ 10 ∷ []

-- the text of some lines
abbrev pub text_of_lines : List Texts → List ℕ
text_of_lines lines = flat_map text_of_line lines

-- the text in which a program is printed
abbrev pub canonical_text : Program → List ℕ
canonical_text p = text_of_lines (lines_of p)
