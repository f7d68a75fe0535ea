-- How statements, terminators, functions, globals and whole programs are written.
use Rattle.std.specs.Prelude.{ℕ, suc, Bool, false, ◌||◌, nat_le, if◌then◌else◌, List, ◌∷◌, codes, Option, None, Some}
use Rattle.std.specs.Prelude.{option_map, is_some}
use Rattle.mr_ast.specs.Limits.{max_blocks, max_items, max_stmts}
use Rattle.mr_ast.specs.declared.types.Num.{Num}
use Rattle.mr_ast.specs.declared.expr.Place.{Place}
use Rattle.mr_ast.specs.declared.expr.Value.{Value}
use Rattle.mr_ast.specs.declared.program.LocalName.{LocalName}
use Rattle.mr_ast.specs.declared.program.BlockName.{BlockName}
use Rattle.mr_ast.specs.declared.program.FnName.{FnName}
use Rattle.mr_ast.specs.declared.program.BlockKind.{BlockKind}
use Rattle.mr_ast.specs.declared.program.Intrinsic.{Intrinsic}
use Rattle.mr_ast.specs.declared.program.Intrinsic.TheVariants as intrinsic
use Rattle.mr_ast.specs.declared.program.Item_.{Item_}
use Rattle.mr_ast.specs.declared.program.Item_.TheVariants as item
use Rattle.mr_ast.specs.declared.program.Global_.{Global_}
use Rattle.mr_ast.specs.declared.program.Local.{Local}
use Rattle.mr_ast.specs.declared.program.Stmt.{Stmt}
use Rattle.mr_ast.specs.declared.program.Stmt.TheVariants as stmt
use Rattle.mr_ast.specs.declared.program.Term.{Term}
use Rattle.mr_ast.specs.declared.program.Term.TheVariants as term
use Rattle.mr_ast.specs.declared.program.Block.{Block}
use Rattle.mr_ast.specs.declared.program.Function.{Function}
use Rattle.mr_ast.specs.declared.words.StmtWord.{StmtWord}
use Rattle.mr_ast.specs.declared.words.StmtWord.TheVariants as stmt_word
use Rattle.mr_ast.specs.declared.words.TermWord.{TermWord}
use Rattle.mr_ast.specs.declared.words.TermWord.TheVariants as term_word
use Rattle.mr_ast.specs.declared.words.ItemWord.{ItemWord}
use Rattle.mr_ast.specs.declared.words.ItemWord.TheVariants as item_word
use Rattle.mr_ast.specs.Forms.{Word, Empty, Then, Cases, Either, Many, Part, In}
use Rattle.mr_ast.specs.declared.words.Bracket.TheVariants.{Round, Curly}
use Rattle.mr_ast.specs.declared.words.Role.TheVariants.{DefinesGlobal, DefinesFunction, DefinesLocal, DefinesBlock}
use Rattle.mr_ast.specs.Scope.{Scope}
use Rattle.mr_ast.specs.Words.{is_name, is_number, value_of, looked_up, stmt_words, term_words, kind_words}
use Rattle.mr_ast.specs.Words.{edition_words, intrinsic_words, is_exposed}
use Rattle.mr_ast.specs.Writing.{Judged, ThePlace, TheType, TheValue, Writing, block_use, fine, function_use, giving}
use Rattle.mr_ast.specs.Writing.{is_word, judged_repeat, limit, listed, local_use, name_form, num_form, optional}
use Rattle.mr_ast.specs.Writing.{other_than, separated, target_use, token, u64_form, within, ◌▪◌, ◌▸◌, ◌◂◌}

-- which statement a word begins; there may be one too many
unfoldable pub judged_stmt : Bool → Word → Judged StmtWord
judged_stmt over w = option_map (λ s. (s, limit 8 over)) (looked_up stmt_words w.text)

-- what stands behind the word of a statement, and what is made of it: a local, a place, or a place with a number
pub data StmtShape : Type 0 where
  OfLocal : (LocalName → Stmt) → StmtShape
  OfPlace : (Place → Stmt) → StmtShape
  OfNumber : (Place → Num → Stmt) → StmtShape

-- a place, and behind `=` a number
unfoldable pub numbered_form : (Place → Num → Stmt) → Writing Stmt
numbered_form make = Then make (Part (ThePlace false)) (codes "=" ▸ num_form)

-- how a shape is written
abbrev pub stmt_shape_form : StmtShape → Writing Stmt
stmt_shape_form (OfLocal make) = giving make local_use
stmt_shape_form (OfPlace make) = giving make (Part (ThePlace false))
stmt_shape_form (OfNumber make) = numbered_form make

-- the shape behind each word
abbrev pub stmt_shape : StmtWord → StmtShape
stmt_shape stmt_word.Live = OfLocal (λ x. stmt.Live x)
stmt_shape stmt_word.Dead = OfLocal (λ x. stmt.Dead x)
stmt_shape stmt_word.Mention = OfPlace (λ p. stmt.Mention p)
stmt_shape stmt_word.Disc = OfNumber (λ p n. stmt.Disc p n)
stmt_shape stmt_word.Deinit = OfPlace (λ p. stmt.Deinit p)
stmt_shape stmt_word.Validate = OfPlace (λ p. stmt.Validate p)

-- what stands behind the word of a statement
abbrev pub stmt_behind : StmtWord → Writing Stmt
stmt_behind word = stmt_shape_form (stmt_shape word)

-- whether a word begins a statement that is no assignment
abbrev pub is_stmt_word : List ℕ → Bool
is_stmt_word text = is_some (looked_up stmt_words text)

-- whether a statement begins with the word
abbrev pub begins_stmt : List ℕ → Bool
begins_stmt text = is_stmt_word text || (is_word (codes "deref") text || is_name text)

-- an assignment
unfoldable pub assign_form : Bool → Writing Stmt
assign_form over = Then (λ p v. stmt.Assign p v) (Part (ThePlace over)) (codes "=" ▸ Part TheValue)

-- the statement of number k in a block, of which there may be 4,096
unfoldable pub stmt_form : ℕ → Writing Stmt
stmt_form k =
    let over = nat_le max_stmts k in
    Either is_stmt_word (Cases (λ scope. judged_stmt over) stmt_behind) (assign_form over) ◂ codes ";"

-- a number of a switch, and where it leads
unfoldable pub switch_case_form : Writing (Num × BlockName)
switch_case_form = num_form ◂ codes "=>" ▪ block_use ◂ codes ","

-- the cases of a switch
unfoldable pub switch_cases_form : Writing (List (Num × BlockName))
switch_cases_form = Many (other_than (codes "_")) (λ k. switch_case_form)

-- a switch
unfoldable pub switch_form : Writing Term
switch_form =
    Then (λ v cases. term.Switch v cases.0 cases.1) (Part TheValue)
    (within Curly (switch_cases_form ▪ codes "_" ▸ codes "=>" ▸ block_use))

-- an unwinding
unfoldable pub unwind_form : Writing Term
unwind_form = Then (λ v b. term.Unwind v b) (Part TheValue) (codes "to" ▸ block_use)

-- one value or more, with commas between them
unfoldable pub values_form : Writing (List Value)
values_form = separated (Part TheValue)

-- a call
unfoldable pub call_form : Writing Term
call_form =
    Then (λ callee rest. term.Call callee.0 callee.1 rest.0 rest.1.0 rest.1.1)
    (Part TheValue ▪ listed Round values_form)
    (codes "->" ▸ Part (ThePlace false) ▪ optional (codes "to") block_use ▪ optional (codes "unwind") block_use)

-- the casts between pointers and integers break the limit 9
unfoldable pub judged_intrinsic : Word → Judged Intrinsic
judged_intrinsic w =
    if is_exposed w.text then Some (intrinsic.Assume, Some 9) else fine (looked_up intrinsic_words w.text)

-- the intrinsic that a word names
abbrev pub intrinsic_form : Writing Intrinsic
intrinsic_form = token judged_intrinsic

-- an intrinsic with its operands
unfoldable pub do_form : Writing Term
do_form =
    Then (λ head rest. term.Do head.0 head.1 rest.0 rest.1) (intrinsic_form ▪ listed Round values_form)
    (optional (codes "->") (Part (ThePlace false)) ▪ codes "to" ▸ block_use)

-- what stands behind the word of the end of a block
abbrev pub term_behind : TermWord → Writing Term
term_behind term_word.Goto = giving term.Goto block_use
term_behind term_word.Switch = switch_form
term_behind term_word.Unreachable = Empty term.Unreachable
term_behind term_word.Return = Empty term.Return
term_behind term_word.Exit = Empty term.Exit
term_behind term_word.Abort = Empty term.Abort
term_behind term_word.Resume = Empty term.Resume
term_behind term_word.Stop = giving term.Stop (codes "to" ▸ block_use)
term_behind term_word.Unwind = unwind_form
term_behind term_word.Call = call_form
term_behind term_word.Do = do_form

-- which end of a block a word begins
unfoldable pub judged_term : Word → Judged TermWord
judged_term w = fine (looked_up term_words w.text)

-- the end of a block
unfoldable pub term_form : Writing Term
term_form = Cases (λ scope. judged_term) term_behind ◂ codes ";"

-- which kind of block a word names
unfoldable pub judged_kind : Word → Judged BlockKind
judged_kind w = fine (looked_up kind_words w.text)

-- the statements of a block
unfoldable pub stmts_form : Writing (List Stmt)
stmts_form = Many begins_stmt stmt_form

-- the block of number k in a function, of which there may be 1,024
unfoldable pub block_form : ℕ → Writing Block
block_form k =
    Then (λ head body. record { name = head.0; kind = head.1; stmts = body.0; term = body.1 })
    (name_form (nat_le max_blocks k) (DefinesBlock k) ▪ token judged_kind) (codes ":" ▸ stmts_form ▪ term_form)

-- the local of number k in a function, of which there may be 256
unfoldable pub local_form : ℕ → Writing Local
local_form k =
    Then (λ name t. record { name = name; ty = t })
    (name_form (nat_le max_items k) (DefinesLocal k)) (codes ":" ▸ Part TheType)

-- the locals of a function
unfoldable pub locals_form : Writing (List Local)
locals_form = Then (λ l ls. l ∷ ls) (local_form 0) (Many (is_word (codes ",")) (λ k. codes "," ▸ local_form (suc k)))

-- the blocks of a function
unfoldable pub blocks_form : Writing (List Block)
blocks_form = Then (λ b bs. b ∷ bs) (block_form 0) (Many (other_than (codes "}")) (λ k. block_form (suc k)))

-- the arguments of a function
unfoldable pub args_form : Writing (List LocalName)
args_form = separated local_use

-- what a function has beside its name
pub record FunctionBody : Type 0 where
  pub args : List LocalName
  pub ret : LocalName
  pub locals : List Local
  pub blocks : List Block

-- the body of a function
unfoldable pub body_form : Writing FunctionBody
body_form =
    Then (λ head body. record { args = head.0; ret = head.1; locals = body.0; blocks = body.1 })
    (listed Round args_form ▪ codes "->" ▸ local_use)
    (within Curly (codes "let" ▸ locals_form ◂ codes ";" ▪ blocks_form))

-- a function with its name
abbrev pub with_name : ℕ → FunctionBody → Function
with_name n f = record { name = n; args = f.args; ret = f.ret; locals = f.locals; blocks = f.blocks }

-- inside the function of this number
abbrev pub inside_function : ℕ → Scope → Scope
inside_function k scope = record { known = scope.known; function = k }

-- the function of number k, of which there may be 256
unfoldable pub function_form : ℕ → Writing Function
function_form k =
    codes "fn" ▸ Then with_name (name_form (nat_le max_items k) (DefinesFunction k)) (In (inside_function k) body_form)

-- a repeat, which is 1 where none is written
unfoldable pub repeat_form : Writing ℕ
repeat_form = Either (is_word (codes "*")) (codes "*" ▸ token judged_repeat) (Empty 1)

-- a number of at most 255, `?` or `&`
abbrev pub item_word_of : List ℕ → Option ItemWord
item_word_of text =
    if is_number text then (if nat_le (value_of text) 255 then Some (item_word.Byte (value_of text)) else None)
    else (if is_word (codes "?") text then Some item_word.Uninit
    else (if is_word (codes "&") text then Some item_word.Reloc else None))

-- a pointer in a global
unfoldable pub reloc_form : Writing Item_
reloc_form = Then (λ to offset. item.Reloc to offset) target_use (codes "+" ▸ u64_form)

-- what stands behind the word of an item
abbrev pub item_behind : ItemWord → Writing Item_
item_behind (item_word.Byte b) = giving (item.Byte b) repeat_form
item_behind item_word.Uninit = giving item.Uninit repeat_form
item_behind item_word.Reloc = reloc_form

-- which item a word begins
unfoldable pub judged_item : Word → Judged ItemWord
judged_item w = fine (item_word_of w.text)

-- an item of a global
unfoldable pub item_form : Writing Item_
item_form = Cases (λ scope. judged_item) item_behind

-- the items of a global
unfoldable pub items_form : Writing (List Item_)
items_form = Many (other_than (codes "}")) (λ k. item_form)

-- the global of number k, of which there may be 256
unfoldable pub global_form : ℕ → Writing Global_
global_form k =
    codes "global" ▸ Then (λ head items. record { name = head.0; align = head.1; items = items })
    (name_form (nat_le max_items k) (DefinesGlobal k) ▪ codes "align" ▸ u64_form) (within Curly items_form)

-- a program without its names
pub record ProgramBody : Type 0 where
  pub edition : ℕ
  pub globals : List Global_
  pub functions : List Function
  pub start : FnName

-- the globals
unfoldable pub globals_form : Writing (List Global_)
globals_form = Many (is_word (codes "global")) global_form

-- the functions
unfoldable pub functions_form : Writing (List Function)
functions_form = Many (is_word (codes "fn")) function_form

-- the edition that a word names
unfoldable pub judged_edition : Word → Judged ℕ
judged_edition w = fine (looked_up edition_words w.text)

-- a program
unfoldable pub program_form : Writing ProgramBody
program_form =
    codes "minirust" ▸ Then (λ edition parts.
    record { edition = edition; globals = parts.0.0; functions = parts.0.1; start = parts.1 })
    (token judged_edition) ((globals_form ▪ functions_form) ▪ codes "main" ▸ function_use)
