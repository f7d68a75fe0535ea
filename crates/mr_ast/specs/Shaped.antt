-- The shaped programs: those whose every name stands for something and whose every number the text form can write,
-- within the limits. Each program that a text denotes is shaped.
use Rattle.std.specs.Prelude.{◌≡◌, ℕ, ◌<◌, ◌≤◌, ◌^◌, Bool, true, ◌&&◌, nat_lt, length, All, Option, None, Some}
use Rattle.std.specs.List.{AllPass, list_all}
use Rattle.mr_ast.specs.Limits.{max_blocks, max_items, max_size, max_stmts}
use Rattle.mr_ast.specs.declared.types.Num.{Num}
use Rattle.mr_ast.specs.declared.expr.Place.{Place}
use Rattle.mr_ast.specs.declared.program.LocalName.{LocalName}
use Rattle.mr_ast.specs.declared.program.BlockName.{BlockName}
use Rattle.mr_ast.specs.declared.program.Target.{Target}
use Rattle.mr_ast.specs.declared.program.Target.TheVariants as target
use Rattle.mr_ast.specs.declared.program.Item_.{Item_}
use Rattle.mr_ast.specs.declared.program.Item_.TheVariants as item
use Rattle.mr_ast.specs.declared.program.Global_.{Global_}
use Rattle.mr_ast.specs.declared.program.Local.{Local}
use Rattle.mr_ast.specs.declared.program.Stmt.{Stmt}
use Rattle.mr_ast.specs.declared.program.Stmt.TheVariants as stmt
use Rattle.mr_ast.specs.declared.program.Term.{Term}
use Rattle.mr_ast.specs.declared.program.Term.TheVariants as term
use Rattle.mr_ast.specs.declared.program.Block.{Block}
use Rattle.mr_ast.specs.declared.program.Function.{Function}
use Rattle.mr_ast.specs.declared.program.Program.{Program}
use Rattle.mr_ast.specs.Words.{IsEdition}
use Rattle.mr_ast.specs.ShapedTypes.{is_shaped_num, is_shaped_type}
use Rattle.mr_ast.specs.ShapedValues.{Named, is_shaped_place, is_shaped_value}

-- what can be named inside a function of a program
abbrev pub named_in : Program → Function → Named
named_in p f = record {
  globals = length p.globals;
  functions = length p.functions;
  locals = length f.locals;
  blocks = length f.blocks;
}

-- the name's number is a position in the function's locals
abbrev pub is_local : Named → LocalName → Bool
is_local named x = nat_lt x.0 named.locals

-- the name's number is a position in the function's blocks
abbrev pub is_block : Named → BlockName → Bool
is_block named b = nat_lt b.0 named.blocks

-- a block that may be missing is one of the function's where it is there
abbrev pub is_optional_block : Named → Option BlockName → Bool
is_optional_block named None = true
is_optional_block named (Some b) = is_block named b

-- the same of the place for a result
abbrev pub is_optional_place : Named → Option Place → Bool
is_optional_place named None = true
is_optional_place named (Some place) = is_shaped_place named place

-- a number of a switch, and the block for it
abbrev pub is_shaped_target : Named → Num × BlockName → Bool
is_shaped_target named c = is_shaped_num c.0 && is_block named c.1

-- each name in the statement is a position, and each number can be written
abbrev pub is_shaped_stmt : Named → Stmt → Bool
is_shaped_stmt named (stmt.Live x) = is_local named x
is_shaped_stmt named (stmt.Dead x) = is_local named x
is_shaped_stmt named (stmt.Assign place value) = is_shaped_place named place && is_shaped_value named value
is_shaped_stmt named (stmt.Mention place) = is_shaped_place named place
is_shaped_stmt named (stmt.Disc place number) = is_shaped_place named place && is_shaped_num number
is_shaped_stmt named (stmt.Deinit place) = is_shaped_place named place
is_shaped_stmt named (stmt.Validate place) = is_shaped_place named place

-- the same of the end of a block
abbrev pub is_shaped_term : Named → Term → Bool
is_shaped_term named (term.Goto b) = is_block named b
is_shaped_term named (term.Switch value cases other) =
    is_shaped_value named value && (list_all (is_shaped_target named) cases && is_block named other)
is_shaped_term named term.Unreachable = true
is_shaped_term named term.Return = true
is_shaped_term named term.Exit = true
is_shaped_term named term.Abort = true
is_shaped_term named term.Resume = true
is_shaped_term named (term.Stop b) = is_block named b
is_shaped_term named (term.Unwind payload b) = is_shaped_value named payload && is_block named b
is_shaped_term named (term.Call callee args place next unwind) =
    is_shaped_value named callee
    && (list_all (is_shaped_value named) args
    && (is_shaped_place named place && (is_optional_block named next && is_optional_block named unwind)))
is_shaped_term named (term.Do intrinsic args place next) =
    list_all (is_shaped_value named) args && (is_optional_place named place && is_block named next)

-- the number of a text that the program holds
abbrev pub IsText : Program → ℕ → Type 0
IsText p n = n < length p.names

-- how often an item stands in a row
pub record IsRepeat (n : ℕ) : Type 0 where
  pub some : 1 ≤ n
  pub bounded : n ≤ max_size

-- what an item points to is one of the program's globals or functions
abbrev pub IsTarget : Program → Target → Type 0
IsTarget p (target.Global g) = g.0 < length p.globals
IsTarget p (target.Function f) = f.0 < length p.functions

-- an item is a byte or uninitialised, 1 to 2^20 times, or points to something of the program
abbrev pub ShapedItem : Program → Item_ → Type 0
ShapedItem p (item.Byte value repeat) = (value ≤ 255) × IsRepeat repeat
ShapedItem p (item.Uninit repeat) = IsRepeat repeat
ShapedItem p (item.Reloc to offset) = IsTarget p to × (offset < 2 ^ 64)

-- a global's name is held, and its numbers can be written
pub record ShapedGlobal (p : Program) (g : Global_) : Type 0 where
  pub name : IsText p g.name
  pub align : g.align < 2 ^ 64
  pub items : All (ShapedItem p) g.items

-- a local's name is held, and its type can be written
pub record ShapedLocal (p : Program) (l : Local) : Type 0 where
  pub name : IsText p l.name
  pub ty : is_shaped_type l.ty ≡ true

-- a block's name is held, its statements and its end are shaped, and its statements keep the limit
pub record ShapedBlock (p : Program) (f : Function) (b : Block) : Type 0 where
  pub name : IsText p b.name
  pub stmts : AllPass (is_shaped_stmt (named_in p f)) b.stmts
  pub term : is_shaped_term (named_in p f) b.term ≡ true
  pub few_stmts : length b.stmts ≤ max_stmts

-- a function's name is held, its arguments and its return local are locals of its own, it begins at a first block, and
-- it keeps the limits
pub record ShapedFunction (p : Program) (f : Function) : Type 0 where
  pub name : IsText p f.name
  pub args : All (λ (x : LocalName). x.0 < length f.locals) f.args
  pub ret : f.ret.0 < length f.locals
  pub locals : All (ShapedLocal p) f.locals
  pub blocks : All (ShapedBlock p f) f.blocks
  pub has_start : 0 < length f.blocks
  pub few_locals : length f.locals ≤ max_items
  pub few_blocks : length f.blocks ≤ max_blocks

-- a program of an edition that there is, whose globals and functions are shaped, whose start is one of its
-- functions, and which keeps the limits
pub record Shaped (p : Program) : Type 0 where
  pub edition : IsEdition p.edition
  pub globals : All (ShapedGlobal p) p.globals
  pub functions : All (ShapedFunction p) p.functions
  pub start : p.start.0 < length p.functions
  pub few_globals : length p.globals ≤ max_items
  pub few_functions : length p.functions ≤ max_items
