-- What a well-formed program keeps, part by part.
use Rattle.std.specs.Prelude.{◌≡◌, true, All, []}
use Rattle.std.specs.List.{AllPass}
use Rattle.mr_ast.specs.declared.program.Block.{Block}
use Rattle.mr_ast.specs.declared.program.Function.{Function}
use Rattle.mr_ast.specs.declared.program.Global_.{Global_}
use Rattle.mr_ast.specs.declared.program.Local.{Local}
use Rattle.mr_ast.specs.declared.program.Program.{Program}
use Rattle.mr_ast.specs.declared.program.Stmt.{Stmt}
use Rattle.mr_layout.specs.TypeOk.{TypeOk}
use Rattle.mr_typing.specs.Blocks.{broken_in_parts, broken_in_stmt, is_allowed}
use Rattle.mr_typing.specs.Broken.{sizes_of, surroundings}
use Rattle.mr_typing.specs.Walk.{are_arguments, begins_regular, is_global_form, is_main_form, is_target}

-- a block whose statements break no rule, and whose terminator breaks none and may end it
pub record UnbrokenBlock (p : Program) (f : Function) (b : Block) : Type 0 where
  pub stmts : All (λ (s : Stmt). broken_in_stmt f (surroundings p f) s ≡ []) b.stmts
  pub parts : broken_in_parts (surroundings p f) b.term ≡ []
  pub allowed : is_allowed f b.kind b.term ≡ true

-- a function with well-formed types, arguments of its own, a regular block first, and blocks that break no rule
pub record UnbrokenFunction (p : Program) (f : Function) : Type 0 where
  pub locals : All (λ (l : Local). TypeOk l.ty) f.locals
  pub args : are_arguments f.ret f.args ≡ true
  pub first : begins_regular f.blocks ≡ true
  pub blocks : All (UnbrokenBlock p f) f.blocks

-- a global of a good form, whose pointers point into globals and to functions
pub record UnbrokenGlobal (p : Program) (g : Global_) : Type 0 where
  pub form : is_global_form g ≡ true
  pub targets : AllPass (is_target (sizes_of p.globals)) g.items

pub record UnbrokenProgram (p : Program) : Type 0 where
  pub globals : All (UnbrokenGlobal p) p.globals
  pub functions : All (UnbrokenFunction p) p.functions
  pub main : is_main_form p ≡ true
