-- The walk over a program, computed: its first fault, if it has one.
use Rattle.std.specs.Prelude.{ℕ, suc, ◌≤◌, ◌^◌, All, List, [], ◌∷◌, length, Option, None, Some, Result, Ok, Err}
use Rattle.mr_ast.specs.FormRules.{code_of}
use Rattle.mr_ast.specs.declared.rule.Rule.TheVariants as form
use Rattle.mr_ast.specs.declared.program.BlockName.{BlockName}
use Rattle.mr_ast.specs.declared.program.Block.{Block}
use Rattle.mr_ast.specs.declared.program.Function.{Function}
use Rattle.mr_ast.specs.declared.program.Global_.{Global_}
use Rattle.mr_ast.specs.declared.program.Item_.{Item_}
use Rattle.mr_ast.specs.declared.program.Local.{Local}
use Rattle.mr_ast.specs.declared.program.Program.{Program}
use Rattle.mr_ast.specs.declared.program.Stmt.{Stmt}
use Rattle.mr_typing.specs.declared.fault.FormFault.{FormFault}
use Rattle.mr_typing.specs.declared.fault.Item.{Item}
use Rattle.mr_typing.specs.declared.fault.Item.TheVariants.{Static, Function as InFunction}
use Rattle.mr_typing.specs.Broken.{Surroundings, sizes_of}
use Rattle.mr_typing.specs.Judging.{◌>>=◌, kept, sound_type}
use Rattle.mr_typing.specs.JudgingBlocks.{Judged, judged_stmt, judged_term}
use Rattle.mr_typing.specs.Walk.{are_arguments, begins_regular, is_global_form, is_main_form, is_target}

-- ---- positions

abbrev pub Walked : Type 0
Walked = Result (Unit {0}) FormFault

infixl 10 ◌then◌
abbrev pub ◌then◌ : Walked → Walked → Walked
(Ok u) then next = next
(Err fault) then next = Err fault

-- what is judged at a position
abbrev pub placed : Item → Option BlockName → ℕ → Judged → Walked
placed it block place (Ok u) = Ok u
placed it block place (Err broken) = Err (record { item = it; block = block; place = place; code = code_of broken })

-- things in a row, numbered from k on
abbrev pub each_walked : {A : Type 0} → (ℕ → A → Walked) → ℕ → List A → Walked
each_walked walk k [] = Ok tt
each_walked walk k (x ∷ xs) = walk k x then each_walked walk (suc k) xs

-- ---- programs

-- the pointers of a global
abbrev pub judged_items : List ℕ → List Item_ → Judged
judged_items sizes [] = Ok tt
judged_items sizes (i ∷ items) = do
  _ ← kept form.GlobalRef (is_target sizes i)
  judged_items sizes items

abbrev pub judged_global : List ℕ → Global_ → Judged
judged_global sizes g = do
  _ ← kept form.GlobalForm (is_global_form g)
  judged_items sizes g.items

abbrev pub walked_stmt : ℕ → Function → Surroundings → ℕ → ℕ → Stmt → Walked
walked_stmt n f at block place s = placed (InFunction n) (Some (record { 0 = block })) place (judged_stmt f at s)

abbrev pub walked_block : ℕ → Function → Surroundings → ℕ → Block → Walked
walked_block n f at k b =
    each_walked (walked_stmt n f at k) 0 b.stmts
    then placed (InFunction n) (Some (record { 0 = k })) (length b.stmts) (judged_term f at b.kind b.term)

abbrev pub walked_local : ℕ → ℕ → Local → Walked
walked_local n place l = placed (InFunction n) None place (sound_type l.ty)

-- the arguments, and the first block
abbrev pub walked_head : ℕ → Function → Walked
walked_head n f =
    placed (InFunction n) None 0 (kept form.Arguments (are_arguments f.ret f.args))
    then placed (InFunction n) None 0 (kept form.FirstBlock (begins_regular f.blocks))

abbrev pub walked_function : List ℕ → ℕ → Function → Walked
walked_function sizes n f =
    each_walked (walked_local n) 0 f.locals
    then (walked_head n f
    then each_walked (walked_block n f (record { sizes = sizes; locals = f.locals })) 0 f.blocks)

abbrev pub walked_global : List ℕ → ℕ → Global_ → Walked
walked_global sizes n g = placed (Static n) None 0 (judged_global sizes g)

-- the first fault of a program whose globals have these sizes, if it has one
abbrev pub walked_with : List ℕ → Program → Walked
walked_with sizes p =
    each_walked (walked_global sizes) 0 p.globals
    then (each_walked (walked_function sizes) 0 p.functions
    then placed (InFunction p.start.0) None 0 (kept form.MainForm (is_main_form p)))

-- the first fault of a program, if it has one
unfoldable pub walked : Program → Walked
walked p = walked_with (sizes_of p.globals) p

-- a function whose locals, blocks and statements have positions of 32 bits
pub record IsShort (f : Function) : Type 0 where
  pub locals : length f.locals ≤ 2 ^ 20
  pub blocks : length f.blocks ≤ 2 ^ 20
  pub stmts : All (λ (b : Block). length b.stmts ≤ 2 ^ 20) f.blocks
