-- The faults of a program: each position at which a rule is broken, with its code, in the order of the walk.
-- A type counts with the first rule that it breaks.
use Rattle.std.specs.Prelude.{◌≡◌, ℕ, suc, Bool, true, false, not, ◌&&◌, ◌==◌, nat_le, List, [], ◌∷◌, ◌++◌, map}
use Rattle.std.specs.Prelude.{flat_map, length, Option, None, Some, slice_get}
use Rattle.std.specs.List.{list_any}
use Rattle.mr_ast.specs.FormRules.{code_of}
use Rattle.mr_ast.specs.Limits.{max_size}
use Rattle.mr_ast.specs.declared.rule.Rule.TheVariants as form
use Rattle.mr_ast.specs.declared.program.LocalName.{LocalName}
use Rattle.mr_ast.specs.declared.program.BlockName.{BlockName}
use Rattle.mr_ast.specs.declared.program.BlockKind.TheVariants.{Regular}
use Rattle.mr_ast.specs.declared.program.Target.TheVariants as target
use Rattle.mr_ast.specs.declared.program.Item_.{Item_}
use Rattle.mr_ast.specs.declared.program.Item_.TheVariants as item
use Rattle.mr_ast.specs.declared.program.Global_.{Global_}
use Rattle.mr_ast.specs.declared.program.Local.{Local}
use Rattle.mr_ast.specs.declared.program.Block.{Block}
use Rattle.mr_ast.specs.declared.program.Function.{Function}
use Rattle.mr_ast.specs.declared.program.Program.{Program}
use Rattle.mr_ast.specs.declared.program.Stmt.{Stmt}
use Rattle.mr_ast.specs.Shaped.{Shaped}
use Rattle.mr_layout.specs.Rules.{is_align}
use Rattle.mr_typing.specs.declared.fault.FormFault.{FormFault}
use Rattle.mr_typing.specs.declared.fault.Item.{Item}
use Rattle.mr_typing.specs.declared.fault.Item.TheVariants.{Static, Function as InFunction}
use Rattle.mr_typing.specs.Blocks.{broken_in_stmt, broken_in_term, same_kind}
use Rattle.mr_typing.specs.Broken.{Rules, Surroundings, is_in_global, items_size, of_type, rule, sizes_of, surroundings}

-- ---- positions

-- broken rules at one position
abbrev pub at_position : Item → Option BlockName → ℕ → Rules → List FormFault
at_position it block place rules =
    map (λ broken. record { item = it; block = block; place = place; code = code_of broken }) rules

-- the faults of things in a row, numbered from k on
abbrev pub each_at : {A : Type 0} → (ℕ → A → List FormFault) → ℕ → List A → List FormFault
each_at faults k [] = []
each_at faults k (x ∷ xs) = faults k x ++ each_at faults (suc k) xs

-- ---- globals

-- a pointer in a global points into a global, or to the start of a function
abbrev pub is_target : List ℕ → Item_ → Bool
is_target sizes (item.Reloc (target.Global g) offset) = is_in_global sizes g.0 offset
is_target sizes (item.Reloc (target.Function f) offset) = offset == 0
is_target sizes _ = true

-- a global has at most 2^20 bytes and a lawful alignment
abbrev pub is_global_form : Global_ → Bool
is_global_form g = nat_le (items_size g.items) max_size && is_align g.align

-- the rules that a global breaks: its form, then each of its pointers
abbrev pub broken_in_global : List ℕ → Global_ → Rules
broken_in_global sizes g =
    rule form.GlobalForm (is_global_form g) ++ flat_map (λ i. rule form.GlobalRef (is_target sizes i)) g.items

-- ---- functions

-- no argument stands twice, and none is the return local
abbrev pub are_arguments : LocalName → List LocalName → Bool
are_arguments ret [] = true
are_arguments ret (x ∷ args) =
    not (x.0 == ret.0) && (not (list_any (λ (y : LocalName). y.0 == x.0) args) && are_arguments ret args)

-- the function begins with a regular block
abbrev pub begins_regular : List Block → Bool
begins_regular [] = false
begins_regular (b ∷ blocks) = same_kind Regular b.kind

-- the rules that a statement breaks, at its place in the block
abbrev pub faults_in_stmt : ℕ → Function → Surroundings → Option BlockName → ℕ → Stmt → List FormFault
faults_in_stmt n f at block place s = at_position (InFunction n) block place (broken_in_stmt f at s)

-- a terminator's place is the number of the block's statements
abbrev pub faults_in_block : ℕ → Function → Surroundings → ℕ → Block → List FormFault
faults_in_block n f at k b =
    let block : Option BlockName = Some (record { 0 = k }) in
    each_at (faults_in_stmt n f at block) 0 b.stmts
    ++ at_position (InFunction n) block (length b.stmts) (broken_in_term f at b.kind b.term)

-- the rules that the type of a local breaks, at its place in the function
abbrev pub faults_in_local : ℕ → ℕ → Local → List FormFault
faults_in_local n place l = at_position (InFunction n) None place (of_type l.ty)

-- the types of the locals, the arguments, the first block, and the blocks
abbrev pub faults_in_function : Program → ℕ → Function → List FormFault
faults_in_function p n f =
    each_at (faults_in_local n) 0 f.locals
    ++ at_position (InFunction n) None 0 (rule form.Arguments (are_arguments f.ret f.args))
    ++ at_position (InFunction n) None 0 (rule form.FirstBlock (begins_regular f.blocks))
    ++ each_at (faults_in_block n f (surroundings p f)) 0 f.blocks

-- ---- programs

-- the main function has no arguments
abbrev pub is_main_form : Program → Bool
is_main_form p = elim (slice_get p.functions p.start.0) as (λ _. Bool) [ Some f ↦ length f.args == 0 | None ↦ false ]

-- the rules that a global breaks
abbrev pub faults_in_global : Program → ℕ → Global_ → List FormFault
faults_in_global p n g = at_position (Static n) None 0 (broken_in_global (sizes_of p.globals) g)

-- The faults in the order of the walk: of each type that stands there the first broken rule, and all other ones.
unfoldable pub faults_of : Program → List FormFault
faults_of p =
    each_at (faults_in_global p) 0 p.globals ++ each_at (faults_in_function p) 0 p.functions
    ++ at_position (InFunction p.start.0) None 0 (rule form.MainForm (is_main_form p))

-- the first broken rule of the walk
abbrev pub FirstBroken : Program → FormFault → Type 0
FirstBroken p fault = slice_get (faults_of p) 0 ≡ Some fault

-- A program is well-formed where it is shaped and breaks no rule.
pub record WellFormed (p : Program) : Type 0 where
  pub shaped : Shaped p
  pub unbroken : faults_of p ≡ []
