-- A program each of whose parts keeps its rules has no fault.
use Rattle.mr_gen.proofs.Common.{◌≡◌, ℕ, suc, Bool, true, List, [], ◌∷◌, ◌++◌, length, Option, None, Some, All, refl, ap, BlockName, Function, Local, Program, Stmt, broken_in_stmt, sizes_of, surroundings}
use Rattle.std.specs.List.{AllPass, flat_map}
use Rattle.std.proofs.lemmas.List.Elements.{All-head, All-tail}
use Rattle.mr_ast.specs.declared.rule.Rule.{Rule}
use Rattle.mr_ast.specs.declared.program.Block.{Block}
use Rattle.mr_ast.specs.declared.program.Global_.{Global_}
use Rattle.mr_ast.specs.declared.program.Item_.{Item_}
use Rattle.mr_layout.specs.TypeOk.{TypeOk}
use Rattle.mr_typing.specs.declared.fault.FormFault.{FormFault}
use Rattle.mr_typing.specs.declared.fault.Item.{Item}
use Rattle.mr_typing.specs.Unbroken.{UnbrokenBlock, UnbrokenFunction, UnbrokenGlobal, UnbrokenProgram}
use Rattle.mr_typing.specs.Broken.{Rules, rule}
use Rattle.mr_typing.specs.Walk.{at_position, each_at, faults_in_block, faults_in_function, faults_in_global, faults_in_local, faults_in_stmt, faults_of, is_target}
use Rattle.mr_typing.proofs.NothingLaws.{type_nothing}
use Rattle.mr_ast.specs.declared.rule.Rule.TheVariants as form
use Rattle.mr_typing.specs.declared.fault.Item.TheVariants.{Static, Function as InFunction}

-- ---- lists of nothing

-- two lists of nothing, one behind the other
pub both_nothing : {A : Type 0} {a b : List A} → a ≡ [] → b ≡ [] → a ++ b ≡ []
both_nothing x y = (λ i. x i ++ y i)

-- a rule that is kept
pub rule_nothing : (broken : Rule) {kept : Bool} → kept ≡ true → rule broken kept ≡ []
rule_nothing broken e = ap (rule broken) e

position_nothing : (it : Item) (block : Option BlockName) (place : ℕ) {rules : Rules} → rules ≡ [] → at_position it block place rules ≡ []
position_nothing it block place e = ap (at_position it block place) e

each_nothing : {A : Type 0} (faults : ℕ → A → List FormFault) (P : A → Type 0) → ((k : ℕ) (x : A) → P x → faults k x ≡ [])
    → (k : ℕ) (xs : List A) → All P xs → each_at faults k xs ≡ []
each_nothing faults P each k [] all = refl
each_nothing faults P each k (x ∷ xs) all =
    both_nothing (each k x (All-head P x xs all)) (each_nothing faults P each (suc k) xs (All-tail P x xs all))

-- ---- parts of a program

module _ (p : Program) (n : ℕ) (f : Function) where
  block_nothing : (k : ℕ) (b : Block) → UnbrokenBlock p f b → faults_in_block n f (surroundings p f) k b ≡ []
  block_nothing k b whole =
      let at = surroundings p f in
      let block : Option BlockName = Some (record { 0 = k }) in
      both_nothing
      (each_nothing (faults_in_stmt n f at block) (λ (s : Stmt). broken_in_stmt f at s ≡ []) (λ place s h. position_nothing (InFunction n) block place h) 0 b.stmts whole.stmts)
      (position_nothing (InFunction n) block (length b.stmts) (both_nothing whole.parts (rule_nothing form.BlockKind whole.allowed)))

  function_nothing : UnbrokenFunction p f → faults_in_function p n f ≡ []
  function_nothing whole =
      let locals = each_nothing (faults_in_local n) (λ (l : Local). TypeOk l.ty) (λ place l h. position_nothing (InFunction n) None place (type_nothing l.ty h)) 0 f.locals whole.locals in
      let args = position_nothing (InFunction n) None 0 (rule_nothing form.Arguments whole.args) in
      let first = position_nothing (InFunction n) None 0 (rule_nothing form.FirstBlock whole.first) in
      let blocks = each_nothing (faults_in_block n f (surroundings p f)) (UnbrokenBlock p f) block_nothing 0 f.blocks whole.blocks in
      both_nothing (both_nothing (both_nothing locals args) first) blocks

items_nothing : (sizes : List ℕ) (items : List Item_) → AllPass (is_target sizes) items → flat_map (λ i. rule form.GlobalRef (is_target sizes i)) items ≡ []
items_nothing sizes [] all = refl
items_nothing sizes (i ∷ items) all =
    let P = λ (j : Item_). is_target sizes j ≡ true in
    both_nothing (rule_nothing form.GlobalRef (All-head P i items all)) (items_nothing sizes items (All-tail P i items all))

global_nothing : (p : Program) (n : ℕ) (g : Global_) → UnbrokenGlobal p g → faults_in_global p n g ≡ []
global_nothing p n g whole =
    position_nothing (Static n) None 0 (both_nothing (rule_nothing form.GlobalForm whole.form) (items_nothing (sizes_of p.globals) g.items whole.targets))

pub program_nothing : (p : Program) → UnbrokenProgram p → faults_of p ≡ []
unfolding faults_of
program_nothing p whole =
    let globals = each_nothing (faults_in_global p) (UnbrokenGlobal p) (global_nothing p) 0 p.globals whole.globals in
    let functions = each_nothing (faults_in_function p) (UnbrokenFunction p) (function_nothing p) 0 p.functions whole.functions in
    both_nothing (both_nothing globals functions) (position_nothing (InFunction p.start.0) None 0 (rule_nothing form.MainForm whole.main))
