-- What a program without a fault keeps, part by part.
use Rattle.mr_typing.proofs.Common.{◌≡◌, ℕ, suc, Bool, true, List, [], ◌∷◌, ◌++◌, length, Option, None, Some, All, flat_map, Rule, Function, Local, Stmt, TypeOk, broken_in_parts, broken_in_stmt, broken_in_term, is_allowed, Rules, of_type, rule, surroundings}
use Rattle.std.specs.List.{AllPass}
use Rattle.std.proofs.lemmas.List.Elements.{All-cons, All-nil}
use Rattle.mr_ast.specs.declared.program.Block.{Block}
use Rattle.mr_ast.specs.declared.program.BlockName.{BlockName}
use Rattle.mr_ast.specs.declared.program.Global_.{Global_}
use Rattle.mr_ast.specs.declared.program.Item_.{Item_}
use Rattle.mr_ast.specs.declared.program.Program.{Program}
use Rattle.mr_ast.specs.FormRules.{code_of}
use Rattle.mr_typing.specs.declared.fault.FormFault.{FormFault}
use Rattle.mr_typing.specs.declared.fault.Item.{Item}
use Rattle.mr_typing.specs.Unbroken.{UnbrokenBlock, UnbrokenFunction, UnbrokenGlobal, UnbrokenProgram}
use Rattle.mr_typing.specs.Broken.{sizes_of}
use Rattle.mr_typing.specs.Walk.{WellFormed, are_arguments, at_position, begins_regular, broken_in_global, each_at, faults_in_block, faults_in_function, faults_in_global, faults_in_local, faults_in_stmt, faults_of, is_global_form, is_main_form, is_target}
use Rattle.mr_ast.specs.declared.rule.Rule.TheVariants as form
use Rattle.mr_typing.specs.declared.fault.Item.TheVariants.{Static, Function as InFunction}
use Rattle.mr_typing.proofs.NothingLaws.{both_nothing, map_nothing, rule_kept, three_nothing, type_kept}

-- ---- positions

position_nothing : (it : Item) (block : Option BlockName) (place : ℕ) (rules : Rules) → at_position it block place rules ≡ [] → rules ≡ []
position_nothing it block place rules e = map_nothing (λ (broken : Rule). record { item = it; block = block; place = place; code = code_of broken }) rules e

pub each_nothing : {A : Type 0} (faults : ℕ → A → List FormFault) (P : A → Type 0) → ((k : ℕ) (x : A) → faults k x ≡ [] → P x)
    → (k : ℕ) (xs : List A) → each_at faults k xs ≡ [] → All P xs
each_nothing faults P each k [] e = All-nil P
each_nothing faults P each k (x ∷ xs) e =
    let parts = both_nothing (faults k x) (each_at faults (suc k) xs) e in
    All-cons P x xs (each k x parts.0) (each_nothing faults P each (suc k) xs parts.1)

-- ---- parts of a program

module _ (p : Program) (n : ℕ) (f : Function) where
  pub unbroken_block : (k : ℕ) (b : Block) → faults_in_block n f (surroundings p f) k b ≡ [] → UnbrokenBlock p f b
  unbroken_block k b e =
      let at = surroundings p f in
      let block : Option BlockName = Some (record { 0 = k }) in
      let rules = broken_in_term f at b.kind b.term in
      let each = both_nothing (each_at (faults_in_stmt n f at block) 0 b.stmts) (at_position (InFunction n) block (length b.stmts) rules) e in
      let last = both_nothing (broken_in_parts at b.term) (rule form.BlockKind (is_allowed f b.kind b.term)) (position_nothing (InFunction n) block (length b.stmts) rules each.1) in
      record {
        stmts = each_nothing (faults_in_stmt n f at block) (λ (s : Stmt). broken_in_stmt f at s ≡ []) (λ place s h. position_nothing (InFunction n) block place (broken_in_stmt f at s) h) 0 b.stmts each.0;
        parts = last.0;
        allowed = rule_kept form.BlockKind (is_allowed f b.kind b.term) last.1;
      }

  -- a single rule of the function's own
  own_kept : (broken : Rule) (b : Bool) → at_position (InFunction n) None 0 (rule broken b) ≡ [] → b ≡ true
  own_kept broken b e = rule_kept broken b (position_nothing (InFunction n) None 0 (rule broken b) e)

  pub unbroken_function : faults_in_function p n f ≡ [] → UnbrokenFunction p f
  unbroken_function e =
      let args = are_arguments f.ret f.args in
      let first = begins_regular f.blocks in
      let locals_faults = each_at (faults_in_local n) 0 f.locals in
      let args_faults = at_position (InFunction n) None 0 (rule form.Arguments args) in
      let first_faults = at_position (InFunction n) None 0 (rule form.FirstBlock first) in
      let blocks_faults = each_at (faults_in_block n f (surroundings p f)) 0 f.blocks in
      let outer = both_nothing ((locals_faults ++ args_faults) ++ first_faults) blocks_faults e in
      let inner = three_nothing locals_faults args_faults first_faults outer.0 in
      record {
        locals = each_nothing (faults_in_local n) (λ (l : Local). TypeOk l.ty) (λ place l h. type_kept l.ty (position_nothing (InFunction n) None place (of_type l.ty) h)) 0 f.locals inner.0;
        args = own_kept form.Arguments args inner.1;
        first = own_kept form.FirstBlock first inner.2;
        blocks = each_nothing (faults_in_block n f (surroundings p f)) (UnbrokenBlock p f) unbroken_block 0 f.blocks outer.1;
      }

items_kept : (sizes : List ℕ) (items : List Item_) → flat_map (λ i. rule form.GlobalRef (is_target sizes i)) items ≡ [] → AllPass (is_target sizes) items
items_kept sizes [] e = All-nil (λ (i : Item_). is_target sizes i ≡ true)
items_kept sizes (i ∷ items) e =
    let parts = both_nothing (rule form.GlobalRef (is_target sizes i)) (flat_map (λ j. rule form.GlobalRef (is_target sizes j)) items) e in
    All-cons (λ (j : Item_). is_target sizes j ≡ true) i items (rule_kept form.GlobalRef (is_target sizes i) parts.0) (items_kept sizes items parts.1)

pub unbroken_global : (p : Program) (g : Global_) → broken_in_global (sizes_of p.globals) g ≡ [] → UnbrokenGlobal p g
unbroken_global p g e =
    let sizes = sizes_of p.globals in
    let parts = both_nothing (rule form.GlobalForm (is_global_form g)) (flat_map (λ i. rule form.GlobalRef (is_target sizes i)) g.items) e in
    record { form = rule_kept form.GlobalForm (is_global_form g) parts.0; targets = items_kept sizes g.items parts.1 }

pub unbroken_program : (p : Program) → faults_of p ≡ [] → UnbrokenProgram p
unfolding faults_of
unbroken_program p e =
    let main = rule form.MainForm (is_main_form p) in
    let parts = three_nothing (each_at (faults_in_global p) 0 p.globals) (each_at (faults_in_function p) 0 p.functions) (at_position (InFunction p.start.0) None 0 main) e in
    record {
      globals = each_nothing (faults_in_global p) (UnbrokenGlobal p) (λ n g h. unbroken_global p g (position_nothing (Static n) None 0 (broken_in_global (sizes_of p.globals) g) h)) 0 p.globals parts.0;
      functions = each_nothing (faults_in_function p) (UnbrokenFunction p) (unbroken_function p) 0 p.functions parts.1;
      main = rule_kept form.MainForm (is_main_form p) (position_nothing (InFunction p.start.0) None 0 main parts.2);
    }

pub well_formed_keeps : (p : Program) → WellFormed p → UnbrokenProgram p
well_formed_keeps p well = unbroken_program p well.unbroken
