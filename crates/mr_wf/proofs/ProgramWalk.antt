-- The computed walk over a program gives its first fault, or none where there is none.
use Rattle.mr_wf.proofs.Common.{◌≡◌, ℕ, suc, Bool, true, List, [], ◌∷◌, ◌++◌, length, Option, None, Some, All, Ok, Err, refl, sym, ap, subst, append_assoc, slice_get, Rule, Block, BlockName, sizes_of, kept, sound_type, Judged, judged_stmt, Walked, ◌then◌, each_walked, judged_global, judged_items, placed, walked_block, walked_function, walked_global, walked_local, walked_stmt}
use Rattle.std.specs.List.{flat_map}
use Rattle.std.proofs.lemmas.List.Elements.{All-head, All-tail}
use Rattle.mr_ast.specs.declared.program.Function.{Function}
use Rattle.mr_ast.specs.declared.program.Global_.{Global_}
use Rattle.mr_ast.specs.declared.program.Item_.{Item_}
use Rattle.mr_ast.specs.declared.program.Program.{Program}
use Rattle.mr_ast.specs.declared.program.Stmt.{Stmt}
use Rattle.mr_ast.specs.Shaped.{Shaped, ShapedBlock, ShapedFunction, ShapedGlobal, ShapedLocal, is_shaped_stmt, named_in}
use Rattle.mr_typing.specs.declared.fault.FormFault.{FormFault}
use Rattle.mr_typing.specs.declared.fault.Item.{Item}
use Rattle.mr_typing.specs.Blocks.{broken_in_stmt, broken_in_term}
use Rattle.mr_typing.specs.Broken.{Rules, of_type, rule, surroundings}
use Rattle.mr_typing.specs.JudgingBlocks.{judged_term}
use Rattle.mr_typing.specs.Walk.{FirstBroken, WellFormed, are_arguments, at_position, begins_regular, broken_in_global, each_at, faults_in_block, faults_in_function, faults_in_global, faults_in_local, faults_in_stmt, faults_of, is_global_form, is_main_form, is_target}
use Rattle.mr_typing.proofs.Tells.{Any, Tells, tells_kept, tells_then, tells_type}
use Rattle.mr_typing.proofs.StmtWalk.{stmt_told, term_told}
use Rattle.mr_wf.specs.JudgingPrograms.{walked, walked_head}
use Rattle.mr_ast.specs.declared.rule.Rule.TheVariants as form
use Rattle.mr_typing.specs.declared.fault.Item.TheVariants.{Static, Function as InFunction}

-- ---- positions

-- A walk finds the faults: there are none; or it gives the first of them.
abbrev pub Finds : Walked → List FormFault → Type 0
Finds (Ok u) faults = faults ≡ []
Finds (Err fault) faults = (rest : List FormFault) × (faults ≡ fault ∷ rest)

pub finds_then : (w v : Walked) (a b : List FormFault) → Finds w a → Finds v b → Finds (w then v) (a ++ b)
finds_then (Ok u) v a b first next = subst (λ (x : List FormFault). Finds v (x ++ b)) (sym first) next
finds_then (Err fault) v a b first next = (first.0 ++ b, ap (λ (x : List FormFault). x ++ b) first.1)

-- three lists of faults in a row
finds_right : (w : Walked) (a b c : List FormFault) → Finds w (a ++ (b ++ c)) → Finds w ((a ++ b) ++ c)
finds_right w a b c found = subst (λ (faults : List FormFault). Finds w faults) (sym (append_assoc a b c)) found

then_assoc : (u v w : Walked) → ((u then v) then w) ≡ (u then (v then w))
then_assoc (Ok x) v w = refl
then_assoc (Err fault) v w = refl

pub finds_placed : (it : Item) (block : Option BlockName) (place : ℕ) (j : Judged) (rules : Rules) → Tells j rules Any → Finds (placed it block place j) (at_position it block place rules)
finds_placed it block place (Ok u) rules tells = ap (at_position it block place) tells.0
finds_placed it block place (Err broken) rules tells = (at_position it block place tells.0, ap (at_position it block place) tells.1)

pub finds_each : {A : Type 0} (walk : ℕ → A → Walked) (faults : ℕ → A → List FormFault) (P : A → Type 0) → ((k : ℕ) (x : A) → P x → Finds (walk k x) (faults k x))
    → (k : ℕ) (xs : List A) → All P xs → Finds (each_walked walk k xs) (each_at faults k xs)
finds_each walk faults P each k [] all = refl
finds_each walk faults P each k (x ∷ xs) all =
    finds_then (walk k x) (each_walked walk (suc k) xs) (faults k x) (each_at faults (suc k) xs)
    (each k x (All-head P x xs all)) (finds_each walk faults P each (suc k) xs (All-tail P x xs all))

-- ---- globals

abbrev target_rules : List ℕ → Item_ → Rules
target_rules sizes i = rule form.GlobalRef (is_target sizes i)

items_told : (sizes : List ℕ) (items : List Item_) → Tells (judged_items sizes items) (flat_map (target_rules sizes) items) Any
items_told sizes [] = (refl, tt)
items_told sizes (i ∷ items) =
    tells_then (kept form.GlobalRef (is_target sizes i)) (target_rules sizes i) (flat_map (target_rules sizes) items) Any (λ _. judged_items sizes items) Any
    (tells_kept form.GlobalRef (is_target sizes i)) (λ _ _. items_told sizes items)

pub global_told : (sizes : List ℕ) (g : Global_) → Tells (judged_global sizes g) (broken_in_global sizes g) Any
global_told sizes g =
    tells_then (kept form.GlobalForm (is_global_form g)) (rule form.GlobalForm (is_global_form g)) (flat_map (target_rules sizes) g.items) Any (λ _. judged_items sizes g.items) Any
    (tells_kept form.GlobalForm (is_global_form g)) (λ _ _. items_told sizes g.items)

-- ---- functions

module _ (p : Program) (n : ℕ) (f : Function) where
  pub block_found : (k : ℕ) (b : Block) → ShapedBlock p f b → Finds (walked_block n f (surroundings p f) k b) (faults_in_block n f (surroundings p f) k b)
  block_found k b shaped =
      let at = surroundings p f in
      let block : Option BlockName = Some (record { 0 = k }) in
      finds_then (each_walked (walked_stmt n f at k) 0 b.stmts) (placed (InFunction n) block (length b.stmts) (judged_term f at b.kind b.term))
      (each_at (faults_in_stmt n f at block) 0 b.stmts) (at_position (InFunction n) block (length b.stmts) (broken_in_term f at b.kind b.term))
      (finds_each (walked_stmt n f at k) (faults_in_stmt n f at block) (λ (s : Stmt). is_shaped_stmt (named_in p f) s ≡ true)
      (λ place s ok. finds_placed (InFunction n) block place (judged_stmt f at s) (broken_in_stmt f at s) (stmt_told (named_in p f) f at refl s ok)) 0 b.stmts shaped.stmts)
      (finds_placed (InFunction n) block (length b.stmts) (judged_term f at b.kind b.term) (broken_in_term f at b.kind b.term) (term_told (named_in p f) f at refl b.kind b.term shaped.term))

  -- a single rule of the function's own
  own_found : (broken : Rule) (b : Bool) → Finds (placed (InFunction n) None 0 (kept broken b)) (at_position (InFunction n) None 0 (rule broken b))
  own_found broken b = finds_placed (InFunction n) None 0 (kept broken b) (rule broken b) (tells_kept broken b)

  pub function_found : ShapedFunction p f → Finds (walked_function (sizes_of p.globals) n f) (faults_in_function p n f)
  function_found shaped =
      let at = surroundings p f in
      let args = are_arguments f.ret f.args in
      let first = begins_regular f.blocks in
      let args_walk = placed (InFunction n) None 0 (kept form.Arguments args) in
      let first_walk = placed (InFunction n) None 0 (kept form.FirstBlock first) in
      let args_faults = at_position (InFunction n) None 0 (rule form.Arguments args) in
      let first_faults = at_position (InFunction n) None 0 (rule form.FirstBlock first) in
      let blocks_walk = each_walked (walked_block n f at) 0 f.blocks in
      let blocks_faults = each_at (faults_in_block n f at) 0 f.blocks in
      let locals_walk = each_walked (walked_local n) 0 f.locals in
      let locals_faults = each_at (faults_in_local n) 0 f.locals in
      let walk = walked_function (sizes_of p.globals) n f in
      finds_right walk (locals_faults ++ args_faults) first_faults blocks_faults
      (finds_right walk locals_faults args_faults (first_faults ++ blocks_faults)
      (finds_then locals_walk (walked_head n f then blocks_walk) locals_faults (args_faults ++ (first_faults ++ blocks_faults))
      (finds_each (walked_local n) (faults_in_local n) (ShapedLocal p) (λ place l ok. finds_placed (InFunction n) None place (sound_type l.ty) (of_type l.ty) (tells_type l.ty)) 0 f.locals shaped.locals)
      (subst (λ (w : Walked). Finds w (args_faults ++ (first_faults ++ blocks_faults))) (sym (then_assoc args_walk first_walk blocks_walk))
      (finds_then args_walk (first_walk then blocks_walk) args_faults (first_faults ++ blocks_faults) (own_found form.Arguments args)
      (finds_then first_walk blocks_walk first_faults blocks_faults (own_found form.FirstBlock first)
      (finds_each (walked_block n f at) (faults_in_block n f at) (ShapedBlock p f) block_found 0 f.blocks shaped.blocks))))))

-- ---- programs

pub program_found : (p : Program) → Shaped p → Finds (walked p) (faults_of p)
unfolding walked faults_of
program_found p shaped =
    let sizes = sizes_of p.globals in
    let main = is_main_form p in
    let main_walk = placed (InFunction p.start.0) None 0 (kept form.MainForm main) in
    let main_faults = at_position (InFunction p.start.0) None 0 (rule form.MainForm main) in
    let functions_walk = each_walked (walked_function sizes) 0 p.functions in
    let functions_faults = each_at (faults_in_function p) 0 p.functions in
    let globals_walk = each_walked (walked_global sizes) 0 p.globals in
    let globals_faults = each_at (faults_in_global p) 0 p.globals in
    finds_right (globals_walk then (functions_walk then main_walk)) globals_faults functions_faults main_faults
    (finds_then globals_walk (functions_walk then main_walk) globals_faults (functions_faults ++ main_faults)
    (finds_each (walked_global sizes) (faults_in_global p) (ShapedGlobal p)
    (λ n g ok. finds_placed (Static n) None 0 (judged_global sizes g) (broken_in_global sizes g) (global_told sizes g)) 0 p.globals shaped.globals)
    (finds_then functions_walk main_walk functions_faults main_faults
    (finds_each (walked_function sizes) (faults_in_function p) (ShapedFunction p) (function_found p) 0 p.functions shaped.functions)
    (finds_placed (InFunction p.start.0) None 0 (kept form.MainForm main) (rule form.MainForm main) (tells_kept form.MainForm main))))

-- a walk that finds nothing tells that no rule is broken
pub walked_nothing : (p : Program) → Shaped p → walked p ≡ Ok tt → faults_of p ≡ []
walked_nothing p shaped e = subst (λ (w : Walked). Finds w (faults_of p)) e (program_found p shaped)

pub walked_well : (p : Program) → Shaped p → walked p ≡ Ok tt → WellFormed p
walked_well p shaped e = record { shaped = shaped; unbroken = walked_nothing p shaped e }

-- what a walk finds is the first broken rule
pub walked_first : (p : Program) (fault : FormFault) → Shaped p → walked p ≡ Err fault → FirstBroken p fault
walked_first p fault shaped e =
    let found : (rest : List FormFault) × (faults_of p ≡ fault ∷ rest) = subst (λ (w : Walked). Finds w (faults_of p)) e (program_found p shaped) in
    ap (λ (faults : List FormFault). slice_get faults 0) found.1
