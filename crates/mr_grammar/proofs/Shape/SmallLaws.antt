-- A row without a broken limit writes no more of anything than a text may have, whatever its names stand for.
use Rattle.mr_grammar.proofs.Common.{List, length, ◌≤◌, ℕ, Bool, ◌≡◌, false, ◌<◌, suc, arith, [], ◌∷◌, AllByRecursion, length-map, All-from_recursion, Function, Role, Word, ProgramBody, local_form, locals_form, block_form, blocks_form, global_form, body_form, function_form, program_form, globals_form, functions_form, Scope, SpelledPart, name_form, function_names_in, Writes, definitions_in}
use Rattle.std.specs.Str.{IsAscii}
use Rattle.std.proofs.lemmas.List.Elements.{All-map}
use Rattle.mr_words.specs.Defined.{text_at}
use Rattle.mr_words.specs.Naming.{IsSmallFunction, IsSmall}
use Rattle.mr_grammar.proofs.Shape.ShapedBlocks.{each_few}
use Rattle.mr_grammar.proofs.Shape.ShapedNames.{name_fine, below}
use Rattle.mr_grammar.proofs.Walk.EnsureLaws.{Parts, Ensures, ensures_cases, ensures_empty, ensures_then, ensures_any, ensures_many, ensures_behind, ensures_pair, ensures_within, ensures_before, ensures_in, each_also}

-- as many locals and blocks as a function may have
abbrev pub FewInside : List Function → Type 0
FewInside fs = AllByRecursion (λ f. (length f.locals ≤ 256) × (length f.blocks ≤ 1024)) fs

-- as many globals and functions as a text may have
pub record FewParts (body : ProgramBody) : Type 0 where
  pub few_globals : length body.globals ≤ 256
  pub few_functions : length body.functions ≤ 256
  pub few_inside : FewInside body.functions

module _ {height room : ℕ} {part : Parts} {scope : Scope} where
  few_name : (over : Bool) (role : Role) → Ensures height room part scope (name_form over role) (λ n. over ≡ false)
  few_name over role = ensures_cases (λ w n e. ensures_empty (name_fine over role scope w n e).0)

  few_local : (k : ℕ) → Ensures height room part scope (local_form k) (λ l. k < 256)
  unfolding local_form
  few_local k = ensures_then (few_name _ _) ensures_any (λ name t p q. below k 256 p)

  few_locals : Ensures height room part scope locals_form (λ ls. length ls ≤ 256)
  unfolding locals_form
  few_locals =
      ensures_then (few_local 0) (ensures_many (λ k. ensures_behind (few_local (suc k))))
      (λ l ls one each. omega (arith, each_few _ 255 (λ k x less. omega arith) 0 ls (omega arith) each))

  few_block : (k : ℕ) → Ensures height room part scope (block_form k) (λ b. k < 1024)
  unfolding block_form
  few_block k = ensures_then (ensures_pair (few_name _ _) ensures_any) ensures_any (λ head body p q. below k 1024 p.0)

  few_blocks : Ensures height room part scope blocks_form (λ bs. length bs ≤ 1024)
  unfolding blocks_form
  few_blocks =
      ensures_then (few_block 0) (ensures_many (λ k. few_block (suc k)))
      (λ b bs one each. omega (arith, each_few _ 1023 (λ k x less. omega arith) 0 bs (omega arith) each))

  few_global : (k : ℕ) → Ensures height room part scope (global_form k) (λ g. k < 256)
  unfolding global_form
  few_global k = ensures_behind (ensures_then (ensures_pair (few_name _ _) ensures_any) ensures_any (λ head items p q. below k 256 p.0))

few_body : {height room : ℕ} {part : Parts} {scope : Scope} → Ensures height room part scope body_form (λ f. (length f.locals ≤ 256) × (length f.blocks ≤ 1024))
unfolding body_form
few_body = ensures_then ensures_any (ensures_within (λ lower e. ensures_pair (ensures_behind (ensures_before few_locals)) few_blocks)) (λ head body p q. q)

few_function : {height room : ℕ} {part : Parts} {scope : Scope} (k : ℕ)
    → Ensures height room part scope (function_form k) (λ f. (k < 256) × ((length f.locals ≤ 256) × (length f.blocks ≤ 1024)))
unfolding function_form
few_function k = ensures_behind (ensures_then (few_name _ _) (ensures_in few_body) (λ n body p q. (below k 256 p, q)))

few_program : {height room : ℕ} {part : Parts} {scope : Scope} → Ensures height room part scope program_form FewParts
unfolding program_form globals_form functions_form
few_program =
    ensures_behind (ensures_then ensures_any (ensures_pair (ensures_pair (ensures_many few_global) (ensures_many few_function)) ensures_any)
    (λ edition parts u q. record {
      few_globals = omega (arith, each_few _ 256 (λ k g less. less) 0 parts.0.0 (omega arith) q.0.0);
      few_functions = omega (arith, each_few _ 256 (λ k f one. one.0) 0 parts.0.1 (omega arith) q.0.1);
      few_inside = each_also _ (λ f. (length f.locals ≤ 256) × (length f.blocks ≤ 1024)) (λ k f one. one.1) 0 parts.0.1 q.0.1;
    }))

-- what the words write has no more of anything than a text may have
pub few_written : (scope : Scope) (words : List Word) (body : ProgramBody) → Writes scope words body → FewParts body
few_written scope words body w =
    let law : Ensures w.written.0 32 (SpelledPart w.written.0) scope program_form FewParts = few_program in
    law.holds body w.marks w.fine w.written.1

function_small : (words : List Word) → ((n : ℕ) → IsAscii (text_at words n)) → (f : Function) → (length f.locals ≤ 256) × (length f.blocks ≤ 1024) → IsSmallFunction (function_names_in words f)
function_small words ascii f few = record {
  name = ascii f.name;
  locals = All-map IsAscii (λ l. text_at words l.name) f.locals (λ k d lt. ascii _);
  blocks = All-map IsAscii (λ b. text_at words b.name) f.blocks (λ k d lt. ascii _);
  few_locals = omega (arith, few.0, length-map f.locals (λ l. text_at words l.name));
  few_blocks = omega (arith, few.1, length-map f.blocks (λ b. text_at words b.name));
}

functions_small : (words : List Word) → ((n : ℕ) → IsAscii (text_at words n)) → (fs : List Function) → FewInside fs → AllByRecursion (λ f. IsSmallFunction (function_names_in words f)) fs
functions_small words ascii [] few = tt
functions_small words ascii (f ∷ fs) few = (function_small words ascii f few.0, functions_small words ascii fs few.1)

-- so the names that it defines can be held
pub names_small : (words : List Word) (body : ProgramBody) → ((n : ℕ) → IsAscii (text_at words n)) → FewParts body → IsSmall (definitions_in words body)
names_small words body ascii few = record {
  globals = All-map IsAscii (λ g. text_at words g.name) body.globals (λ k d lt. ascii _);
  functions = All-map IsSmallFunction (function_names_in words) body.functions
      (All-from_recursion (λ f. IsSmallFunction (function_names_in words f)) body.functions (functions_small words ascii body.functions few.few_inside));
  few_globals = omega (arith, few.few_globals, length-map body.globals (λ g. text_at words g.name));
  few_functions = omega (arith, few.few_functions, length-map body.functions (function_names_in words));
}
