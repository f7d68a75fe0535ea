-- The names that a row without a broken limit writes, where the text's definitions are known.
use Rattle.mr_grammar.proofs.Common.{ℕ, ◌≡◌, false, ◌<◌, arith, Bool, Some, None, true, refl, Option, if◌then◌else◌, ap, length, ◌+◌, sym, ◌-◌, ◌≤◌, map, ◌∙◌, List, nat_le, nat_lt, nat_tests, length-map, lt_from, lt_test, some_is, Target, Role, UsesLocal, UsesBlock, UsesFunction, UsesGlobal, Word, Scope, name_number, name_target, Definitions, target_of, item_names, number_of_name, number_in, is_local, Named, is_name, judged_name, judged_target, name_form, local_use, block_use, function_use, global_use, target_use, named_at, scope_at, use_local, use_block, use_function, use_global, number_within}
use Rattle.std.proofs.lemmas.List.{length-append}
use Rattle.mr_ast.specs.Shaped.{is_block}
use Rattle.mr_ast.specs.declared.program.Target.TheVariants as target
use Rattle.mr_grammar.proofs.Walk.EnsureLaws.{Parts, Ensures, ensures_cases, ensures_empty, ensures_giving}

pub below : (m n : ℕ) → nat_le n m ≡ false → m < n
below m n e = grind (arith, nat_tests)

-- a name that breaks no limit: it isn't one too many, and what it stands for is no fault
pub name_fine : (over : Bool) (role : Role) (scope : Scope) (w : Word) (n : ℕ) → judged_name over role scope w ≡ Some (n, None)
    → (over ≡ false) × (is_name w.text ≡ true) × (name_number scope role w ≡ (n, None))
unfolding judged_name
name_fine over role scope w n e = go (is_name w.text) over (name_number scope role w) refl e
  where
    go : (name many : Bool) (found : ℕ × Option ℕ) → is_name w.text ≡ name
        → ◌≡◌ {A = Option (ℕ × Option ℕ)} (if name then Some (found.0, if many then Some 8 else found.1) else None) (Some (n, None))
        → (many ≡ false) × (is_name w.text ≡ true) × (found ≡ (n, None))
    go false many found is e = absurd (cc)
    go true true found is e = let clash = ap (λ p. p.1) (some_is e) in absurd (cc)
    go true false found is e = (refl, is, some_is e)

-- the name of a global or of a function that breaks no limit
pub target_named : (scope : Scope) (w : Word) (t : Target) → judged_target scope w ≡ Some (t, None) → (is_name w.text ≡ true) × (name_target scope w ≡ (t, None))
unfolding judged_target
target_named scope w t e = go (is_name w.text) refl e
  where
    go : (name : Bool) → is_name w.text ≡ name → (if name then Some (name_target scope w) else None) ≡ Some (t, None)
        → (is_name w.text ≡ true) × (name_target scope w ≡ (t, None))
    go true is e = (is, some_is e)
    go false is e = absurd (cc)

-- a target is one of the text's globals or functions
abbrev pub IsWithin : Named → Target → Type 0
IsWithin named (target.Global g) = g.0 < named.globals
IsWithin named (target.Function f) = f.0 < named.functions

target_fine : (d : Definitions) (k : ℕ) (found : Option ℕ) (t : Target) → ((n : ℕ) → found ≡ Some n → n < length d.globals + length d.functions)
    → target_of (length d.globals) found ≡ (t, None) → IsWithin (named_at d k) t
target_fine d k None t within e = let clash = ap (λ p. p.1) e in absurd (cc)
target_fine d k (Some n) t within e = rw (sym (ap (λ p. p.0) e)) (go (nat_lt n (length d.globals)) refl)
  where
    go : (small : Bool) → nat_lt n (length d.globals) ≡ small
        → IsWithin (named_at d k) (if small then target.Global (record { 0 = n }) else target.Function (record { 0 = n - length d.globals }))
    go true h = lt_from n (length d.globals) h
    go false h = let least : length d.globals ≤ n = grind (arith, nat_tests, h) in omega (arith, least, within n refl)

pub items-length : (d : Definitions) → length (item_names d) ≡ length d.globals + length d.functions
items-length d = length-append d.globals (map (λ f. f.name) d.functions) ∙ ap (λ n. length d.globals + n) (length-map d.functions (λ f. f.name))

module _ {height room : ℕ} {part : Parts} (d : Definitions) (k : ℕ) where
  -- the name's number is what the role says, and the name is not one too many
  pub ensures_name : {over : Bool} (role : Role) {Q : ℕ → Type 0} → ((text : List ℕ) (n : ℕ) → number_of_name d k role text ≡ (n, None) → Q n)
      → Ensures height room part (scope_at d k) (name_form over role) (λ n. (over ≡ false) × Q n)
  ensures_name {over} role law = ensures_cases (λ w n e. (let fine = name_fine over role (scope_at d k) w n e in ensures_empty (fine.0, law w.text n fine.2)))

  pub ensures_local_use : Ensures height room part (scope_at d k) local_use (λ x. is_local (named_at d k) x ≡ true)
  ensures_local_use = ensures_giving (ensures_name UsesLocal (λ text n e. use_local d k n text e)) (λ n p. lt_test n (named_at d k).locals p.1)

  pub ensures_block_use : Ensures height room part (scope_at d k) block_use (λ b. is_block (named_at d k) b ≡ true)
  ensures_block_use = ensures_giving (ensures_name UsesBlock (λ text n e. use_block d k n text e)) (λ n p. lt_test n (named_at d k).blocks p.1)

  pub ensures_function_use : Ensures height room part (scope_at d k) function_use (λ f. nat_lt f.0 (named_at d k).functions ≡ true)
  ensures_function_use = ensures_giving (ensures_name UsesFunction (λ text n e. use_function d k n text e)) (λ n p. lt_test n (named_at d k).functions p.1)

  pub ensures_global_use : Ensures height room part (scope_at d k) global_use (λ g. nat_lt g.0 (named_at d k).globals ≡ true)
  ensures_global_use = ensures_giving (ensures_name UsesGlobal (λ text n e. use_global d k n text e)) (λ n p. lt_test n (named_at d k).globals p.1)

  pub ensures_target_use : Ensures height room part (scope_at d k) target_use (IsWithin (named_at d k))
  ensures_target_use = ensures_cases (λ w t e. ensures_empty (target_fine d k (number_in (item_names d) w.text) t
      (λ n found. (let within = number_within (item_names d) w.text n found in omega (arith, items-length d))) (target_named (scope_at d k) w t e).1))
