-- The words of numbers, of tables and of names are printed as they were written.
use Rattle.mr_grammar.proofs.Common.{ℕ, List, ◌≡◌, None, Option, [], ◌∷◌, ap, ◌∙◌, Some, not, ◌^◌, codes, refl, if◌then◌else◌, ◌==◌, ◌&&◌, true, Bool, false, list_all, decimal, nat_lt, nat_le, Role, UsesGlobal, UsesFunction, UsesLocal, UsesBlock, num_words, int_word, NameTexts, text_at, Definitions, number_of_name, Scope, Table, looked_up, int_words, token, judged_number, fine, u64_form, judged_u64, limit, num_form, judged_any, judged_positive, judged_repeat, word, int_form, judged_int, name_form, judged_name, local_use, block_use, function_use, global_use, int_word_found, scope_at}
use Rattle.mr_grammar.proofs.Canon.CanonForms.{Canon, canon_same, canon_either, canon_giving, canon_before, canon_token}
use Rattle.mr_grammar.proofs.Shape.ShapedNames.{name_fine}
use Rattle.mr_grammar.proofs.Shape.ShapedNumbers.{number_fine}
use Rattle.mr_grammar.proofs.Tokens.TokenRows.{number_is, number_token, is_fixed, fixed_token, table_passes, name_token}
use Rattle.mr_grammar.proofs.Walk.EnsureLaws.{Parts}

-- What the names that are used in a function of a text that defines these names stand for: the positions of their texts.
pub record Known (d : Definitions) (k : ℕ) (names : NameTexts) : Type 0 where
  pub globals : (text : List ℕ) (n : ℕ) → number_of_name d k UsesGlobal text ≡ (n, None) → text_at names.globals n ≡ text
  pub functions : (text : List ℕ) (n : ℕ) → number_of_name d k UsesFunction text ≡ (n, None) → text_at names.functions n ≡ text
  pub locals : (text : List ℕ) (n : ℕ) → number_of_name d k UsesLocal text ≡ (n, None) → text_at names.locals n ≡ text
  pub blocks : (text : List ℕ) (n : ℕ) → number_of_name d k UsesBlock text ≡ (n, None) → text_at names.blocks n ≡ text

module _ {height room : ℕ} {part mine : Parts} {scope : Scope} where
  pub canon_number : (judge : ℕ → Option (Option ℕ)) → Canon height room part mine scope [] (token (judged_number judge)) (λ n. decimal n ∷ [])
  canon_number judge = canon_same {text = decimal} (λ w n e.
      (let fine = number_fine judge w n e in
      (ap decimal fine.1 ∙ number_is w.text fine.0, number_token w.text fine.0, λ k. e)))

  pub canon_u64 : Canon height room part mine scope [] u64_form (λ n. decimal n ∷ [])
  unfolding judged_u64
  canon_u64 = canon_number (λ n. Some (limit 2 (not (nat_lt n (2 ^ 64)))))

  pub canon_num : Canon height room part mine scope [] num_form num_words
  unfolding judged_any judged_positive
  canon_num = canon_either
      (canon_giving (canon_before (codes "-") refl (canon_number (λ n. if n == 0 then None else Some None))) (λ n. refl))
      (canon_giving (canon_number (λ n. Some None)) (λ n. refl))

  pub canon_repeat : Canon height room part mine scope [] (token judged_repeat) (λ n. decimal n ∷ [])
  unfolding judged_repeat
  canon_repeat = canon_number (λ n. if nat_lt n (2 ^ 64) then (if nat_lt 0 n && nat_le n (2 ^ 20) then Some None else None) else Some (Some 2))

  pub canon_table : {X : Type 0} (table : Table X) (word : X → List ℕ) → list_all (λ entry. is_fixed entry.0) table ≡ true → ((x : X) → looked_up table (word x) ≡ Some x)
      → Canon height room part mine scope [] (token (λ w. fine (looked_up table w.text))) (λ x. word x ∷ [])
  canon_table table word all found =
      canon_token {text = word} (λ w x e. (fixed_token (word x) (table_passes is_fixed table (word x) x all (found x)), λ k. ap fine (found x)))

  pub canon_int : Canon height room part mine scope [] int_form (λ i. int_word i ∷ [])
  unfolding judged_int
  canon_int = canon_table int_words int_word refl int_word_found

-- a name, which is printed as it was written
pub canon_name : {height room : ℕ} {part mine : Parts} {d : Definitions} {k : ℕ} (over : Bool) (role : Role) (text : ℕ → List ℕ)
    → ((written : List ℕ) (n : ℕ) → number_of_name d k role written ≡ (n, None) → text n ≡ written)
    → Canon height room part mine (scope_at d k) [] (name_form over role) (λ n. text n ∷ [])
unfolding judged_name
canon_name {d = d} {k} over role text law = canon_same {text = text} (λ w n e.
    (let fine = name_fine over role (scope_at d k) w n e in (law w.text n fine.2, name_token w.text fine.1, λ j. e)))

module _ {height room : ℕ} {part mine : Parts} {d : Definitions} {k : ℕ} (names : NameTexts) (known : Known d k names) where
  pub canon_local : Canon height room part mine (scope_at d k) [] local_use (λ x. text_at names.locals x.0 ∷ [])
  canon_local = canon_giving (canon_name false UsesLocal (text_at names.locals) known.locals) (λ n. refl)

  pub canon_block : Canon height room part mine (scope_at d k) [] block_use (λ b. text_at names.blocks b.0 ∷ [])
  canon_block = canon_giving (canon_name false UsesBlock (text_at names.blocks) known.blocks) (λ n. refl)

  pub canon_function : Canon height room part mine (scope_at d k) [] function_use (λ f. text_at names.functions f.0 ∷ [])
  canon_function = canon_giving (canon_name false UsesFunction (text_at names.functions) known.functions) (λ n. refl)

  pub canon_global : Canon height room part mine (scope_at d k) [] global_use (λ g. text_at names.globals g.0 ∷ [])
  canon_global = canon_giving (canon_name false UsesGlobal (text_at names.globals) known.globals) (λ n. refl)
