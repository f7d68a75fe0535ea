-- Items of globals are printed as they are written.
use Rattle.mr_grammar.proofs.Common.{◌≡◌, List, ℕ, None, length, [], codes, refl, ◌==◌, inr, ◌∷◌, Bool, if◌then◌else◌, true, false, inl, Some, ap, sym, ◌∙◌, subst, decimal, eq_from, Program, Target, ItemWord, UsesFunction, function_texts, target_text, words_of_item, text_at, Either, Empty, Word, Cases, repeat_form, item_form, reloc_form, judged_item, item_behind, judged_edition, Definitions, names_of, number_of_name, target_of, number_in, item_names, Scope, is_number, looked_up, edition_words, is_word, ◌▸◌, token, judged_repeat, target_use, judged_target, fine, giving, edition_found, scope_at}
use Rattle.mr_ast.specs.Canon.{repeat_words}
use Rattle.mr_ast.proofs.WordLaws.{edition_word_found}
use Rattle.mr_ast.specs.declared.program.Item_.TheVariants as item
use Rattle.mr_ast.specs.declared.words.ItemWord.TheVariants as item_word
use Rattle.mr_grammar.proofs.Canon.CanonForms.{Canon, canon_before, Stands, stands_also, canon_same, canon_giving, stands_first, canon_word, canon_then, canon_token}
use Rattle.mr_grammar.proofs.Canon.CanonWords.{canon_repeat, canon_u64}
use Rattle.mr_grammar.proofs.Shape.ShapedNames.{target_named}
use Rattle.mr_grammar.proofs.Shape.ShapedPrograms.{byte_fine}
use Rattle.mr_grammar.proofs.Tokens.TokenRows.{name_token, number_is, number_token, table_passes}
use Rattle.mr_grammar.proofs.Tokens.TokenTexts.{IsTokenText}
use Rattle.mr_grammar.proofs.Walk.EnsureLaws.{Parts, ensures_either, ensures_also, ensures_empty, ensures_cases, Ensures}
use Rattle.mr_grammar.proofs.Walk.FairJudges.{fine_found}

-- what names stand for in a program that defines the names of a text
pub record KnownProgram (d : Definitions) (p : Program) : Type 0 where
  pub names : p.names ≡ names_of d
  pub functions : (text : List ℕ) (n : ℕ) → number_of_name d 0 UsesFunction text ≡ (n, None) → text_at (function_texts p) n ≡ text
  pub targets : (text : List ℕ) (t : Target) → target_of (length d.globals) (number_in (item_names d) text) ≡ (t, None) → target_text p t ≡ text

module _ {height room : ℕ} {part mine : Parts} where
  -- a repeat of 1 is left out
  canon_repeats : {scope : Scope} → Canon height room part mine scope [] repeat_form repeat_words
  unfolding repeat_form
  canon_repeats {scope} = record { law = ensures_either (ensures_also (canon_before (codes "*") refl canon_repeat).law (λ n s. left_out n s (n == 1) refl)) (ensures_empty second) }
    where
      second : Stands room mine scope [] (Either (is_word (codes "*")) (codes "*" ▸ token judged_repeat) (Empty 1)) 1 []
      second = record { texts = []; whole = refl; tokens = tt; at = λ k. inr (refl, refl) }

      left_out : (n : ℕ) → Stands room mine scope [] (codes "*" ▸ token judged_repeat) n (codes "*" ∷ decimal n ∷ []) → (one : Bool) → (n == 1) ≡ one
          → Stands room mine scope [] (Either (is_word (codes "*")) (codes "*" ▸ token judged_repeat) (Empty 1)) n (if one then [] else codes "*" ∷ decimal n ∷ [])
      left_out n s true is = record { texts = []; whole = refl; tokens = tt; at = λ k. inr (eq_from n 1 is, refl) }
      left_out n s false is = stands_also s (λ marks. inl)

  canon_target : {d : Definitions} {k : ℕ} (p : Program) → KnownProgram d p → Canon height room part mine (scope_at d k) [] target_use (λ t. target_text p t ∷ [])
  unfolding judged_target
  canon_target {d} {k} p known = canon_same {text = target_text p} (λ w t e.
      (let fine = target_named (scope_at d k) w t e in (known.targets w.text t fine.1, name_token w.text fine.0, λ j. e)))

  pub canon_item : {d : Definitions} {k : ℕ} (p : Program) → KnownProgram d p → Canon height room part mine (scope_at d k) [] item_form (words_of_item p)
  unfolding item_form reloc_form judged_item words_of_item is_number
  canon_item {d} {k} p known = record { law = ensures_cases behind }
    where
      behind : (w : Word) (i : ItemWord) → judged_item w ≡ Some (i, None)
          → Ensures height room part (scope_at d k) (item_behind i) (λ x. Stands room mine (scope_at d k) [] (Cases (λ s. judged_item) item_behind) x (words_of_item p x))
      behind w (item_word.Byte b) e =
          let fine = byte_fine w b e in
          let same : decimal b ≡ w.text = ap decimal (sym fine.1) ∙ number_is w.text fine.0 in
          let one : Canon height room part mine (scope_at d k) (decimal b ∷ []) (giving (item.Byte b) repeat_form) (words_of_item p) = canon_giving canon_repeats (λ n. refl) in
          ensures_also one.law (λ x s. stands_first (item_word.Byte b) (subst IsTokenText (sym same) (number_token w.text fine.0))
          (λ j. subst (λ text. judged_item (record { text = text; place = j }) ≡ Some (item_word.Byte b, None)) (sym same) e) s)
      behind w item_word.Uninit e = canon_word (codes "?") item_word.Uninit refl (λ j. refl) (canon_giving canon_repeats (λ n. refl))
      behind w item_word.Reloc e = canon_word (codes "&") item_word.Reloc refl (λ j. refl)
          (canon_then (canon_target p known) (canon_before (codes "+") refl canon_u64) (λ to offset. refl))

  pub canon_edition : {scope : Scope} → Canon height room part mine scope [] (token judged_edition) (λ n. decimal n ∷ [])
  unfolding judged_edition is_number
  canon_edition = canon_token {text = decimal} (λ w n e.
      (let found = edition_word_found n (edition_found w.text n (fine_found (looked_up edition_words w.text) n None e)) in
      (number_token (decimal n) (table_passes is_number edition_words (decimal n) n refl found), λ j. ap fine found)))
