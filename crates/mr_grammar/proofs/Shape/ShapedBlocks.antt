-- The statements, terminators and blocks that a row without a broken limit writes are shaped.
use Rattle.mr_grammar.proofs.Common.{ℕ, ◌<◌, List, ◌≤◌, ◌+◌, length, [], arith, ◌∷◌, suc, Bool, ◌≡◌, Some, None, false, Option, true, ap, refl, nat_le, AllByRecursion, option_map, some_is, Function, Program, Round, DefinesBlock, StmtWord, TermWord, Word, Part, judged_stmt, switch_case_form, stmt_behind, numbered_form, stmt_form, assign_form, values_form, term_behind, switch_form, switch_cases_form, unwind_form, call_form, do_form, term_form, stmts_form, block_form, Definitions, names_of, named_in, ShapedBlock, is_shaped_value, is_shaped_place, SpelledPart, looked_up, stmt_words, limit, TheValue, ThePlace, listed, optional, block_use, scope_at, named_at}
use Rattle.std.proofs.lemmas.List.Sums.{AllPass-from_list_all}
use Rattle.mr_ast.specs.Shaped.{is_shaped_target, is_shaped_stmt, is_optional_block, is_shaped_term, is_optional_place}
use Rattle.mr_words.proofs.ScopeLaws.{define_block}
use Rattle.mr_ast.specs.declared.words.StmtWord.TheVariants as stmt_word
use Rattle.mr_ast.specs.declared.words.TermWord.TheVariants as term_word
use Rattle.mr_grammar.proofs.Shape.ShapedNames.{ensures_block_use, ensures_local_use, below, ensures_name}
use Rattle.mr_grammar.proofs.Shape.ShapedNumbers.{ensures_num, both, all_pass}
use Rattle.mr_grammar.proofs.Shape.ShapedValues.{parts_shaped}
use Rattle.mr_grammar.proofs.Walk.EnsureLaws.{EachFrom, Parts, Ensures, ensures_also, ensures_pair, ensures_before, ensures_giving, ensures_then, ensures_behind, ensures_either, ensures_cases, ensures_listed, ensures_separated, ensures_optional, ensures_within, ensures_all, ensures_empty, ensures_token, ensures_many, each_also}

-- where each thing of a row has a number below a bound, there are no more of them
pub each_few : {A : Type 0} (P : ℕ → A → Type 0) (n : ℕ) → ((k : ℕ) (x : A) → P k x → k < n) → (k : ℕ) (xs : List A) → k ≤ n → EachFrom P k xs → k + length xs ≤ n
each_few P n small k [] le each = omega arith
each_few P n small k (x ∷ xs) le each = omega (arith, each_few P n small (suc k) xs (small k x each.0) each.1)

-- the word of a statement that is not one too many
pub stmt_fine : (over : Bool) (w : Word) (i : StmtWord) → judged_stmt over w ≡ Some (i, None) → over ≡ false
unfolding judged_stmt
stmt_fine over w i e = go over (looked_up stmt_words w.text) e
  where
    go : (many : Bool) (found : Option StmtWord) → ◌≡◌ {A = Option (StmtWord × Option ℕ)} (option_map {U = StmtWord × Option ℕ} (λ s. (s, limit 8 many)) found) (Some (i, None)) → many ≡ false
    go many None e = absurd (cc)
    go true (Some s) e = let clash = ap (λ p. p.1) (some_is e) in absurd (cc)
    go false (Some s) e = refl

ensures_switch_case : {height room : ℕ} {part : Parts} (d : Definitions) (k : ℕ) → Ensures height room part (scope_at d k) switch_case_form (λ c. is_shaped_target (named_at d k) c ≡ true)
unfolding switch_case_form
ensures_switch_case d k = ensures_also (ensures_pair (ensures_before ensures_num) (ensures_before (ensures_block_use d k))) (λ c p. both p.0 p.1)

module _ {height room : ℕ} (d : Definitions) (k : ℕ) where
  pub ensures_value : Ensures height room (SpelledPart height) (scope_at d k) (Part TheValue) (λ v. is_shaped_value (named_at d k) v ≡ true)
  ensures_value = parts_shaped d k TheValue

  ensures_place_once : (over : Bool) → Ensures height room (SpelledPart height) (scope_at d k) (Part (ThePlace over)) (λ p. (over ≡ false) × (is_shaped_place (named_at d k) p ≡ true))
  ensures_place_once over = parts_shaped d k (ThePlace over)

  pub ensures_place : Ensures height room (SpelledPart height) (scope_at d k) (Part (ThePlace false)) (λ p. is_shaped_place (named_at d k) p ≡ true)
  ensures_place = ensures_also (ensures_place_once false) (λ p shaped. shaped.1)

  -- statements, of which none is one too many
  ensures_stmt_behind : (i : StmtWord) → Ensures height room (SpelledPart height) (scope_at d k) (stmt_behind i) (λ s. is_shaped_stmt (named_at d k) s ≡ true)
  unfolding numbered_form
  ensures_stmt_behind stmt_word.Live = ensures_giving (ensures_local_use d k) (λ x p. p)
  ensures_stmt_behind stmt_word.Dead = ensures_giving (ensures_local_use d k) (λ x p. p)
  ensures_stmt_behind stmt_word.Disc = ensures_then ensures_place (ensures_behind ensures_num) (λ x n p q. both p q)
  ensures_stmt_behind _ = ensures_giving ensures_place (λ x p. p)

  ensures_stmt : (j : ℕ) → Ensures height room (SpelledPart height) (scope_at d k) (stmt_form j) (λ s. (j < 4096) × (is_shaped_stmt (named_at d k) s ≡ true))
  unfolding stmt_form assign_form
  ensures_stmt j =
      ensures_before (ensures_either
      (ensures_cases (λ w i e. ensures_also (ensures_stmt_behind i) (λ s p. (below j 4096 (stmt_fine (nat_le 4096 j) w i e), p))))
      (ensures_then (ensures_place_once (nat_le 4096 j)) (ensures_behind ensures_value) (λ x v p q. (below j 4096 p.0, both p.1 q))))

  -- terminators
  ensures_values : Ensures height room (SpelledPart height) (scope_at d k) (listed Round values_form) (AllByRecursion (λ v. is_shaped_value (named_at d k) v ≡ true))
  unfolding values_form
  ensures_values = ensures_listed (λ lower e. ensures_separated (parts_shaped d k TheValue))

  ensures_optional_block : {text : List ℕ} → Ensures height room (SpelledPart height) (scope_at d k) (optional text block_use) (λ b. is_optional_block (named_at d k) b ≡ true)
  ensures_optional_block = ensures_optional (ensures_block_use d k) (λ b p. p) refl

  ensures_term_behind : (i : TermWord) → Ensures height room (SpelledPart height) (scope_at d k) (term_behind i) (λ t. is_shaped_term (named_at d k) t ≡ true)
  unfolding switch_form switch_cases_form unwind_form call_form do_form
  ensures_term_behind term_word.Goto = ensures_giving (ensures_block_use d k) (λ b p. p)
  ensures_term_behind term_word.Switch =
      ensures_then ensures_value
      (ensures_within (λ lower e. ensures_pair (ensures_all (λ j. ensures_switch_case d k)) (ensures_behind (ensures_behind (ensures_block_use d k)))))
      (λ v cases p q. both p (both (all_pass (is_shaped_target (named_at d k)) cases.0 q.0) q.1))
  ensures_term_behind term_word.Stop = ensures_giving (ensures_behind (ensures_block_use d k)) (λ b p. p)
  ensures_term_behind term_word.Unwind = ensures_then ensures_value (ensures_behind (ensures_block_use d k)) (λ v b p q. both p q)
  ensures_term_behind term_word.Call =
      ensures_then (ensures_pair ensures_value ensures_values) (ensures_pair (ensures_behind ensures_place) (ensures_pair ensures_optional_block ensures_optional_block))
      (λ head rest p q. both p.0 (both (all_pass (is_shaped_value (named_at d k)) head.1 p.1) (both q.0 (both q.1.0 q.1.1))))
  ensures_term_behind term_word.Do =
      ensures_then (ensures_pair (ensures_token {Q = λ i. Unit {0}} (λ w i e. tt)) ensures_values)
      (ensures_pair (ensures_optional {Q = λ x. is_optional_place (named_at d k) x ≡ true} ensures_place (λ x p. p) refl) (ensures_behind (ensures_block_use d k)))
      (λ head rest p q. both (all_pass (is_shaped_value (named_at d k)) head.1 p.1) (both q.0 q.1))
  ensures_term_behind _ = ensures_empty refl

  pub ensures_term : Ensures height room (SpelledPart height) (scope_at d k) term_form (λ t. is_shaped_term (named_at d k) t ≡ true)
  unfolding term_form
  ensures_term = ensures_before (ensures_cases (λ w i e. ensures_term_behind i))

  -- blocks, of which none is one too many
  ensures_stmts : Ensures height room (SpelledPart height) (scope_at d k) stmts_form (EachFrom (λ j s. (j < 4096) × (is_shaped_stmt (named_at d k) s ≡ true)) 0)
  unfolding stmts_form
  ensures_stmts = ensures_many ensures_stmt

  pub ensures_block : (p : Program) → length p.names ≡ length (names_of d) → (j : ℕ)
      → Ensures height room (SpelledPart height) (scope_at d k) (block_form j) (λ b. (j < 1024) × ((f : Function) → named_in p f ≡ named_at d k → ShapedBlock p f b))
  unfolding block_form
  ensures_block p names j =
      ensures_then (ensures_pair (ensures_name d k (DefinesBlock j) (λ text n e. define_block d k j n text e)) (ensures_token {Q = λ i. Unit {0}} (λ w i e. tt))) (ensures_pair (ensures_behind ensures_stmts) ensures_term)
      (λ head body p₁ q. (
        below j 1024 p₁.0.0,
        λ f same. record {
          name = omega (arith, p₁.0.1, names);
          stmts = AllPass-from_list_all (is_shaped_stmt (named_in p f)) body.0
              (rw same (all_pass (is_shaped_stmt (named_at d k)) body.0 (each_also _ (λ s. is_shaped_stmt (named_at d k) s ≡ true) (λ i s one. one.1) 0 body.0 q.0)));
          term = rw same q.1;
          few_stmts = omega (arith, each_few _ 4096 (λ i s one. one.0) 0 body.0 (omega arith) q.0);
        },
      ))
