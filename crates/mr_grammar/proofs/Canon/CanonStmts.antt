-- Statements and terminators are printed as they are written.
use Rattle.mr_grammar.proofs.Common.{ℕ, ◌≡◌, Some, None, refl, [], Bool, ◌∷◌, codes, false, append_assoc, List, true, nat_le, Round, StmtWord, TermWord, stmt_line, term_line, NameTexts, words_of_value, words_of_place, text_at, Part, Cases, judged_intrinsic, stmt_form, assign_form, numbered_form, judged_stmt, stmt_behind, switch_case_form, intrinsic_form, term_form, judged_term, switch_form, switch_cases_form, unwind_form, call_form, do_form, values_form, term_behind, Definitions, SpelledPart, intrinsic_words, TheValue, ThePlace, block_use, local_use, ◌▸◌, listed, separated, optional, scope_at}
use Rattle.mr_ast.specs.declared.program.Intrinsic.{Intrinsic}
use Rattle.mr_ast.specs.Canon.{intrinsic_word, words_of_stmt, target_words, words_of_term, arguments, optional_block, optional_result}
use Rattle.mr_ast.proofs.WordLaws.{intrinsic_word_found}
use Rattle.mr_ast.specs.declared.program.Intrinsic.TheVariants as intrinsic
use Rattle.mr_ast.specs.declared.words.StmtWord.TheVariants as stmt_word
use Rattle.mr_ast.specs.declared.words.TermWord.TheVariants as term_word
use Rattle.mr_grammar.proofs.Canon.CanonForms.{Canon, canon_before, canon_behind, canon_either, canon_then, Stands, canon_word, canon_giving, canon_token, canon_listed, canon_optional, canon_within, canon_pair, canon_many, canon_empty}
use Rattle.mr_grammar.proofs.Canon.CanonValues.{canon_parts}
use Rattle.mr_grammar.proofs.Canon.CanonWords.{Known, canon_block, canon_local, canon_num}
use Rattle.mr_grammar.proofs.Shape.ShapedBlocks.{stmt_fine}
use Rattle.mr_grammar.proofs.Tokens.TokenRows.{fixed_token, table_passes, is_fixed}
use Rattle.mr_grammar.proofs.Walk.EnsureLaws.{ensures_cases, Ensures}
use Rattle.mr_grammar.proofs.Walk.HeightLaws.{SomePart}

intrinsic_begins : (i : Intrinsic) (k : ℕ) → judged_intrinsic (record { text = intrinsic_word i; place = k }) ≡ Some (i, None)
unfolding judged_intrinsic
intrinsic_begins intrinsic.Assume k = refl
intrinsic_begins _ k = refl

module _ {d : Definitions} {k : ℕ} (names : NameTexts) (known : Known d k names) where
  module _ {height room : ℕ} where
    value : Canon height room (SpelledPart height) SomePart (scope_at d k) [] (Part TheValue) (words_of_value names)
    value = canon_parts names known TheValue

    place : (over : Bool) → Canon height room (SpelledPart height) SomePart (scope_at d k) [] (Part (ThePlace over)) (words_of_place names)
    place over = canon_parts names known (ThePlace over)

    block : Canon height room (SpelledPart height) SomePart (scope_at d k) [] block_use (λ b. text_at names.blocks b.0 ∷ [])
    block = canon_block names known

    local : Canon height room (SpelledPart height) SomePart (scope_at d k) [] local_use (λ x. text_at names.locals x.0 ∷ [])
    local = canon_local names known

    to_block : Canon height room (SpelledPart height) SomePart (scope_at d k) [] (codes "to" ▸ block_use) (λ b. codes "to" ∷ text_at names.blocks b.0 ∷ [])
    to_block = canon_before (codes "to") refl block

  module _ {height room : ℕ} where
    pub canon_stmt : (j : ℕ) → Canon height room (SpelledPart height) SomePart (scope_at d k) [] (stmt_form j) (stmt_line names)
    unfolding stmt_form assign_form numbered_form judged_stmt words_of_stmt
    canon_stmt j = canon_behind {row = words_of_stmt names} (canon_either (record { law = ensures_cases (λ w i e. behind i (stmt_fine (nat_le 4096 j) w i e)) })
        (canon_then (place (nat_le 4096 j)) (canon_before (codes "=") refl value) (λ p v. refl))) (codes ";") refl
      where
        behind : (i : StmtWord) → nat_le 4096 j ≡ false → Ensures height room (SpelledPart height) (scope_at d k) (stmt_behind i)
            (λ s. Stands room SomePart (scope_at d k) [] (Cases (λ scope. judged_stmt (nat_le 4096 j)) stmt_behind) s (words_of_stmt names s))
        behind stmt_word.Live few = canon_word (codes "live") stmt_word.Live refl (λ n. rw few refl) (canon_giving local (λ x. refl))
        behind stmt_word.Dead few = canon_word (codes "dead") stmt_word.Dead refl (λ n. rw few refl) (canon_giving local (λ x. refl))
        behind stmt_word.Mention few = canon_word (codes "mention") stmt_word.Mention refl (λ n. rw few refl) (canon_giving (place false) (λ p. refl))
        behind stmt_word.Disc few = canon_word (codes "disc") stmt_word.Disc refl (λ n. rw few refl)
            (canon_then (place false) (canon_before (codes "=") refl canon_num) (λ p number. refl))
        behind stmt_word.Deinit few = canon_word (codes "deinit") stmt_word.Deinit refl (λ n. rw few refl) (canon_giving (place false) (λ p. refl))
        behind stmt_word.Validate few = canon_word (codes "validate") stmt_word.Validate refl (λ n. rw few refl) (canon_giving (place false) (λ p. refl))

    canon_target : Canon height room (SpelledPart height) SomePart (scope_at d k) [] switch_case_form (target_words names)
    unfolding switch_case_form
    canon_target = canon_then (canon_behind canon_num (codes "=>") refl) (canon_behind block (codes ",") refl) (λ n b. simp append_assoc)

    canon_intrinsic : Canon height room (SpelledPart height) SomePart (scope_at d k) [] intrinsic_form (λ i. intrinsic_word i ∷ [])
    canon_intrinsic = canon_token {text = intrinsic_word} (λ w i e.
        (fixed_token (intrinsic_word i) (table_passes is_fixed intrinsic_words (intrinsic_word i) i refl (intrinsic_word_found i)), intrinsic_begins i))

  module _ {height room : ℕ} where
    pub canon_term : Canon height room (SpelledPart height) SomePart (scope_at d k) [] term_form (term_line names)
    unfolding term_form judged_term words_of_term switch_form switch_cases_form unwind_form call_form do_form values_form
    canon_term = canon_behind {row = words_of_term names} (record { law = ensures_cases (λ w i e. behind i) }) (codes ";") refl
      where
        args : Canon height room (SpelledPart height) SomePart (scope_at d k) [] (listed Round (separated (Part TheValue))) (arguments names)
        args = canon_listed (λ lower e. value)

        next : (text : List ℕ) → is_fixed text ≡ true
            → Canon height room (SpelledPart height) SomePart (scope_at d k) [] (optional text block_use) (optional_block names text)
        next text fixed = canon_optional text fixed block refl (λ b. refl)

        behind : (i : TermWord) → Ensures height room (SpelledPart height) (scope_at d k) (term_behind i)
            (λ t. Stands room SomePart (scope_at d k) [] (Cases (λ scope. judged_term) term_behind) t (words_of_term names t))
        behind term_word.Goto = canon_word (codes "goto") term_word.Goto refl (λ n. refl) (canon_giving block (λ b. refl))
        behind term_word.Switch = canon_word (codes "switch") term_word.Switch refl (λ n. refl)
            (canon_then value (canon_within (λ lower e. canon_pair (canon_many (λ j. canon_target))
            (canon_before (codes "_") refl (canon_before (codes "=>") refl block)))) (λ v cases. simp append_assoc))
        behind term_word.Unreachable = canon_word (codes "unreachable") term_word.Unreachable refl (λ n. refl) (canon_empty refl)
        behind term_word.Return = canon_word (codes "return") term_word.Return refl (λ n. refl) (canon_empty refl)
        behind term_word.Exit = canon_word (codes "exit") term_word.Exit refl (λ n. refl) (canon_empty refl)
        behind term_word.Abort = canon_word (codes "abort") term_word.Abort refl (λ n. refl) (canon_empty refl)
        behind term_word.Resume = canon_word (codes "resume") term_word.Resume refl (λ n. refl) (canon_empty refl)
        behind term_word.Stop = canon_word (codes "stop") term_word.Stop refl (λ n. refl) (canon_giving to_block (λ b. refl))
        behind term_word.Unwind = canon_word (codes "unwind") term_word.Unwind refl (λ n. refl) (canon_then value to_block (λ v b. refl))
        behind term_word.Call = canon_word (codes "call") term_word.Call refl (λ n. refl)
            (canon_then (canon_pair value args)
            (canon_pair (canon_before (codes "->") refl (place false)) (canon_pair (next (codes "to") refl) (next (codes "unwind") refl)))
            (λ callee rest. simp append_assoc))
        behind term_word.Do = canon_word (codes "do") term_word.Do refl (λ n. refl)
            (canon_then (canon_pair canon_intrinsic args)
            (canon_pair (canon_optional {row = optional_result names} (codes "->") refl (place false) refl (λ p. refl)) to_block)
            (λ head rest. simp append_assoc))
