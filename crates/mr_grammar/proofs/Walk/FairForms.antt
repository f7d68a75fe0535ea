-- The judges of each form of the grammar are fair. Outside brackets no form of a kind has a part.
use Rattle.mr_grammar.proofs.Common.{Bool, true, codes, refl, None, ℕ, Option, ◌≡◌, Some, ap, nat_le, option_map, some_is, ItemWord, DefinesBlock, DefinesFunction, StmtWord, TermWord, TreeWord, TypeWord, ValueWord, stmt_form, judged_stmt, assign_form, numbered_form, stmt_behind, term_form, judged_term, switch_form, switch_cases_form, switch_case_form, unwind_form, call_form, values_form, judged_intrinsic, do_form, intrinsic_form, term_behind, block_form, stmts_form, judged_kind, local_form, body_form, args_form, locals_form, blocks_form, function_form, item_form, judged_item, repeat_form, reloc_form, item_word_of, item_behind, global_form, items_form, program_form, globals_form, functions_form, judged_edition, form_of, shape_form, field_form, variant_form, tags_form, tag_form, tree_form, judged_tree, branch_form, cases_form, case_form, tree_behind, type_form, judged_type, ref_form, tuple_type_form, fields_form, array_form, union_type_form, chunks_form, chunk_form, enum_form, variants_form, type_word_of, type_behind, place_from, postfixes_form, postfix_form, base_form, deref_form, value_form, judged_value, global_value_form, tuple_value_form, more_values_form, union_value_form, variant_value_form, addr_of_form, cast_form, transmute_form, binary_form, value_behind, looked_up, stmt_words, term_words, intrinsic_words, kind_words, is_number, edition_words, Kind, TheType, TheTree, ThePlace, TheValue, limit, Judged}
use Rattle.mr_ast.specs.ValueGrammar.{value_word_of}
use Rattle.mr_ast.specs.Words.{tree_words, is_exposed}
use Rattle.mr_ast.specs.declared.program.BlockKind.TheVariants as kind
use Rattle.mr_ast.specs.declared.program.Intrinsic.TheVariants as intrinsic
use Rattle.mr_ast.specs.declared.words.ItemWord.TheVariants as item_word
use Rattle.mr_ast.specs.declared.words.StmtWord.TheVariants as stmt_word
use Rattle.mr_ast.specs.declared.words.TermWord.TheVariants as term_word
use Rattle.mr_ast.specs.declared.words.TreeWord.TheVariants as tree_word
use Rattle.mr_ast.specs.declared.words.TypeWord.TheVariants as type_word
use Rattle.mr_ast.specs.declared.words.ValueWord.TheVariants as value_word
use Rattle.mr_grammar.proofs.Walk.Fair.{AreFair}
use Rattle.mr_grammar.proofs.Walk.FairJudges.{fair_pieces, fair_fine, fair_word, exposed_plain, word_fair, limit_plain, name_fair}

-- types
shape_fair : (parts : Bool) → AreFair parts shape_form
unfolding shape_form
shape_fair parts = search fair_pieces parts 10

field_fair : AreFair true field_form
unfolding field_form
field_fair = search fair_pieces parts 10

variant_fair : AreFair true variant_form
unfolding variant_form tags_form tag_form
variant_fair = search fair_pieces parts 10

pub tree_fair : (parts : Bool) → AreFair parts tree_form
unfolding tree_form judged_tree branch_form cases_form case_form
tree_fair parts = (fair_fine (λ w. looked_up tree_words w.text) (codes "invalid") tree_word.Invalid refl, behind)
  where
    behind : (i : TreeWord) → AreFair parts (tree_behind i)
    behind tree_word.Invalid = tt
    behind _ = search fair_pieces parts 10

ruleset fair_types = (shape_fair, field_fair, variant_fair, tree_fair)

pub type_fair : (parts : Bool) → AreFair parts type_form
unfolding type_form judged_type ref_form tuple_type_form fields_form array_form union_type_form chunks_form chunk_form enum_form variants_form
type_fair parts = (fair_fine (λ w. type_word_of w.text) (codes "bool") type_word.Bool refl, behind)
  where
    behind : (i : TypeWord) → AreFair parts (type_behind i)
    behind type_word.Bool = tt
    behind _ = search (fair_pieces, fair_types) parts 10

-- places and values
pub place_fair : (parts over : Bool) → AreFair parts (place_from over)
unfolding place_from postfixes_form postfix_form base_form deref_form
place_fair parts over = search fair_pieces parts 10

pub value_fair : (parts : Bool) → AreFair parts value_form
unfolding value_form judged_value global_value_form tuple_value_form more_values_form union_value_form variant_value_form addr_of_form cast_form transmute_form binary_form
value_fair parts = (fair_word judged_value (codes "true") value_word.True None refl (λ w j e. exposed_plain (is_exposed w.text) value_word.True (value_word_of w.text) j e), behind)
  where
    behind : (i : ValueWord) → AreFair parts (value_behind i)
    behind value_word.True = tt
    behind _ = search fair_pieces parts 10

-- each kind of part
pub forms_fair : (parts : Bool) (kind : Kind) → AreFair parts (form_of kind)
forms_fair parts TheType = type_fair parts
forms_fair parts TheTree = tree_fair parts
forms_fair parts (ThePlace over) = place_fair parts over
forms_fair parts TheValue = value_fair parts

-- statements
stmt_fair : (k : ℕ) → AreFair true (stmt_form k)
unfolding stmt_form judged_stmt assign_form numbered_form
stmt_fair k = (
  (
    (fair_word (judged_stmt (nat_le 4096 k)) (codes "live") stmt_word.Live (limit 8 (nat_le 4096 k)) refl (λ w j e. plain (nat_le 4096 k) (looked_up stmt_words w.text) j e), behind),
    search fair_pieces parts 10,
  ),
  word_fair true (codes ";"),
)
  where
    plain : (over : Bool) (found : Option StmtWord) (j : StmtWord) → ◌≡◌ {A = Judged StmtWord} (option_map (λ s. (s, limit 8 over)) found) (Some (j, Some 4)) → ⊥
    plain over None j e = absurd (cc)
    plain over (Some s) j e = limit_plain 8 over (λ f. absurd (cc)) (ap (λ p. p.1) (some_is e))

    behind : (i : StmtWord) → AreFair true (stmt_behind i)
    behind stmt_word.Live = search fair_pieces parts 10
    behind _ = search fair_pieces parts 10

-- terminators
term_fair : AreFair true term_form
unfolding term_form judged_term switch_form switch_cases_form switch_case_form unwind_form call_form values_form judged_intrinsic do_form
term_fair = ((fair_fine (λ w. looked_up term_words w.text) (codes "return") term_word.Return refl, behind), word_fair true (codes ";"))
  where
    intrinsic_fair : AreFair true intrinsic_form
    intrinsic_fair =
        (fair_word judged_intrinsic (codes "assume") intrinsic.Assume None refl (λ w j e. exposed_plain (is_exposed w.text) intrinsic.Assume (looked_up intrinsic_words w.text) j e), λ i. tt)

    behind : (i : TermWord) → AreFair true (term_behind i)
    behind term_word.Return = tt
    behind term_word.Do = ((intrinsic_fair, search fair_pieces parts 10), search fair_pieces parts 10)
    behind _ = search fair_pieces parts 10

-- functions
pub block_fair : (k : ℕ) → AreFair true (block_form k)
unfolding block_form stmts_form judged_kind
block_fair k = (
  (name_fair true (nat_le 1024 k) (DefinesBlock k), (fair_fine (λ w. looked_up kind_words w.text) (codes "regular") kind.Regular refl, λ i. tt)),
  ((word_fair true (codes ":"), stmt_fair), term_fair),
)

pub local_fair : (k : ℕ) → AreFair true (local_form k)
unfolding local_form
local_fair k = search fair_pieces parts 10

pub body_fair : AreFair true body_form
unfolding body_form args_form locals_form blocks_form
body_fair = search (fair_pieces, local_fair, block_fair) parts 10

pub function_fair : (k : ℕ) → AreFair true (function_form k)
unfolding function_form
function_fair k = (word_fair true (codes "fn"), (name_fair true (nat_le 256 k) (DefinesFunction k), ((λ t unknown. unknown), body_fair)))

-- globals
item_fair : AreFair true item_form
unfolding item_form judged_item repeat_form reloc_form is_number
item_fair = (fair_fine (λ w. item_word_of w.text) (codes "?") item_word.Uninit refl, behind)
  where
    behind : (i : ItemWord) → AreFair true (item_behind i)
    behind item_word.Uninit = search fair_pieces parts 10
    behind _ = search fair_pieces parts 10

pub global_fair : (k : ℕ) → AreFair true (global_form k)
unfolding global_form items_form
global_fair k = search (fair_pieces, item_fair) parts 10

-- a program
pub program_fair : AreFair true program_form
unfolding program_form globals_form functions_form judged_edition
program_fair = (
  word_fair true (codes "minirust"),
  ((fair_fine (λ w. looked_up edition_words w.text) (codes "1") 1 refl, λ i. tt), ((global_fair, function_fair), search fair_pieces parts 10)),
)
