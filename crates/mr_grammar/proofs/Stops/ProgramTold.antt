-- The grammar of programs can be read from left to right, a word at a time.
use Rattle.mr_grammar.proofs.Common.{codes, ap, ◌≡◌, false, ℕ, refl, true, inl, inr, not, suc, nat_le, Round, ItemWord, DefinesBlock, UsesLocal, TermWord, Word, Part, numbered_form, stmt_form, assign_form, begins_stmt, values_form, term_behind, unwind_form, switch_form, switch_cases_form, switch_case_form, call_form, do_form, term_form, block_form, stmts_form, blocks_form, local_form, locals_form, args_form, body_form, function_form, item_form, reloc_form, repeat_form, item_behind, global_form, items_form, program_form, globals_form, functions_form, begins_postfix, is_number, is_name, num_form, TheValue, listed, other_than, ◌▸◌, block_use, ThePlace, is_word, optional, ◌▪◌, local_use, name_form, ◌◂◌, token, judged_repeat, function_use}
use Rattle.mr_ast.specs.declared.program.LocalName.{LocalName}
use Rattle.mr_ast.specs.ProgramGrammar.{StmtShape, stmt_shape_form, OfLocal, OfPlace, OfNumber, stmt_shape}
use Rattle.mr_ast.specs.declared.words.ItemWord.TheVariants as item_word
use Rattle.mr_ast.specs.declared.words.TermWord.TheVariants as term_word
use Rattle.mr_grammar.proofs.Stops.PartLaws.{IsTold, part_stops, part_begins}
use Rattle.mr_grammar.proofs.Stops.PieceLaws.{told_behind, told_num, behind_begins, stmt_taken, place_no_stmt, place_begins, only_first, word_begins, told_list, value_begins, other_word, begins_num, num_begins, told_optional, optional_begins, term_no_stmt, name_begins, giving_begins, no_item}
use Rattle.mr_grammar.proofs.Walk.Conditions.{Stops, Begins}

-- statements
told_stmt_shape : (s : StmtShape) → IsTold (stmt_shape_form s)
unfolding numbered_form
told_stmt_shape (OfLocal make) = assumption
told_stmt_shape (OfPlace make) = assumption
told_stmt_shape (OfNumber make) = (tt, told_behind (codes "=") num_form told_num, λ w b. ap begins_postfix (behind_begins (codes "=") num_form w b))

stmt_shape_stops : (s : StmtShape) (w : Word) → begins_postfix w.text ≡ false → Stops part_stops (stmt_shape_form s) w
unfolding numbered_form
stmt_shape_stops (OfLocal make) w other = assumption
stmt_shape_stops (OfPlace make) w other = assumption
stmt_shape_stops (OfNumber make) w other = assumption

told_stmt : (k : ℕ) → IsTold (stmt_form k)
unfolding stmt_form assign_form
told_stmt k = (
  (
    (λ i. told_stmt_shape (stmt_shape i)),
    (tt, told_behind (codes "=") (Part TheValue) tt, λ w b. ap begins_postfix (behind_begins (codes "=") (Part TheValue) w b)),
    refl,
    (λ w b. stmt_taken (nat_le 4096 k) w (b.1, b.2) b.3),
    λ w b. (place_no_stmt w.text (place_begins (nat_le 4096 k) w (only_first b))).0,
  ),
  (λ i. tt),
  λ w b. (tt, (λ i. stmt_shape_stops (stmt_shape i) w (ap begins_postfix (word_begins (codes ";") w b))), assumption),
)

stmt_begins : (k : ℕ) (w : Word) → Begins part_begins (stmt_form k) w → begins_stmt w.text ≡ true
unfolding stmt_form assign_form
stmt_begins k w (inl (inl b)) = rw (stmt_taken (nat_le 4096 k) w (b.1, b.2) b.3) refl
stmt_begins k w (inl (inr b)) = (place_no_stmt w.text (place_begins (nat_le 4096 k) w (only_first b))).1
stmt_begins k w (inr b) = absurd b

-- terminators
told_values : IsTold (listed Round values_form)
unfolding values_form
told_values = told_list Round (Part TheValue) (other_than (codes ")")) tt refl value_begins refl (λ w other. tt)

told_term_behind : (i : TermWord) → IsTold (term_behind i)
unfolding unwind_form switch_form switch_cases_form switch_case_form call_form do_form is_number
told_term_behind term_word.Switch = (
  tt,
  (
    (
      (
        (λ k. assumption told_num),
        (λ k. refl),
        (λ k w b. ap not (other_word begins_num (codes "_") w.text refl (num_begins w (only_first (only_first b))))),
        λ j k w b. assumption,
      ),
      assumption,
      λ w b. (ap (other_than (codes "_")) (behind_begins (codes "_") (codes "=>" ▸ block_use) w b), λ k. assumption),
    ),
    λ w e. assumption,
  ),
  λ w b. tt,
)
told_term_behind term_word.Call = (
  (tt, told_values, λ w b. tt),
  (
    told_behind (codes "->") (Part (ThePlace false)) tt,
    (
      told_optional (codes "to") block_use (assumption),
      told_optional (codes "unwind") block_use (assumption),
      λ w b. (ap (is_word (codes "to")) (optional_begins (codes "unwind") block_use w b), assumption, tt),
    ),
    λ w b. (tt, ends w b),
  ),
  λ w b. assumption,
)
  where
    ends : (w : Word) → Begins part_begins (optional (codes "to") block_use ▪ optional (codes "unwind") block_use) w → begins_postfix w.text ≡ false
    ends w (inl b) = ap begins_postfix (optional_begins (codes "to") block_use w b)
    ends w (inr b) = ap begins_postfix (optional_begins (codes "unwind") block_use w b)
told_term_behind term_word.Do = (
  ((λ i. tt), told_values, λ w b i. tt),
  (
    told_optional (codes "->") (Part (ThePlace false)) tt,
    assumption,
    λ w b. (let e = behind_begins (codes "to") block_use w b in (ap (is_word (codes "->")) e, (tt, (tt, ap begins_postfix e)), tt)),
  ),
  λ w b. assumption,
)
told_term_behind _ = assumption

term_behind_stops : (i : TermWord) (w : Word) → w.text ≡ codes ";" → Stops part_stops (term_behind i) w
unfolding switch_form unwind_form call_form do_form
term_behind_stops term_word.Call w e =
    (tt, ((tt, ap begins_postfix e), ((ap (is_word (codes "to")) e, assumption, tt), (ap (is_word (codes "unwind")) e, assumption, tt))))
term_behind_stops term_word.Do w e = assumption
term_behind_stops _ w e = assumption

told_term : IsTold term_form
unfolding term_form
told_term = (told_term_behind, (λ i. tt), λ w b i. term_behind_stops i w (word_begins (codes ";") w b))

term_begins : (w : Word) → Begins part_begins term_form w → begins_stmt w.text ≡ false
unfolding term_form
term_begins w b = let taken = only_first b in term_no_stmt w taken.1 taken.2 taken.3

-- blocks
told_block : (k : ℕ) → IsTold (block_form k)
unfolding block_form stmts_form
told_block k = (
  assumption,
  (
    told_behind (codes ":") stmts_form (told_stmt, (λ j. unfold stmt_form assign_form in refl), stmt_begins, λ i j w b. unfold stmt_form in assumption),
    told_term,
    λ w b. ((λ i. tt), (term_begins w b, λ j. unfold stmt_form in assumption)),
  ),
  assumption,
)

block_begins : (k : ℕ) (w : Word) → Begins part_begins (block_form k) w → is_name w.text ≡ true
unfolding block_form
block_begins k w b = name_begins (nat_le 1024 k) (DefinesBlock k) w (only_first (only_first b))

block_stops : (k : ℕ) (w : Word) → Stops part_stops (block_form k) w
unfolding block_form term_form
block_stops k w = assumption

told_blocks : IsTold blocks_form
unfolding blocks_form is_name
told_blocks = (
  told_block 0,
  (
    (λ k. told_block (suc k)),
    (λ k. unfold block_form in refl),
    (λ k w b. ap not (other_word is_name (codes "}") w.text refl (block_begins (suc k) w b))),
    λ j k w b. block_stops (suc k) w,
  ),
  λ w b. block_stops 0 w,
)

-- locals
local_stops : (k : ℕ) (w : Word) → is_word (codes "never") w.text ≡ false → Stops part_stops (local_form k) w
unfolding local_form
local_stops k w other = assumption

told_locals : IsTold locals_form
unfolding locals_form
told_locals = (
  unfold local_form in assumption,
  (
    (λ k. unfold local_form in assumption),
    (λ k. refl),
    (λ k w b. rw (behind_begins (codes ",") (local_form (suc k)) w b) refl),
    λ j k w b. (unfold local_form in tt, local_stops (suc k) w (ap (is_word (codes "never")) (behind_begins (codes ",") (local_form (suc j)) w b))),
  ),
  λ w b. local_stops 0 w (ap (is_word (codes "never")) (behind_begins (codes ",") (local_form (suc b.0)) w b.1)),
)

locals_stops : (w : Word) → w.text ≡ codes ";" → Stops part_stops locals_form w
unfolding locals_form
locals_stops w e =
    let never : is_word (codes "never") w.text ≡ false = ap (is_word (codes "never")) e in
    (local_stops 0 w never, (ap (is_word (codes ",")) e, λ k. (unfold local_form in tt, local_stops (suc k) w never)))

-- functions
told_args : IsTold (listed Round args_form)
unfolding args_form is_name
told_args = told_list Round local_use is_name (assumption) refl
    (λ w b. name_begins false UsesLocal w (giving_begins {B = LocalName} (λ n. record { 0 = n }) (name_form false UsesLocal) w b)) refl (λ w other. assumption)

told_body : IsTold body_form
unfolding body_form
told_body = (
  (told_args, assumption, λ w b. tt),
  (
    (
      told_behind (codes "let") (locals_form ◂ codes ";") (told_locals, (λ i. tt), λ w b. locals_stops w (word_begins (codes ";") w b)),
      told_blocks,
      λ w b. unfold locals_form local_form in assumption,
    ),
    λ w e. unfold blocks_form block_form in ends w e,
  ),
  λ w b. assumption,
)
  where
    ends : (w : Word) → w.text ≡ codes "}" → Stops part_stops ((codes "let" ▸ locals_form ◂ codes ";") ▪ blocks_form) w
    ends w e = unfold blocks_form block_form term_form locals_form in (tt, (assumption, (ap (other_than (codes "}")) e, assumption)))

told_function : (k : ℕ) → IsTold (function_form k)
unfolding function_form
told_function k = assumption told_body

-- globals
item_stops : (w : Word) → is_word (codes "*") w.text ≡ false → Stops part_stops item_form w
unfolding item_form reloc_form repeat_form
item_stops w other = behind
  where
    behind : (i : ItemWord) → Stops part_stops (item_behind i) w
    behind item_word.Uninit = assumption other
    behind _ = assumption other

told_item : IsTold item_form
unfolding item_form reloc_form repeat_form
told_item = behind
  where
    star : (w : Word) → Begins part_begins (codes "*" ▸ token judged_repeat) w → is_word (codes "*") w.text ≡ true
    star w b = rw (behind_begins (codes "*") (token judged_repeat) w b) refl

    behind : (i : ItemWord) → IsTold (item_behind i)
    behind item_word.Uninit = (tt, (assumption, tt, refl, star, λ w b. absurd b), λ w b. tt)
    behind item_word.Reloc = assumption
    behind (item_word.Byte n) = (tt, (assumption, tt, refl, star, λ w b. absurd b), λ w b. tt)

told_global : (k : ℕ) → IsTold (global_form k)
unfolding global_form items_form is_number
told_global k = (
  (λ i. tt),
  (
    assumption,
    (
      (
        (λ i. told_item),
        (λ i. unfold item_form in refl),
        (λ i w b. ap not (no_item (codes "}") refl w b)),
        λ i j w b. item_stops w (no_item (codes "*") refl w b),
      ),
      λ w e. (ap (other_than (codes "}")) e, λ i. item_stops w (ap (is_word (codes "*")) e)),
    ),
    λ w b. assumption,
  ),
  λ w b i. tt,
)

global_begins : (k : ℕ) (w : Word) → Begins part_begins (global_form k) w → w.text ≡ codes "global"
unfolding global_form
global_begins k w b = word_begins (codes "global") w (only_first b)

function_begins : (k : ℕ) (w : Word) → Begins part_begins (function_form k) w → w.text ≡ codes "fn"
unfolding function_form
function_begins k w b = word_begins (codes "fn") w (only_first b)

global_stops : (k : ℕ) (w : Word) → Stops part_stops (global_form k) w
unfolding global_form
global_stops k w = assumption

function_stops : (k : ℕ) (w : Word) → Stops part_stops (function_form k) w
unfolding function_form body_form
function_stops k w = assumption

-- A program can be read a word at a time.
pub told_program : IsTold program_form
unfolding program_form globals_form functions_form
told_program = (
  (λ i. tt),
  (
    (λ i. tt),
    (
      (
        (told_global, (λ k. unfold global_form in refl), (λ k w b. rw (global_begins k w b) refl), λ j k w b. global_stops k w),
        (told_function, (λ k. unfold function_form in refl), (λ k w b. rw (function_begins k w b) refl), λ j k w b. function_stops k w),
        λ w b. (rw (function_begins b.0 w b.1) refl, λ k. global_stops k w),
      ),
      assumption,
      λ w b. (
        (rw (behind_begins (codes "main") function_use w b) refl, λ k. global_stops k w),
        (rw (behind_begins (codes "main") function_use w b) refl, λ k. function_stops k w),
      ),
    ),
    λ w b i. tt,
  ),
  λ w b i. tt,
)
