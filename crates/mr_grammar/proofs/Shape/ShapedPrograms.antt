-- The globals and functions that a row without a broken limit writes are shaped, where the program has as many of each as are defined.
use Rattle.mr_grammar.proofs.Common.{ℕ, ◌≡◌, Some, None, true, ◌≤◌, nat_le, codes, refl, Bool, if◌then◌else◌, ap, sym, false, length, ◌<◌, List, [], ◌∷◌, suc, arith, ◌^◌, All-from_recursion, le_from, lt_from, some_is, Block, Function, Program, Target, ItemWord, DefinesGlobal, DefinesLocal, DefinesFunction, Word, judged_item, ProgramBody, repeat_form, item_form, reloc_form, item_behind, global_form, items_form, local_form, locals_form, blocks_form, body_form, args_form, function_form, judged_edition, program_form, globals_form, functions_form, Definitions, names_of, ShapedFunction, IsRepeat, named_in, ShapedBlock, is_local, SpelledPart, is_number, value_of, is_word, fine, TheType, token, edition_found, scope_at, named_at}
use Rattle.std.proofs.Common.{All}
use Rattle.std.proofs.lemmas.List.Elements.{All-cons, All-weaker}
use Rattle.mr_ast.specs.ProgramGrammar.{with_name}
use Rattle.mr_ast.specs.Shaped.{ShapedGlobal, IsTarget, ShapedItem, ShapedLocal}
use Rattle.mr_ast.specs.Words.{IsEdition}
use Rattle.mr_words.proofs.BracketCounts.{counted}
use Rattle.mr_words.proofs.ScopeLaws.{define_global, define_local, define_function}
use Rattle.mr_ast.specs.declared.program.Target.TheVariants as target
use Rattle.mr_ast.specs.declared.words.ItemWord.TheVariants as item_word
use Rattle.mr_grammar.proofs.Names.DefinedTwice.{Counted}
use Rattle.mr_grammar.proofs.Shape.ShapedBlocks.{each_few, ensures_block}
use Rattle.mr_grammar.proofs.Shape.ShapedNames.{IsWithin, ensures_target_use, ensures_name, below, ensures_local_use, ensures_function_use}
use Rattle.mr_grammar.proofs.Shape.ShapedNumbers.{ensures_repeat, ensures_u64}
use Rattle.mr_grammar.proofs.Shape.ShapedValues.{parts_shaped}
use Rattle.mr_grammar.proofs.Walk.EnsureLaws.{EachFrom, Parts, Ensures, ensures_either, ensures_behind, ensures_empty, ensures_cases, ensures_giving, ensures_then, ensures_pair, ensures_within, ensures_all, ensures_many, each_also, ensures_listed, ensures_separated, ensures_before, ensures_in, ensures_token}
use Rattle.mr_grammar.proofs.Walk.FairJudges.{fine_found}

-- a byte of an item, which is the number that is written
pub byte_fine : (w : Word) (b : ℕ) → judged_item w ≡ Some (item_word.Byte b, None) → (is_number w.text ≡ true) × (value_of w.text ≡ b) × (b ≤ 255)
unfolding judged_item
byte_fine w b e = go (is_number w.text) (nat_le (value_of w.text) 255) (is_word (codes "?") w.text) (is_word (codes "&") w.text) refl refl e
  where
    go : (number little uninit reloc : Bool) → is_number w.text ≡ number → nat_le (value_of w.text) 255 ≡ little
        → fine (if number then (if little then Some (item_word.Byte (value_of w.text)) else None) else (if uninit then Some item_word.Uninit else (if reloc then Some item_word.Reloc else None)))
        ≡ Some (item_word.Byte b, None) → (is_number w.text ≡ true) × (value_of w.text ≡ b) × (b ≤ 255)
    go true true uninit reloc is t e =
        let same : item_word.Byte (value_of w.text) ≡ item_word.Byte b = ap (λ p. p.0) (some_is e) in
        let value : value_of w.text ≡ b = cc in (is, value, rw (sym value) (le_from (value_of w.text) 255 t))
    go true false uninit reloc is t e = absurd (cc)
    go false little true reloc is t e = let clash = ap (λ p. p.0) (some_is e) in absurd (cc)
    go false little false true is t e = let clash = ap (λ p. p.0) (some_is e) in absurd (cc)
    go false little false false is t e = absurd (cc)

-- the body of a program: its globals and functions are shaped, where each function has as many names as are defined in it, and keep the limits
pub record BodyShaped (p : Program) (d : Definitions) (body : ProgramBody) : Type 0 where
  pub edition_known : IsEdition body.edition
  pub globals_shaped : All (ShapedGlobal p) body.globals
  pub few_globals : length body.globals ≤ 256
  pub functions_shaped : EachFrom (λ k f. Counted d k f → ShapedFunction p f) 0 body.functions
  pub few_functions : length body.functions ≤ 256
  pub start_within : body.start.0 < length p.functions

each_kept : {A : Type 0} (P Q : ℕ → A → Type 0) → ((k : ℕ) (x : A) → P k x → Q k x) → (k : ℕ) (xs : List A) → EachFrom P k xs → EachFrom Q k xs
each_kept P Q law k [] each = tt
each_kept P Q law k (x ∷ xs) each = (law k x each.0, each_kept P Q law (suc k) xs each.1)

module _ (p : Program) (d : Definitions) (names : length p.names ≡ length (names_of d)) (globals : length p.globals ≡ length d.globals) (functions : length p.functions ≡ length d.functions) where
  -- items
  ensures_repeat_form : {height room : ℕ} {part : Parts} (k : ℕ) → Ensures height room part (scope_at d k) repeat_form IsRepeat
  unfolding repeat_form
  ensures_repeat_form k = ensures_either (ensures_behind ensures_repeat) (ensures_empty (record { some = omega arith; bounded = omega arith }))

  target_shaped : (k : ℕ) (t : Target) → IsWithin (named_at d k) t → IsTarget p t
  target_shaped k (target.Global g) within = omega (arith, globals)
  target_shaped k (target.Function f) within = omega (arith, functions)

  ensures_item : {height room : ℕ} {part : Parts} (k : ℕ) → Ensures height room part (scope_at d k) item_form (ShapedItem p)
  unfolding item_form reloc_form
  ensures_item {height} {room} {part} k = ensures_cases behind
    where
      behind : (w : Word) (i : ItemWord) → judged_item w ≡ Some (i, None) → Ensures height room part (scope_at d k) (item_behind i) (ShapedItem p)
      behind w (item_word.Byte b) e = ensures_giving (ensures_repeat_form k) (λ n r. ((byte_fine w b e).2, r))
      behind w item_word.Uninit e = ensures_giving (ensures_repeat_form k) (λ n r. r)
      behind w item_word.Reloc e = ensures_then (ensures_target_use d k) (ensures_behind ensures_u64) (λ t n within fits. (target_shaped k t within, lt_from n (2 ^ 64) fits))

  -- globals, of which none is one too many
  ensures_global : {height room : ℕ} {part : Parts} (j : ℕ) → Ensures height room part (scope_at d 0) (global_form j) (λ g. (j < 256) × ShapedGlobal p g)
  unfolding global_form items_form
  ensures_global j =
      ensures_behind (ensures_then (ensures_pair (ensures_name d 0 (DefinesGlobal j) (λ text n e. define_global d 0 j n text e)) (ensures_behind ensures_u64)) (ensures_within (λ lower e. ensures_all (λ i. ensures_item 0)))
      (λ head items q all. (
        below j 256 q.0.0,
        record { name = omega (arith, q.0.1, names); align = lt_from head.1 (2 ^ 64) q.1; items = All-from_recursion (ShapedItem p) items all },
      )))

  -- locals, of which none is one too many
  ensures_local : {height room : ℕ} (k j : ℕ) → Ensures height room (SpelledPart height) (scope_at d k) (local_form j) (λ l. (j < 256) × ShapedLocal p l)
  unfolding local_form
  ensures_local {height} {room} k j =
      ensures_then (ensures_name d k (DefinesLocal j) (λ text n e. define_local d k j n text e)) (ensures_behind (parts_shaped d k TheType))
      (λ name t q shaped. (below j 256 q.0, record { name = omega (arith, q.1, names); ty = shaped }))

  ensures_locals : {height room : ℕ} (k : ℕ) → Ensures height room (SpelledPart height) (scope_at d k) locals_form (λ ls. (length ls ≤ 256) × All (ShapedLocal p) ls)
  unfolding locals_form
  ensures_locals k =
      ensures_then (ensures_local k 0) (ensures_many (λ j. ensures_behind (ensures_local k (suc j))))
      (λ l ls one each. (
        omega (arith, each_few _ 255 (λ j x q. (let less = q.0 in omega arith)) 0 ls (omega arith) each),
        All-cons (ShapedLocal p) l ls one.1 (All-from_recursion (ShapedLocal p) ls (each_also _ (ShapedLocal p) (λ j x q. q.1) 0 ls each)),
      ))

  -- blocks, of which none is one too many, in a function that has as many names as are defined in it
  abbrev BlocksShaped : ℕ → List Block → Type 0
  BlocksShaped k bs = (0 < length bs) × (length bs ≤ 1024) × ((f : Function) → named_in p f ≡ named_at d k → All (ShapedBlock p f) bs)

  ensures_blocks : {height room : ℕ} (k : ℕ) → Ensures height room (SpelledPart height) (scope_at d k) blocks_form (BlocksShaped k)
  unfolding blocks_form
  ensures_blocks k =
      ensures_then (ensures_block d k p names 0) (ensures_many (λ j. ensures_block d k p names (suc j)))
      (λ b bs one each. (
        omega arith,
        omega (arith, each_few _ 1023 (λ j x q. (let less = q.0 in omega arith)) 0 bs (omega arith) each),
        λ f same. All-cons (ShapedBlock p f) b bs (one.1 f same)
            (All-from_recursion (ShapedBlock p f) bs (each_also _ (ShapedBlock p f) (λ j x q. q.1 f same) 0 bs each)),
      ))

  same_named : (k : ℕ) (f : Function) → Counted d k f → named_in p f ≡ named_at d k
  same_named k f counted = λ i. record { globals = globals i; functions = functions i; locals = counted.0 i; blocks = counted.1 i }

  ensures_body : {height room : ℕ} (k : ℕ) → Ensures height room (SpelledPart height) (scope_at d k) body_form (λ body. (n : ℕ) → n < length p.names → Counted d k (with_name n body) → ShapedFunction p (with_name n body))
  unfolding body_form args_form
  ensures_body k =
      ensures_then (ensures_pair (ensures_listed (λ lower e. ensures_separated (ensures_local_use d k))) (ensures_behind (ensures_local_use d k)))
      (ensures_within (λ lower e. ensures_pair (ensures_behind (ensures_before (ensures_locals k))) (ensures_blocks k)))
      (λ head body q r. λ n held counted. record {
        name = held;
        args = All-weaker (λ x. is_local (named_at d k) x ≡ true) (λ x. x.0 < length body.0) (λ x e. rw counted.0 (lt_from x.0 (named_at d k).locals e)) head.0
            (All-from_recursion (λ x. is_local (named_at d k) x ≡ true) head.0 q.0);
        ret = rw counted.0 (lt_from head.1.0 (named_at d k).locals q.1);
        locals = r.0.1;
        blocks =
            let f : Function = with_name n (record { args = head.0; ret = head.1; locals = body.0; blocks = body.1 }) in r.1.2 f (same_named k f counted);
        has_start = r.1.0;
        few_locals = r.0.0;
        few_blocks = r.1.1;
      })

  -- functions, of which none is one too many
  ensures_function : {height room : ℕ} (k : ℕ) → Ensures height room (SpelledPart height) (scope_at d 0) (function_form k) (λ f. (k < 256) × (Counted d k f → ShapedFunction p f))
  unfolding function_form
  ensures_function k =
      ensures_behind (ensures_then (ensures_name d 0 (DefinesFunction k) (λ text n e. define_function d 0 k n text e)) (ensures_in (ensures_body k))
      (λ n body q shaped. (below k 256 q.0, λ counted. shaped n (omega (arith, q.1, names)) counted)))

  ensures_edition : {height room : ℕ} → Ensures height room (SpelledPart height) (scope_at d 0) (token judged_edition) IsEdition
  unfolding judged_edition
  ensures_edition = ensures_token (λ w n e. edition_found w.text n (fine_found _ n None e))

  pub ensures_program : {height room : ℕ} → Ensures height room (SpelledPart height) (scope_at d 0) program_form (BodyShaped p d)
  unfolding program_form globals_form functions_form
  ensures_program =
      ensures_behind (ensures_then ensures_edition (ensures_pair (ensures_pair (ensures_many ensures_global) (ensures_many ensures_function)) (ensures_behind (ensures_function_use d 0)))
      (λ edition parts known q. record {
        edition_known = known;
        globals_shaped = All-from_recursion (ShapedGlobal p) parts.0.0 (each_also _ (ShapedGlobal p) (λ k g one. one.1) 0 parts.0.0 q.0.0);
        few_globals = omega (arith, each_few _ 256 (λ k g one. one.0) 0 parts.0.0 (omega arith) q.0.0);
        functions_shaped = each_kept _ (λ k f. Counted d k f → ShapedFunction p f) (λ k f one. one.1) 0 parts.0.1 q.0.1;
        few_functions = omega (arith, each_few _ 256 (λ k f one. one.0) 0 parts.0.1 (omega arith) q.0.1);
        start_within = rw functions (lt_from parts.1.0 (named_at d 0).functions q.1);
      }))
