-- Blocks, functions, globals and programs are printed as they are written, by lines.
use Rattle.mr_grammar.proofs.Common.{List, map, ◌++◌, ◌∷◌, [], ◌≡◌, refl, ◌∙◌, ap, codes, ℕ, append_assoc, suc, Bool, true, sym, length, ◌+◌, false, flat_map, decimal, nat_le, append-nil, Block, Function, Global_, Program, Role, DefinesGlobal, DefinesLocal, DefinesBlock, DefinesFunction, UsesFunction, stmt_line, texts_in, term_line, local_texts, words_of_item, function_texts, lines_of, with_commas, text_at, Then, ProgramBody, judged_edition, globals_form, functions_form, global_form, items_form, local_form, block_form, stmts_form, judged_kind, body_form, args_form, locals_form, blocks_form, function_form, program_form, Definitions, number_in, all_names, number_of_name, defined_in, item_names, function_names, SpelledPart, Texts, kind_words, Writing, token, ◌▪◌, ◌▸◌, function_use, name_form, TheType, scope_at}
use Rattle.std.proofs.lemmas.Grind.{flat_map-append}
use Rattle.std.proofs.lemmas.List.Folds.{flat_map-map}
use Rattle.mr_ast.specs.declared.program.FnName.{FnName}
use Rattle.mr_ast.specs.Canon.{block_lines, function_lines, block_head, argument_words, local_words, head_line, locals_line, global_line, canonical_words, main_line, kind_word}
use Rattle.mr_ast.specs.ProgramGrammar.{FunctionBody}
use Rattle.mr_ast.specs.Scope.{is_number}
use Rattle.mr_ast.proofs.WordLaws.{kind_word_found}
use Rattle.mr_words.proofs.NamingLaws.{item_named, local_named, block_named}
use Rattle.mr_words.specs.Naming.{IsAmong}
use Rattle.mr_grammar.proofs.Canon.CanonForms.{Canon, canon_before, canon_then, canon_pair, canon_within, canon_many, canon_listed, canon_behind, canon_commas, Stands, canon_in, stands_same, canon_giving, stands_then, stands_many, canon_text}
use Rattle.mr_grammar.proofs.Canon.CanonItems.{KnownProgram, canon_item, canon_edition}
use Rattle.mr_grammar.proofs.Canon.CanonNames.{body_of}
use Rattle.mr_grammar.proofs.Canon.CanonStmts.{canon_stmt, canon_term}
use Rattle.mr_grammar.proofs.Canon.CanonValues.{canon_parts}
use Rattle.mr_grammar.proofs.Canon.CanonWords.{canon_name, canon_u64, Known, canon_table, canon_local}
use Rattle.mr_grammar.proofs.Names.NamedBack.{defined_text}
use Rattle.mr_grammar.proofs.Walk.EnsureLaws.{EachFrom, Parts, Ensures, ensures_then, ensures_pair, ensures_many}
use Rattle.mr_grammar.proofs.Walk.HeightLaws.{SomePart}

-- ---- words by lines

-- the words of some lines
abbrev words_of_lines : List Texts → Texts
words_of_lines lines = flat_map (λ line. line) lines

-- a line for each thing, and one more
lines_behind : {A : Type 0} (line : A → Texts) (xs : List A) (last : Texts) → words_of_lines (map line xs ++ last ∷ []) ≡ flat_map line xs ++ last
lines_behind line xs last = simp (flat_map-append, flat_map-map, append-nil)

-- some lines for each thing
lines_of_each : {A : Type 0} (lines : A → List Texts) (xs : List A) → words_of_lines (flat_map lines xs) ≡ flat_map (λ x. words_of_lines (lines x)) xs
lines_of_each lines [] = refl
lines_of_each lines (x ∷ xs) = flat_map-append (λ (l : Texts). l) (lines x) (flat_map lines xs) ∙ ap (λ rest. words_of_lines (lines x) ++ rest) (lines_of_each lines xs)

abbrev block_words : Program → Function → Block → Texts
block_words p f b = words_of_lines (block_lines p f b)

abbrev function_words : Program → Function → Texts
function_words p f = words_of_lines (function_lines p f)

block_words_are : (p : Program) (f : Function) (b : Block)
    → block_words p f b ≡ block_head p b ++ (flat_map (stmt_line (texts_in p f)) b.stmts ++ term_line (texts_in p f) b.term)
unfolding block_lines
block_words_are p f b = ap (λ words. block_head p b ++ words) (lines_behind (stmt_line (texts_in p f)) b.stmts (term_line (texts_in p f) b.term))

-- the words of the body of a function, as its form has them
abbrev body_row : Program → Function → FunctionBody → Texts
body_row p f b =
    ((codes "(" ∷ with_commas (map (argument_words p f) b.args) ++ codes ")" ∷ []) ++ codes "->" ∷ text_at (local_texts p f) b.ret.0 ∷ [])
    ++ (codes "{" ∷ ((codes "let" ∷ with_commas (map (local_words p) b.locals) ++ codes ";" ∷ []) ++ flat_map (block_words p f) b.blocks) ++ codes "}" ∷ [])

regroup : (a l b c : Texts) (arrow ret open_word close_word end : List ℕ)
    → ((a ++ close_word ∷ arrow ∷ ret ∷ []) ++ open_word ∷ []) ++ ((l ++ end ∷ []) ++ (b ++ c))
    ≡ ((a ++ close_word ∷ []) ++ arrow ∷ ret ∷ []) ++ open_word ∷ (((l ++ end ∷ []) ++ b) ++ c)
regroup a l b c arrow ret open_word close_word end = simp append_assoc

function_words_are : (p : Program) (f : Function)
    → function_words p f ≡ codes "fn" ∷ text_at p.names f.name ∷ body_row p f (record { args = f.args; ret = f.ret; locals = f.locals; blocks = f.blocks })
unfolding function_lines head_line locals_line
function_words_are p f =
    ap (λ words. head_line p f ++ (locals_line p f ++ words))
    (flat_map-append (λ (l : Texts). l) (flat_map (block_lines p f) f.blocks) ((codes "}" ∷ []) ∷ [])
    ∙ ap (λ words. words ++ codes "}" ∷ []) (lines_of_each (block_lines p f) f.blocks))
    ∙ ap (λ rest. codes "fn" ∷ text_at p.names f.name ∷ rest)
    (regroup (codes "(" ∷ with_commas (map (argument_words p f) f.args)) (codes "let" ∷ with_commas (map (local_words p) f.locals))
    (flat_map (block_words p f) f.blocks) (codes "}" ∷ []) (codes "->") (text_at (local_texts p f) f.ret.0) (codes "{") (codes ")") (codes ";"))

-- the words of a global behind the first, and those of a program
abbrev global_rest : Program → Global_ → Texts
global_rest p g = text_at p.names g.name ∷ codes "align" ∷ decimal g.align ∷ codes "{" ∷ flat_map (words_of_item p) g.items ++ codes "}" ∷ []

abbrev program_rest : Program → ProgramBody → Texts
program_rest p b =
    decimal b.edition ∷ ((flat_map (global_line p) b.globals ++ flat_map (function_words p) b.functions) ++ codes "main" ∷ text_at (function_texts p) b.start.0 ∷ [])

pub canonical_words_are : (p : Program) → canonical_words p ≡ codes "minirust" ∷ program_rest p (body_of p)
unfolding lines_of
canonical_words_are p = ap (λ rest. codes "minirust" ∷ decimal p.edition ∷ rest) items
  where
    items : words_of_lines (map (global_line p) p.globals ++ flat_map (function_lines p) p.functions ++ main_line p ∷ [])
        ≡ (flat_map (global_line p) p.globals ++ flat_map (function_words p) p.functions) ++ main_line p
    items =
        flat_map-append (λ (l : Texts). l) (map (global_line p) p.globals ++ flat_map (function_lines p) p.functions) (main_line p ∷ [])
        ∙ ap (λ front. front ++ main_line p)
        (flat_map-append (λ (l : Texts). l) (map (global_line p) p.globals) (flat_map (function_lines p) p.functions)
        ∙ ap (λ front. front ++ words_of_lines (flat_map (function_lines p) p.functions)) (flat_map-map (λ (l : Texts). l) (global_line p) p.globals)
        ∙ ap (λ back. flat_map (global_line p) p.globals ++ back) (lines_of_each (function_lines p) p.functions))

-- ---- what is written

-- each of which something is known has what follows from it
each_given : {A : Type 0} (K Q : ℕ → A → Type 0) (k : ℕ) (xs : List A) → EachFrom (λ j x. K j x → Q j x) k xs → EachFrom K k xs → EachFrom Q k xs
each_given K Q k [] laws each = tt
each_given K Q k (x ∷ xs) laws each = (laws.0 each.0, each_given K Q (suc k) xs laws.1 each.1)

-- the form of a program behind its first word
abbrev program_parts : ℕ → (List Global_ × List Function) × FnName → ProgramBody
program_parts edition parts = record { edition = edition; globals = parts.0.0; functions = parts.0.1; start = parts.1 }

abbrev program_behind : Writing ProgramBody
program_behind = Then program_parts (token judged_edition) ((globals_form ▪ functions_form) ▪ codes "main" ▸ function_use)

module _ {d : Definitions} (p : Program) (known : KnownProgram d p) {height room : ℕ} where
  -- a name that is defined
  canon_defined : {part mine : Parts} {k : ℕ} (over : Bool) (role : Role) (space : Texts) (j : ℕ)
      → ((text : List ℕ) → is_number j (number_in space text) ≡ true → IsAmong (all_names d) text)
      → ((text : List ℕ) → number_of_name d k role text ≡ defined_in d space j text)
      → Canon height room part mine (scope_at d k) [] (name_form over role) (λ n. text_at p.names n ∷ [])
  canon_defined over role space j among is = canon_name over role (text_at p.names)
      (λ text n e. ap (λ texts. text_at texts n) known.names ∙ defined_text d space j n text (among text) (sym (is text) ∙ e))

  canon_global_at : {part mine : Parts} (j : ℕ) → Canon height room part mine (scope_at d 0) [] (global_form j) (global_line p)
  unfolding global_form items_form global_line number_of_name
  canon_global_at j = canon_before {row = global_rest p} (codes "global") refl (canon_then
      (canon_pair (canon_defined (nat_le 256 j) (DefinesGlobal j) (item_names d) j (λ text. item_named d text j) (λ text. refl)) (canon_before (codes "align") refl canon_u64))
      (canon_within (λ lower e. canon_many (λ i. canon_item p known))) (λ head items. refl))

  module _ (k : ℕ) (f : Function) (names : Known d k (texts_in p f)) where
    canon_local_at : (j : ℕ) → Canon height room (SpelledPart height) SomePart (scope_at d k) [] (local_form j) (local_words p)
    unfolding local_form number_of_name
    canon_local_at j =
        canon_then (canon_defined (nat_le 256 j) (DefinesLocal j) (function_names d k).locals j (λ text. local_named d text j k) (λ text. refl))
        (canon_before (codes ":") refl (canon_parts (texts_in p f) names TheType)) (λ name t. refl)

    canon_block_at : (j : ℕ) → Canon height room (SpelledPart height) SomePart (scope_at d k) [] (block_form j) (block_words p f)
    unfolding block_form stmts_form number_of_name judged_kind
    canon_block_at j =
        canon_then (canon_pair (canon_defined (nat_le 1024 j) (DefinesBlock j) (function_names d k).blocks j (λ text. block_named d text j k) (λ text. refl))
        (canon_table kind_words kind_word refl kind_word_found))
        (canon_pair (canon_before (codes ":") refl (canon_many (canon_stmt (texts_in p f) names))) (canon_term (texts_in p f) names))
        (λ head body. block_words_are p f (record { name = head.0; kind = head.1; stmts = body.0; term = body.1 }))

module _ {d : Definitions} (p : Program) (known : KnownProgram d p) {height room : ℕ} where
  canon_body : (k : ℕ) (f : Function) → Known d k (texts_in p f) → Canon height room (SpelledPart height) SomePart (scope_at d k) [] body_form (body_row p f)
  unfolding body_form args_form locals_form blocks_form
  canon_body k f names = canon_then
      (canon_pair (canon_listed (λ lower e. canon_local (texts_in p f) names)) (canon_before (codes "->") refl (canon_local (texts_in p f) names)))
      (canon_within (λ lower e. canon_pair (canon_before (codes "let") refl (canon_behind (canon_commas local_form (canon_local_at p known k f names)) (codes ";") refl))
      (canon_then {row = flat_map (block_words p f)} (canon_block_at p known k f names 0) (canon_many (λ j. canon_block_at p known k f names (suc j))) (λ b bs. refl))))
      (λ head body. refl)

  canon_function_at : (k : ℕ) → Ensures height room (SpelledPart height) (scope_at d 0) (function_form k)
      (λ f. Known d k (texts_in p f) → Stands room SomePart (scope_at d 0) [] (function_form k) f (function_words p f))
  unfolding function_form number_of_name
  canon_function_at k = record {
    holds = λ f marks fine s names.
        (let one : Canon height room (SpelledPart height) SomePart (scope_at d 0) [] (function_form k)
        (λ g. codes "fn" ∷ text_at p.names g.name ∷ body_row p f (record { args = g.args; ret = g.ret; locals = g.locals; blocks = g.blocks })) =
        canon_before (codes "fn") refl (canon_then
        (canon_defined p known (nat_le 256 k) (DefinesFunction k) (item_names d) (length d.globals + k) (λ text. item_named d text (length d.globals + k)) (λ text. refl))
        (canon_in (canon_body k f names)) (λ n b. refl)) in
        stands_same (one.law.holds f marks fine s) (function_words_are p f));
  }

  canon_behind_first : Ensures height room (SpelledPart height) (scope_at d 0) program_behind
      (λ b. EachFrom (λ k f. Known d k (texts_in p f)) 0 b.functions → Stands room SomePart (scope_at d 0) [] program_behind b (program_rest p b))
  unfolding globals_form functions_form
  canon_behind_first = ensures_then canon_edition.law
      (ensures_pair (ensures_pair (canon_many (canon_global_at p known)).law (ensures_many canon_function_at))
      (canon_before {row = λ f. text_at (function_texts p) f.0 ∷ []} (codes "main") refl (canon_giving (canon_name false UsesFunction (text_at (function_texts p)) known.functions) (λ n. refl))).law)
      (λ edition parts one q names. stands_then one (stands_then (stands_then q.0.0
      (stands_many room SomePart (scope_at d 0) function_form (function_words p) parts.0.1 (each_given (λ k f. Known d k (texts_in p f)) (λ k f. Stands room SomePart (scope_at d 0) [] (function_form k) f (function_words p f)) 0 parts.0.1 q.0.1 names)) refl) q.1 refl) refl)

  -- The canonical words of a program write it, in the scope in which the text's names are known.
  pub canon_program : Ensures height room (SpelledPart height) (scope_at d 0) program_form
      (λ b. EachFrom (λ k f. Known d k (texts_in p f)) 0 b.functions → Stands room SomePart (scope_at d 0) [] program_form b (codes "minirust" ∷ program_rest p b))
  unfolding program_form
  canon_program = ensures_then (canon_text (codes "minirust") refl).law canon_behind_first (λ u b word rest names. stands_then word (rest names) refl)
