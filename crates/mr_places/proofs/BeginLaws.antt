-- What stands from a place on begins with what writes the place's statement or terminator.
use Rattle.mr_places.proofs.Common.{◌≡◌, ℕ, zero, suc, ◌+◌, Bool, true, false, if◌then◌else◌, List, [], ◌∷◌, ◌++◌, length, map, take, drop, slice_get, Some, refl, ap, sym, ◌∙◌, subst, arith, append_assoc, map-append, Block, Function, Word, Mark, Scope, Writing, inside_function, stmt_form, term_form, block_form, function_form, Spelled, behind, is_end, ends_of_block, ends_of_blocks, ends_of_function, ends_of_functions, ends_before, words_of_head, from_place, option_map, firsts_of, spot_at, spot_of}
use Rattle.mr_ast.specs.declared.program.Program.{Program}
use Rattle.mr_ast.specs.declared.program.Stmt.{Stmt}
use Rattle.mr_ast.specs.Words.{Texts}
use Rattle.mr_lex.specs.Tokens.{Lexeme}
use Rattle.mr_grammar.specs.WordsPlaces.{numbered, words_from, words_of}
use Rattle.mr_grammar.specs.WordsDefined.{knowing}
use Rattle.mr_grammar.specs.Denotes.{Denotes, IsFine, definitions_in, words_in}
use Rattle.mr_grammar.proofs.Walk.Rows.{fine_parts}
use Rattle.mr_places.specs.Places.{BeginWith}
use Rattle.std.specs.Prelude.{is_some}
use Rattle.mr_places.proofs.LaidLaws.{found}
use Rattle.mr_places.proofs.FreeLaws.{IsFreeRow}
use Rattle.mr_places.proofs.EndLaws.{mark_text, Closes, Passes, closes_append, closes_some, passes_append, passes_closes, free_passes}
use Rattle.mr_places.proofs.RowLaws.{each_at, closes_same, each_closes, each_passes, each_once, stmt_closes, term_closes}
use Rattle.mr_places.proofs.BlockLaws.{BlockRow, ProgramRow, block_row, block_closes, function_row, function_passes, program_row}

-- three words
behind_three : (head rest : List Mark) → length head ≡ 3 → drop 3 (head ++ rest) ≡ rest
behind_three (a ∷ (b ∷ (c ∷ []))) rest e = refl
behind_three [] rest e = absurd (cc)
behind_three (a ∷ []) rest e = absurd (cc)
behind_three (a ∷ (b ∷ [])) rest e = absurd (cc)
behind_three (a ∷ (b ∷ (c ∷ (d ∷ more)))) rest e = absurd (omega (arith, e))

-- in a block, behind so many of its statements
in_block : (head stmts rest : List Mark) → length head ≡ 3 → IsFreeRow head → (k : ℕ) → Closes k stmts
    → drop (words_of_head k) (behind mark_text k (head ++ (stmts ++ rest))) ≡ rest
in_block head stmts rest three free zero closes =
    let number : 0 ≡ 0 + 0 = omega arith in
    behind_three head (stmts ++ rest) three ∙ ap (λ i. behind mark_text i (stmts ++ rest)) number ∙ closes.closes 0 rest
in_block head stmts rest three free (suc k) closes =
    let number : suc k ≡ 0 + suc k = omega arith in
    let again : suc k ≡ suc k + 0 = omega arith in
    ap (λ i. behind mark_text i (head ++ (stmts ++ rest))) number ∙ (free_passes head free).passes k (stmts ++ rest) ∙ ap (λ i. behind mark_text i (stmts ++ rest)) again ∙ closes.closes 0 rest

-- the parts of a program around a block
in_parts : (h ff op bf bo bb cl fb t : List Mark)
    → h ++ ((ff ++ ((op ++ ((bf ++ (bo ++ bb)) ++ cl)) ++ fb)) ++ t) ≡ (((h ++ ff) ++ op) ++ bf) ++ (bo ++ (bb ++ (cl ++ (fb ++ t))))
in_parts h ff op bf bo bb cl fb t =
    let y = fb ++ t in
    let z = bo ++ (bb ++ (cl ++ y)) in
    ap (λ r. h ++ r)
    (append_assoc ff ((op ++ ((bf ++ (bo ++ bb)) ++ cl)) ++ fb) t
    ∙ ap (λ r. ff ++ r)
    (append_assoc (op ++ ((bf ++ (bo ++ bb)) ++ cl)) fb t ∙ append_assoc op ((bf ++ (bo ++ bb)) ++ cl) y
    ∙ ap (λ r. op ++ r) (append_assoc (bf ++ (bo ++ bb)) cl y ∙ append_assoc bf (bo ++ bb) (cl ++ y) ∙ ap (λ r. bf ++ r) (append_assoc bo bb (cl ++ y)))))
    ∙ sym (append_assoc ((h ++ ff) ++ op) bf z ∙ append_assoc (h ++ ff) op (bf ++ z) ∙ append_assoc h ff (op ++ (bf ++ z)))

-- the row of one block in a program, and what stands in front of it
record BlockAt (scope : Scope) (functions : List Function) (marks : List Mark) (f b : ℕ) (function : Function) (block : Block) : Type 0 where
  height : ℕ
  front : List Mark
  own : List Mark
  back : List Mark
  whole : marks ≡ front ++ (own ++ back)
  closes : Closes (ends_of_functions (take f functions) + suc (ends_of_blocks (take b function.blocks))) front
  row : BlockRow height (inside_function f scope) block own

block_at : (scope : Scope) (functions : List Function) (marks : List Mark) → ProgramRow scope functions marks → (f b : ℕ) (function : Function) (block : Block)
    → slice_get functions f ≡ Some function → slice_get function.blocks b ≡ Some block → BlockAt scope functions marks f b function block
block_at scope functions marks p f b function block at_f at_b =
    let of_f = each_at _ 0 functions p.rows p.written f function at_f in
    let number_f : 0 + f ≡ f = omega arith in
    let written_f : Spelled p.height 32 scope (function_form f) function of_f.own = subst (λ i. Spelled p.height 32 scope (function_form i) function of_f.own) number_f of_f.here in
    let fun = function_row p.height scope f function of_f.own written_f in
    let of_b = each_at _ 0 function.blocks fun.blocks fun.written b block at_b in
    let number_b : 0 + b ≡ b = omega arith in
    let written_b : Spelled fun.height 31 (inside_function f scope) (block_form b) block of_b.own =
    subst (λ i. Spelled fun.height 31 (inside_function f scope) (block_form i) block of_b.own) number_b of_b.here in
    let before_f : Passes (ends_of_functions (take f functions)) of_f.front =
    each_passes _ ends_of_function (λ k g ms w. function_passes scope k g ms (function_row p.height scope k g ms w)) 0 (take f functions) of_f.front of_f.before in
    let before_b : Closes (ends_of_blocks (take b function.blocks)) of_b.front =
    each_closes _ ends_of_block (λ j x ms w. block_closes fun.height (inside_function f scope) x ms (block_row fun.height (inside_function f scope) j x ms w)) 0 (take b function.blocks) of_b.front of_b.before in
    let count : ((0 + ends_of_functions (take f functions)) + 1) + ends_of_blocks (take b function.blocks) ≡ ends_of_functions (take f functions) + suc (ends_of_blocks (take b function.blocks)) = omega arith in
    record {
      height = fun.height;
      front = ((p.head ++ of_f.front) ++ fun.opening) ++ of_b.front;
      own = of_b.own;
      back = of_b.back ++ (fun.closing ++ (of_f.back ++ p.tail));
      whole =
          p.whole ∙ ap (λ r. p.head ++ (r ++ p.tail)) of_f.whole ∙ ap (λ r. p.head ++ ((of_f.front ++ (r ++ of_f.back)) ++ p.tail)) fun.whole
          ∙ ap (λ r. p.head ++ ((of_f.front ++ ((fun.opening ++ (r ++ fun.closing)) ++ of_f.back)) ++ p.tail)) of_b.whole
          ∙ in_parts p.head of_f.front fun.opening of_b.front of_b.own of_b.back fun.closing of_f.back p.tail;
      closes = closes_same count (closes_append (passes_closes (passes_append (free_passes p.head p.free) before_f) fun.opens) before_b);
      row = block_row fun.height (inside_function f scope) b block of_b.own written_b;
    }

-- what stands from a place on, where so many statements of the block are in front of it
from_block : (functions : List Function) (blocks : List Block) (front own back : List Mark) → Closes (ends_of_functions functions + suc (ends_of_blocks blocks)) front
    → (head stmts rest : List Mark) → length head ≡ 3 → IsFreeRow head → (k : ℕ) → Closes k stmts → own ++ back ≡ head ++ (stmts ++ rest)
    → from_place mark_text functions blocks k (front ++ (own ++ back)) ≡ rest
from_block functions blocks front own back closes head stmts rest three free k some whole =
    let number : ends_before functions blocks k ≡ (ends_of_functions functions + suc (ends_of_blocks blocks)) + k = omega arith in
    ap (λ i. drop (words_of_head k) (behind mark_text i (front ++ (own ++ back)))) number
    ∙ ap (λ r. drop (words_of_head k) r) (closes.closes k (own ++ back))
    ∙ ap (λ r. drop (words_of_head k) (behind mark_text k r)) whole
    ∙ in_block head stmts rest three free k some

-- so many in front of one
taken : {A : Type 0} (xs : List A) (k : ℕ) (x : A) → slice_get xs k ≡ Some x → length (take k xs) ≡ k
taken [] zero x e = absurd (cc)
taken [] (suc k) x e = absurd (cc)
taken (y ∷ ys) zero x e = refl
taken (y ∷ ys) (suc k) x e = ap suc (taken ys k x e)

-- what stands from a place on begins with a row that writes the thing
record Begun (scope : Scope) {A : Type 0} (form : Writing A) (x : A) (marks : List Mark) : Type 0 where
  height : ℕ
  own : List Mark
  rest : List Mark
  written : Spelled height 31 scope form x own
  once : Closes 1 own
  whole : marks ≡ own ++ rest

stmt_begun : (scope : Scope) (functions : List Function) (marks : List Mark) → ProgramRow scope functions marks → (f b k : ℕ) (function : Function) (block : Block) (s : Stmt)
    → slice_get functions f ≡ Some function → slice_get function.blocks b ≡ Some block → slice_get block.stmts k ≡ Some s
    → Begun (inside_function f scope) (stmt_form k) s (from_place mark_text (take f functions) (take b function.blocks) k marks)
stmt_begun scope functions marks p f b k function block s at_f at_b at_s =
    let here = block_at scope functions marks p f b function block at_f at_b in
    let row = here.row in
    let of_s = each_at _ 0 block.stmts row.stmts row.written k s at_s in
    let number : 0 + k ≡ k = omega arith in
    let before : Closes k of_s.front =
    closes_same (taken block.stmts k s at_s) (each_once _ (stmt_closes here.height 31 (inside_function f scope)) 0 (take k block.stmts) of_s.front of_s.before) in
    let whole : here.own ++ here.back ≡ row.head ++ (of_s.front ++ (of_s.own ++ (of_s.back ++ (row.term ++ here.back)))) =
    ap (λ r. r ++ here.back) row.whole ∙ append_assoc row.head (row.stmts ++ row.term) here.back
    ∙ ap (λ r. row.head ++ r) (append_assoc row.stmts row.term here.back ∙ ap (λ r. r ++ (row.term ++ here.back)) of_s.whole
    ∙ append_assoc of_s.front (of_s.own ++ of_s.back) (row.term ++ here.back) ∙ ap (λ r. of_s.front ++ r) (append_assoc of_s.own of_s.back (row.term ++ here.back))) in
    record {
      height = here.height;
      own = of_s.own;
      rest = of_s.back ++ (row.term ++ here.back);
      written = subst (λ i. Spelled here.height 31 (inside_function f scope) (stmt_form i) s of_s.own) number of_s.here;
      once = stmt_closes here.height 31 (inside_function f scope) (0 + k) s of_s.own of_s.here;
      whole =
          ap (λ ms. from_place mark_text (take f functions) (take b function.blocks) k ms) here.whole
          ∙ from_block (take f functions) (take b function.blocks) here.front here.own here.back here.closes row.head of_s.front (of_s.own ++ (of_s.back ++ (row.term ++ here.back)))
          row.three row.free k before whole;
    }

term_begun : (scope : Scope) (functions : List Function) (marks : List Mark) → ProgramRow scope functions marks → (f b : ℕ) (function : Function) (block : Block)
    → slice_get functions f ≡ Some function → slice_get function.blocks b ≡ Some block
    → Begun (inside_function f scope) term_form block.term (from_place mark_text (take f functions) (take b function.blocks) (length block.stmts) marks)
term_begun scope functions marks p f b function block at_f at_b =
    let here = block_at scope functions marks p f b function block at_f at_b in
    let row = here.row in
    let before : Closes (length block.stmts) row.stmts = each_once _ (stmt_closes here.height 31 (inside_function f scope)) 0 block.stmts row.stmts row.written in
    let whole : here.own ++ here.back ≡ row.head ++ (row.stmts ++ (row.term ++ here.back)) =
    ap (λ r. r ++ here.back) row.whole ∙ append_assoc row.head (row.stmts ++ row.term) here.back
    ∙ ap (λ r. row.head ++ r) (append_assoc row.stmts row.term here.back) in
    record {
      height = here.height;
      own = row.term;
      rest = here.back;
      written = row.ending;
      once = term_closes here.height 31 (inside_function f scope) block.term row.term row.ending;
      whole =
          ap (λ ms. from_place mark_text (take f functions) (take b function.blocks) (length block.stmts) ms) here.whole
          ∙ from_block (take f functions) (take b function.blocks) here.front here.own here.back here.closes row.head row.stmts (row.term ++ here.back)
          row.three row.free (length block.stmts) before whole;
    }

-- ---- from rows of marks to tokens

-- the same of the texts
behind_map : {A : Type 0} (text : A → List ℕ) (n : ℕ) (xs : List A) → map text (behind text n xs) ≡ behind (λ t. t) n (map text xs)
behind_map text zero xs = refl
behind_map text (suc n) [] = refl
behind_map text (suc n) (x ∷ xs) = go (is_end (text x)) (behind_map text n xs) (behind_map text (suc n) xs)
  where
    go : (e : Bool) → map text (behind text n xs) ≡ behind (λ t. t) n (map text xs) → map text (behind text (suc n) xs) ≡ behind (λ t. t) (suc n) (map text xs)
        → map text (if e then behind text n xs else behind text (suc n) xs) ≡ (if e then behind (λ t. t) n (map text xs) else behind (λ t. t) (suc n) (map text xs))
    go true one other = one
    go false one other = other

drop_map : {A B : Type 0} (g : A → B) (n : ℕ) (xs : List A) → map g (drop n xs) ≡ drop n (map g xs)
drop_map g zero xs = refl
drop_map g (suc n) [] = refl
drop_map g (suc n) (x ∷ xs) = drop_map g n xs

from_map : {A : Type 0} (text : A → List ℕ) (functions : List Function) (blocks : List Block) (k : ℕ) (xs : List A)
    → map text (from_place text functions blocks k xs) ≡ from_place (λ t. t) functions blocks k (map text xs)
from_map text functions blocks k xs =
    drop_map text (words_of_head k) (behind text (ends_before functions blocks k) xs) ∙ ap (λ r. drop (words_of_head k) r) (behind_map text (ends_before functions blocks k) xs)

numbered_texts : (k : ℕ) (texts : Texts) → map (λ (w : Word). w.text) (numbered k texts) ≡ texts
numbered_texts k [] = refl
numbered_texts k (t ∷ ts) = ap (λ r. t ∷ r) (numbered_texts (suc k) ts)

words_texts : (lexemes : List Lexeme) → map (λ (w : Word). w.text) (words_of lexemes) ≡ map (λ l. l.text) lexemes
unfolding words_from
words_texts lexemes = numbered_texts 0 (map (λ l. l.text) lexemes)

marks_texts : (marks : List Mark) → map (λ (w : Word). w.text) (words_in marks) ≡ map mark_text marks
marks_texts [] = refl
marks_texts (m ∷ ms) = ap (λ r. m.word.text ∷ r) (marks_texts ms)

-- no limit is broken behind
fine_behind : (n : ℕ) (marks : List Mark) → IsFine marks → IsFine (behind mark_text n marks)
fine_behind zero marks all = all
fine_behind (suc n) [] all = tt
fine_behind (suc n) (m ∷ ms) all = go (is_end (mark_text m)) (fine_behind n ms all.1) (fine_behind (suc n) ms all.1)
  where
    go : (e : Bool) → IsFine (behind mark_text n ms) → IsFine (behind mark_text (suc n) ms) → IsFine (if e then behind mark_text n ms else behind mark_text (suc n) ms)
    go true one other = one
    go false one other = other

fine_drop : (n : ℕ) (marks : List Mark) → IsFine marks → IsFine (drop n marks)
fine_drop zero marks all = all
fine_drop (suc n) [] all = tt
fine_drop (suc n) (m ∷ ms) all = fine_drop n ms all.1

begin_with : (scope : Scope) {A : Type 0} (form : Writing A) (x : A) (functions : List Function) (blocks : List Block) (k : ℕ) (lexemes : List Lexeme) (marks : List Mark)
    → words_of lexemes ≡ words_in marks → IsFine marks → Begun scope form x (from_place mark_text functions blocks k marks)
    → BeginWith scope form x (map (λ l. l.text) (from_place (λ l. l.text) functions blocks k lexemes))
begin_with scope form x functions blocks k lexemes marks row fine begun =
    let texts : map (λ (l : Lexeme). l.text) lexemes ≡ map mark_text marks = sym (words_texts lexemes) ∙ ap (λ ws. map (λ (w : Word). w.text) ws) row ∙ marks_texts marks in
    let same : map (λ (l : Lexeme). l.text) (from_place (λ l. l.text) functions blocks k lexemes) ≡ map mark_text (begun.own ++ begun.rest) =
    from_map (λ l. l.text) functions blocks k lexemes ∙ ap (λ ts. from_place (λ t. t) functions blocks k ts) texts ∙ sym (from_map mark_text functions blocks k marks)
    ∙ ap (λ ms. map mark_text ms) begun.whole in
    let number : 1 ≡ 1 + 0 = omega arith in
    let after : begun.rest ≡ behind mark_text 1 (begun.own ++ begun.rest) = sym (ap (λ i. behind mark_text i (begun.own ++ begun.rest)) number ∙ begun.once.closes 0 begun.rest) in
    let all : IsFine (begun.own ++ begun.rest) = subst IsFine begun.whole (fine_drop (words_of_head k) _ (fine_behind (ends_before functions blocks k) marks fine)) in
    record {
      height = begun.height;
      own = begun.own;
      some = closes_some begun.own begun.once;
      fine = (fine_parts begun.own begun.rest all).0;
      written = begun.written;
      rest = map mark_text begun.rest;
      whole = same ∙ map-append mark_text begun.own begun.rest;
      ended = ap (λ ms. map mark_text ms) after ∙ behind_map mark_text 1 (begun.own ++ begun.rest) ∙ ap (λ ts. behind (λ t. t) 1 ts) (sym same);
    }

-- of a text that denotes a program
module _ (text : List ℕ) (p : Program) (d : Denotes text p) where
  the_scope : Scope
  the_scope = knowing (definitions_in (words_of d.lexemes) d.shape)

  the_row : ProgramRow the_scope d.body.functions d.named.marks
  unfolding the_scope
  the_row = program_row d.named.written.0 _ d.body d.named.marks d.named.written.1

  functions_are : p.functions ≡ d.body.functions
  functions_are = ap (λ q. q.functions) d.program

  pub stmt_begins : (f b k : ℕ) (function : Function) (block : Block) (s : Stmt) → slice_get p.functions f ≡ Some function → slice_get function.blocks b ≡ Some block
      → slice_get block.stmts k ≡ Some s
      → BeginWith (inside_function f (knowing (definitions_in (words_of d.lexemes) d.shape))) (stmt_form k) s
      (map (λ l. l.text) (from_place (λ l. l.text) (take f p.functions) (take b function.blocks) k d.lexemes))
  unfolding the_scope
  stmt_begins f b k function block s at_f at_b at_s =
      rw functions_are
      (begin_with _ (stmt_form k) s (take f d.body.functions) (take b function.blocks) k d.lexemes d.named.marks d.named.row d.named.fine
      (stmt_begun the_scope d.body.functions d.named.marks the_row f b k function block s (ap (λ l. slice_get l f) (sym functions_are) ∙ at_f) at_b at_s))

  pub term_begins : (f b : ℕ) (function : Function) (block : Block) → slice_get p.functions f ≡ Some function → slice_get function.blocks b ≡ Some block
      → BeginWith (inside_function f (knowing (definitions_in (words_of d.lexemes) d.shape))) term_form block.term
      (map (λ l. l.text) (from_place (λ l. l.text) (take f p.functions) (take b function.blocks) (length block.stmts) d.lexemes))
  unfolding the_scope
  term_begins f b function block at_f at_b =
      rw functions_are
      (begin_with _ term_form block.term (take f d.body.functions) (take b function.blocks) (length block.stmts) d.lexemes d.named.marks d.named.row d.named.fine
      (term_begun the_scope d.body.functions d.named.marks the_row f b function block (ap (λ l. slice_get l f) (sym functions_are) ∙ at_f) at_b))

-- what begins with words begins with one
pub some_spot : (lexemes : List Lexeme) (own : List Mark) (rest : Texts) → map (λ (l : Lexeme). l.text) lexemes ≡ map mark_text own ++ rest → (own ≡ [] → ⊥)
    → is_some (option_map spot_of (slice_get lexemes 0)) ≡ true
some_spot [] [] rest e some = absurd (some refl)
some_spot [] (m ∷ ms) rest e some = absurd (cc)
some_spot (l ∷ ls) own rest e some = refl

-- each place is found
pub stmt_there : (text : List ℕ) (p : Program) (d : Denotes text p) (f b k : ℕ) (function : Function) (block : Block) (s : Stmt) → slice_get p.functions f ≡ Some function
    → slice_get function.blocks b ≡ Some block → slice_get block.stmts k ≡ Some s
    → is_some (spot_at (record { lexemes = d.lexemes; firsts = firsts_of 0 p.functions }) f b k) ≡ true
stmt_there text p d f b k function block s at_f at_b at_s =
    let w = stmt_begins text p d f b k function block s at_f at_b at_s in
    ap is_some (found d.lexemes p.functions f b k function block at_f at_b) ∙ some_spot _ w.own w.rest w.whole w.some

pub term_there : (text : List ℕ) (p : Program) (d : Denotes text p) (f b : ℕ) (function : Function) (block : Block) → slice_get p.functions f ≡ Some function
    → slice_get function.blocks b ≡ Some block
    → is_some (spot_at (record { lexemes = d.lexemes; firsts = firsts_of 0 p.functions }) f b (length block.stmts)) ≡ true
term_there text p d f b function block at_f at_b =
    let w = term_begins text p d f b function block at_f at_b in
    ap is_some (found d.lexemes p.functions f b (length block.stmts) function block at_f at_b) ∙ some_spot _ w.own w.rest w.whole w.some
