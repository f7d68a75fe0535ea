-- Words and lines that are written one behind the other.
use Rattle.mr_print.proofs.Common.{◌≡◌, ℕ, List, [], ◌∷◌, ◌++◌, map, take, length, ap, ◌∙◌, arith, flat_map, codes, with_commas, with_word, with_words, with_last, with_line, with_lines}
use Rattle.std.proofs.lemmas.Bool.Decides.{nat_tests}
use Rattle.std.proofs.Common.{suc, ◌+◌, ◌<◌, get_or, refl, sym, append_assoc, append-nil}
use Rattle.std.proofs.lemmas.List.{flat_map_more, length-map, length-take-le, map_more, take_all, take_more}
use Rattle.std.proofs.lemmas.List.Concat.{flat_map-append}
use Rattle.mr_ast.specs.Words.{Texts}
use Rattle.mr_ast.specs.Canon.{text_of_line, text_of_lines}
use Rattle.mr_print.specs.Appends.{comma_at}

-- ---- words

pub with_words-none : (old : List ℕ) → with_words old [] ≡ old
unfolding with_words
with_words-none old = append-nil old

pub with_words-cons : (old word : List ℕ) (words : Texts) → with_words old (word ∷ words) ≡ with_words (with_word old word) words
unfolding with_word with_words
with_words-cons old word words = sym (append_assoc old (word ++ 32 ∷ []) (flat_map (λ (w : List ℕ). w ++ 32 ∷ []) words))

pub with_words-append : (old : List ℕ) (xs ys : Texts) → with_words old (xs ++ ys) ≡ with_words (with_words old xs) ys
unfolding with_words
with_words-append old xs ys =
    let followed = flat_map (λ (w : List ℕ). w ++ 32 ∷ []) in
    ap (λ more. old ++ more) (flat_map-append (λ (w : List ℕ). w ++ 32 ∷ []) xs ys) ∙ sym (append_assoc old (followed xs) (followed ys))

-- ---- lines

pub with_line-last : (old word : List ℕ) → with_line old (word ∷ []) ≡ with_last old word
unfolding with_line with_last
with_line-last old word = refl

pub with_line-cons : (old word next : List ℕ) (words : Texts) → with_line old (word ∷ next ∷ words) ≡ with_line (with_word old word) (next ∷ words)
unfolding with_line with_word
with_line-cons old word next words = simp append_assoc

with_line-append : (old : List ℕ) (xs : Texts) (next : List ℕ) (words : Texts) → with_line old (xs ++ next ∷ words) ≡ with_line (with_words old xs) (next ∷ words)
with_line-append old [] next words = ap (λ o. with_line o (next ∷ words)) (sym (with_words-none old))
with_line-append old (x ∷ []) next words =
    with_line-cons old x next words ∙ ap (λ o. with_line o (next ∷ words)) (sym (with_words-cons old x [] ∙ with_words-none (with_word old x)))
with_line-append old (x ∷ y ∷ xs) next words =
    with_line-cons old x y (xs ++ next ∷ words) ∙ with_line-append (with_word old x) (y ∷ xs) next words
    ∙ ap (λ o. with_line o (next ∷ words)) (sym (with_words-cons old x (y ∷ xs)))

-- the last word ends the line
pub with_line-end : (old : List ℕ) (words : Texts) (last : List ℕ) → with_line old (words ++ last ∷ []) ≡ with_last (with_words old words) last
with_line-end old words last = with_line-append old words last [] ∙ with_line-last (with_words old words) last

pub with_lines-none : (old : List ℕ) → with_lines old [] ≡ old
unfolding with_lines
with_lines-none old = append-nil old

pub with_lines-cons : (old : List ℕ) (line : Texts) (lines : List Texts) → with_lines old (line ∷ lines) ≡ with_lines (with_line old line) lines
unfolding with_line with_lines
with_lines-cons old line lines = sym (append_assoc old (text_of_line line) (text_of_lines lines))

pub with_lines-append : (old : List ℕ) (xs ys : List Texts) → with_lines old (xs ++ ys) ≡ with_lines (with_lines old xs) ys
unfolding with_lines
with_lines-append old xs ys =
    ap (λ more. old ++ more) (flat_map-append text_of_line xs ys) ∙ sym (append_assoc old (text_of_lines xs) (text_of_lines ys))

-- ---- rows

comma_at-suc : (k : ℕ) → comma_at (suc k) ≡ codes "," ∷ []
comma_at-suc k = grind (arith, nat_tests)

-- all rows but the first behind a comma
with_commas-last : (rows : List Texts) (row : Texts) → with_commas (rows ++ row ∷ []) ≡ with_commas rows ++ (comma_at (length rows) ++ row)
with_commas-last [] row = append-nil row
with_commas-last (r ∷ rows) row =
    let behind = λ (x : Texts). codes "," ∷ x in
    ap (λ more. r ++ more) (flat_map-append behind rows (row ∷ [])) ∙ ap (λ more. r ++ (flat_map behind rows ++ (codes "," ∷ more))) (append-nil row)
    ∙ sym (append_assoc r (flat_map behind rows) (codes "," ∷ row))
    ∙ ap (λ comma. (r ++ flat_map behind rows) ++ (comma ++ row)) (sym (comma_at-suc (length rows)))

-- one more row, behind a comma unless it is the first
with_commas_more : {X : Type 0} (old : List ℕ) (f : X → Texts) (xs : List X) (i : ℕ) (d : X) → i < length xs
    → with_words old (with_commas (map f (take (i + 1) xs)))
    ≡ with_words (with_words (with_words old (with_commas (map f (take i xs)))) (comma_at i)) (f (get_or xs i d))
with_commas_more old f xs i d inside =
    let rows = map f (take i xs) in
    let row = f (get_or xs i d) in
    let so_many : length rows ≡ i = length-map (take i xs) f ∙ length-take-le i xs (omega arith) in
    ap (λ w. with_words old (with_commas w)) (map_more f xs i d inside)
    ∙ ap (with_words old) (with_commas-last rows row ∙ ap (λ k. with_commas rows ++ (comma_at k ++ row)) so_many)
    ∙ with_words-append old (with_commas rows) (comma_at i ++ row)
    ∙ with_words-append (with_words old (with_commas rows)) (comma_at i) row

-- one more row, with nothing between
with_rows_more : {X : Type 0} (old : List ℕ) (f : X → Texts) (xs : List X) (i : ℕ) (d : X) → i < length xs
    → with_words old (flat_map f (take (i + 1) xs)) ≡ with_words (with_words old (flat_map f (take i xs))) (f (get_or xs i d))
with_rows_more old f xs i d inside =
    ap (λ taken. with_words old (flat_map f taken)) (take_more xs i d inside) ∙ ap (with_words old) (sym (flat_map_more f [] (take i xs) (get_or xs i d))) ∙ with_words-append old (flat_map f (take i xs)) (f (get_or xs i d))

-- one more line, and some more
with_line_more : {X : Type 0} (old : List ℕ) (f : X → Texts) (xs : List X) (i : ℕ) (d : X) → i < length xs
    → with_lines old (map f (take (i + 1) xs)) ≡ with_line (with_lines old (map f (take i xs))) (f (get_or xs i d))
with_line_more old f xs i d inside =
    let before = with_lines old (map f (take i xs)) in
    let line = f (get_or xs i d) in
    ap (with_lines old) (map_more f xs i d inside) ∙ with_lines-append old (map f (take i xs)) (line ∷ [])
    ∙ with_lines-cons before line [] ∙ with_lines-none (with_line before line)

with_lines_more : {X : Type 0} (old : List ℕ) (f : X → List Texts) (xs : List X) (i : ℕ) (d : X) → i < length xs
    → with_lines old (flat_map f (take (i + 1) xs)) ≡ with_lines (with_lines old (flat_map f (take i xs))) (f (get_or xs i d))
with_lines_more old f xs i d inside =
    ap (λ taken. with_lines old (flat_map f taken)) (take_more xs i d inside) ∙ ap (with_lines old) (sym (flat_map_more f [] (take i xs) (get_or xs i d))) ∙ with_lines-append old (flat_map f (take i xs)) (f (get_or xs i d))

-- ---- a step of a loop, which writes one more of a list's items

module _ {X : Type 0} (old : List ℕ) (xs : List X) (i : ℕ) (inside : i < length xs) where
  pub with_commas_at : (f : X → Texts) (d : X) (before comma after : List ℕ) → before ≡ with_words old (with_commas (map f (take i xs)))
      → comma ≡ with_words before (comma_at i) → after ≡ with_words comma (f (get_or xs i d)) → after ≡ with_words old (with_commas (map f (take (i + 1) xs)))
  with_commas_at f d before comma after p q r = let more = with_commas_more old f xs i d inside in cc

  pub with_commas_item : (f : X → Texts) (x : X) (before comma after : List ℕ) → x ≡ get_or xs i x → before ≡ with_words old (with_commas (map f (take i xs)))
      → comma ≡ with_words before (comma_at i) → after ≡ with_words comma (f x) → after ≡ with_words old (with_commas (map f (take (i + 1) xs)))
  with_commas_item f x before comma after is p q r = with_commas_at f x before comma after p q (r ∙ ap (λ y. with_words comma (f y)) is)

  pub with_rows_at : (f : X → Texts) (d : X) (before after : List ℕ) → before ≡ with_words old (flat_map f (take i xs))
      → after ≡ with_words before (f (get_or xs i d)) → after ≡ with_words old (flat_map f (take (i + 1) xs))
  with_rows_at f d before after p q = let more = with_rows_more old f xs i d inside in cc

  pub with_rows_item : (f : X → Texts) (x : X) (before after : List ℕ) → x ≡ get_or xs i x → before ≡ with_words old (flat_map f (take i xs))
      → after ≡ with_words before (f x) → after ≡ with_words old (flat_map f (take (i + 1) xs))
  with_rows_item f x before after is p q = with_rows_at f x before after p (q ∙ ap (λ y. with_words before (f y)) is)

  pub with_line_item : (f : X → Texts) (x : X) (before after : List ℕ) → x ≡ get_or xs i x → before ≡ with_lines old (map f (take i xs))
      → after ≡ with_line before (f x) → after ≡ with_lines old (map f (take (i + 1) xs))
  with_line_item f x before after is p q =
      let more = with_line_more old f xs i x inside in
      let here = q ∙ ap (λ y. with_line before (f y)) is in
      cc

  pub with_lines_item : (f : X → List Texts) (x : X) (before after : List ℕ) → x ≡ get_or xs i x → before ≡ with_lines old (flat_map f (take i xs))
      → after ≡ with_lines before (f x) → after ≡ with_lines old (flat_map f (take (i + 1) xs))
  with_lines_item f x before after is p q =
      let more = with_lines_more old f xs i x inside in
      let here = q ∙ ap (λ y. with_lines before (f y)) is in
      cc

pub ruleset word_laws = (with_words-append, with_words-cons, with_words-none, take_all)

pub ruleset line_laws = (with_line-end, with_line-cons, with_line-last, with_words-append, with_words-cons, with_words-none)

pub ruleset lines_laws = (with_lines-append, with_lines-cons, with_lines-none, take_all)
