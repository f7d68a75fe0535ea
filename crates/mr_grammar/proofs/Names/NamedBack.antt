-- A name that a text defines reads back: the program's text of its number is its own, and it is the first of this text in its space.
use Rattle.mr_grammar.proofs.Common.{List, ℕ, ◌≡◌, Some, bytes_eq, ◌∙◌, sym, [], Option, true, ap, None, Bool, if◌then◌else◌, refl, false, length, ◌+◌, ◌<◌, map, arith, ◌∷◌, zero, suc, bytes_eq-Decides, eq_from, DefinesGlobal, DefinesFunction, DefinesLocal, DefinesBlock, text_at, Word, Definitions, names_of, number_in, all_names, defined_in, item_names, number_of_name, function_names, Texts, StandsIn, scope_at}
use Rattle.std.specs.List.{position_or_len}
use Rattle.std.proofs.lemmas.List.Quantifiers.{position-Some}
use Rattle.mr_ast.specs.Scope.{is_number, each_once}
use Rattle.mr_words.proofs.NamingLaws.{position_from_among, item_named, local_named, block_named}
use Rattle.mr_words.proofs.ScopeLaws.{once-any}
use Rattle.mr_words.specs.Naming.{IsAmong}
use Rattle.mr_words.specs.Defined.{text_at as word_at}
use Rattle.mr_grammar.proofs.Names.DefinedTwice.{NamedTwice}
use Rattle.mr_grammar.proofs.Names.TwoScopes.{EachTwo}

-- the word at a place is the text of this number, and the one of number k in its space
pub record ReadsBack (d : Definitions) (words : List Word) (space : Texts) (k number place : ℕ) : Type 0 where
  pub text : text_at (names_of d) number ≡ word_at words place
  pub first : number_in space (word_at words place) ≡ Some k

-- one of the texts that are defined is the one at its place
text_back : (d : Definitions) (text : List ℕ) → IsAmong (all_names d) text → text_at (names_of d) (position_or_len (bytes_eq text) (names_of d)) ≡ text
text_back d text among =
    let there = position_from_among (bytes_eq text) (names_of d) (once-any text (all_names d) ∙ among) in
    sym ((bytes_eq-Decides text _).0 (position-Some (bytes_eq text) (names_of d) _ [] there).1)

number_is : (k : ℕ) (found : Option ℕ) → is_number k found ≡ true → found ≡ Some k
number_is k (Some n) e = ap Some (eq_from n k e)
number_is k None e = absurd (cc)

first_is : (d : Definitions) (space : Texts) (k n : ℕ) (text : List ℕ) → defined_in d space k text ≡ (n, None) → is_number k (number_in space text) ≡ true
first_is d space k n text e = once (is_number k (number_in space text)) (ap (λ p. p.1) e)
  where
    once : (first : Bool) → ◌≡◌ {A = Option ℕ} (if first then None else Some 6) None → first ≡ true
    once true e = refl
    once false e = absurd (cc)

-- the text of the number of a name that is defined is its own
pub defined_text : (d : Definitions) (space : Texts) (k n : ℕ) (text : List ℕ) → (is_number k (number_in space text) ≡ true → IsAmong (all_names d) text)
    → defined_in d space k text ≡ (n, None) → text_at (names_of d) n ≡ text
defined_text d space k n text among e =
    ap (text_at (names_of d)) (sym (ap (λ p. p.0) e)) ∙ text_back d text (among (first_is d space k n text e))

defined_back : (d : Definitions) (words : List Word) (space : Texts) (k number place : ℕ) (w : Word) → StandsIn words w → place ≡ w.place
    → (is_number k (number_in space w.text) ≡ true → IsAmong (all_names d) w.text) → defined_in d space k w.text ≡ (number, None) → ReadsBack d words space k number place
defined_back d words space k number place w stands at among e =
    let here : word_at words place ≡ w.text = ap (word_at words) at ∙ stands in
    record {
      text = defined_text d space k number w.text among e ∙ sym here;
      first = ap (number_in space) here ∙ number_is k (number_in space w.text) (first_is d space k number w.text e);
    }

module _ (d : Definitions) (words : List Word) (k number place : ℕ) where
  pub global_back : NamedTwice (StandsIn words) (scope_at d 0) (DefinesGlobal k) number place → ReadsBack d words (item_names d) k number place
  unfolding number_of_name
  global_back twice = defined_back d words (item_names d) k number place twice.word twice.good twice.at (item_named d twice.word.text k) twice.known

  pub function_back : NamedTwice (StandsIn words) (scope_at d 0) (DefinesFunction k) number place → ReadsBack d words (item_names d) (length d.globals + k) number place
  unfolding number_of_name
  function_back twice =
      defined_back d words (item_names d) (length d.globals + k) number place twice.word twice.good twice.at (item_named d twice.word.text (length d.globals + k)) twice.known

  pub local_back : (f : ℕ) → NamedTwice (StandsIn words) (scope_at d f) (DefinesLocal k) number place → ReadsBack d words (function_names d f).locals k number place
  unfolding number_of_name
  local_back f twice = defined_back d words (function_names d f).locals k number place twice.word twice.good twice.at (local_named d twice.word.text k f) twice.known

  pub block_back : (f : ℕ) → NamedTwice (StandsIn words) (scope_at d f) (DefinesBlock k) number place → ReadsBack d words (function_names d f).blocks k number place
  unfolding number_of_name
  block_back f twice = defined_back d words (function_names d f).blocks k number place twice.word twice.good twice.at (block_named d twice.word.text k f) twice.known

-- texts of one number are one
one_text : (space : Texts) (a b : List ℕ) (n : ℕ) → number_in space a ≡ Some n → number_in space b ≡ Some n → a ≡ b
one_text space a b n e f =
    let one = (position-Some (bytes_eq a) (each_once space) n [] e).1 in
    let other = (position-Some (bytes_eq b) (each_once space) n [] f).1 in
    (bytes_eq-Decides a _).0 one ∙ sym ((bytes_eq-Decides b _).0 other)

-- ---- things in a row, each of which has a name

module _ {A : Type 0} (d : Definitions) (words : List Word) (space : Texts) (at : ℕ → ℕ) (name : A → ℕ) where
  abbrev EachBack : ℕ → List A → List A → Type 0
  EachBack = EachTwo (λ k x y. ReadsBack d words space (at k) (name x) (name y))

  -- the text of each has its number
  number_at : (k : ℕ) (xs ys : List A) → EachBack k xs ys → (j : ℕ) → j < length xs → number_in space (text_at (map (λ x. text_at (names_of d) (name x)) xs) j) ≡ Some (at (k + j))
  number_at k [] ys each j inside = absurd (omega (arith, inside))
  number_at k (x ∷ xs) [] each j inside = absurd each
  number_at k (x ∷ xs) (y ∷ ys) each zero inside =
      let n : k ≡ k + 0 = omega arith in ap (number_in space) each.0.text ∙ each.0.first ∙ ap (λ i. Some (at i)) n
  number_at k (x ∷ xs) (y ∷ ys) each (suc j) inside =
      let n : suc k + j ≡ k + suc j = omega arith in number_at (suc k) xs ys each.1 j (omega (arith, inside)) ∙ ap (λ i. Some (at i)) n

  -- so a text of this number is that of the thing there
  pub text_of_number : (xs ys : List A) → EachBack 0 xs ys → (j : ℕ) → j < length xs → (text : List ℕ) → number_in space text ≡ Some (at j)
      → text_at (map (λ x. text_at (names_of d) (name x)) xs) j ≡ text
  text_of_number xs ys each j inside text e =
      let n : 0 + j ≡ j = omega arith in one_text space _ text (at j) (number_at 0 xs ys each j inside ∙ ap (λ i. Some (at i)) n) e
