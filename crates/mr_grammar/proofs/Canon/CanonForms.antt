-- What a row without a broken limit writes, its canonical words write too: a law for each way to make a form.
use Rattle.mr_grammar.proofs.Common.{ℕ, List, [], ◌∷◌, None, suc, ◌++◌, ◌≡◌, refl, ap, ◌==◌, ◌-◌, bytes_eq, true, ◌∙◌, sym, Some, Bool, ◌||◌, false, if◌then◌else◌, inl, inr, subst, codes, map, Option, AllByRecursion, flat_map, append-nil, bytes_eq-Decides, Bracket, Round, Curly, Square, with_commas, Mark, SpelledBy, opening, closing, Empty, Then, Word, Cases, Within, EachSpelled, Many, Either, In, Part, Scope, SpelledInside, SpelledPart, form_of, Texts, word, Writing, Judged, token, giving, fine, limited_word, ◌▸◌, ◌◂◌, ◌▪◌, is_word, optional, listed, separated, Kind, Meaning, numbered, IsFine, words_in}
use Rattle.mr_ast.proofs.CanonTypeLaws.{flat_map-map}
use Rattle.mr_grammar.proofs.Shape.ShapedNumbers.{ensures_limited}
use Rattle.mr_grammar.proofs.Tokens.TokenRows.{fixed_token, is_fixed}
use Rattle.mr_grammar.proofs.Tokens.TokenTexts.{IsTokenText}
use Rattle.mr_grammar.proofs.Walk.EnsureLaws.{Parts, EachFrom, Ensures, ensures_empty, ensures_then, ensures_either, ensures_also, ensures_many, ensures_cases, ensures_bracket, ensures_in, no_parts, ensures_part}
use Rattle.mr_grammar.proofs.Walk.HeightLaws.{SomeInside, SomePart, settled, settled_part}
use Rattle.mr_grammar.proofs.Walk.Rows.{all_append}

-- words with these texts, numbered from k on, none of which breaks a limit
abbrev pub marked : ℕ → Texts → List Mark
marked k [] = []
marked k (text ∷ texts) = record { word = record { text = text; place = k }; flaw = None } ∷ marked (suc k) texts

-- the number behind so many words
abbrev behind : ℕ → Texts → ℕ
behind k [] = k
behind k (text ∷ texts) = behind (suc k) texts

marked-append : (k : ℕ) (xs ys : Texts) → marked k (xs ++ ys) ≡ marked k xs ++ marked (behind k xs) ys
marked-append k [] ys = refl
marked-append k (x ∷ xs) ys =
    ap (λ rest. record { word = record { text = x; place = k }; flaw = None } ∷ rest) (marked-append (suc k) xs ys)

-- Behind the front the row has tokens that write the thing in this form, wherever they stand, and break no limit where so many
-- brackets may be opened.
pub record Stands (room : ℕ) (part : Parts) (scope : Scope) (front : Texts) {A : Type 0} (form : Writing A) (x : A) (row : Texts) : Type 0 where
  pub texts : Texts
  pub whole : row ≡ front ++ texts
  pub tokens : AllByRecursion IsTokenText texts
  pub at : (k : ℕ) → SpelledBy (room == 0) (SomeInside (room - 1)) (part room) scope form x (marked k texts)

same_text : (text : List ℕ) → bytes_eq text text ≡ true
same_text text = (bytes_eq-Decides text text).1 refl

bracket_tokens : (bracket : Bracket) → IsTokenText (opening bracket) × IsTokenText (closing bracket)
bracket_tokens Round = (fixed_token _ refl, fixed_token _ refl)
bracket_tokens Curly = (fixed_token _ refl, fixed_token _ refl)
bracket_tokens Square = (fixed_token _ refl, fixed_token _ refl)

-- what stands inside a bracket
inside_at : (room : ℕ) (scope : Scope) {A : Type 0} (form : Writing A) (x : A) (marks : List Mark)
    → SpelledBy (room == 0) (SomeInside (room - 1)) (SomePart room) scope form x marks → SomeInside room scope A form x marks
unfolding SpelledInside
inside_at room scope form x marks h = let (height, written) = settled room scope form x marks h in (suc height, written)

module _ {room : ℕ} {part : Parts} {scope : Scope} where
  pub stands_empty : {A : Type 0} {front : Texts} {a : A} {row : Texts} → row ≡ front → Stands room part scope front (Empty a) a row
  stands_empty {front} same = record { texts = []; whole = same ∙ sym (append-nil front); tokens = tt; at = λ k. (refl, refl) }

  pub stands_then : {A B C : Type 0} {front : Texts} {f : A → B → C} {a : Writing A} {b : Writing B} {x : A} {y : B} {xs ys zs : Texts}
      → Stands room part scope [] a x xs → Stands room part scope [] b y ys → zs ≡ front ++ (xs ++ ys)
      → Stands room part scope front (Then f a b) (f x y) zs
  stands_then {front} {x} {y} one other same = record {
    texts = one.texts ++ other.texts;
    whole = same ∙ (λ i. front ++ (one.whole i ++ other.whole i));
    tokens = all_append IsTokenText one.texts other.texts one.tokens other.tokens;
    at = λ k. (
      x,
      y,
      marked k one.texts,
      marked (behind k one.texts) other.texts,
      refl,
      marked-append k one.texts other.texts,
      one.at k,
      other.at (behind k one.texts),
    );
  }

  -- in a form in which the words write it too
  pub stands_also : {A : Type 0} {other : Parts} {scope' : Scope} {front : Texts} {form form' : Writing A} {x : A} {row : Texts} → Stands room part scope front form x row
      → ((marks : List Mark) → SpelledBy (room == 0) (SomeInside (room - 1)) (part room) scope form x marks → SpelledBy (room == 0) (SomeInside (room - 1)) (other room) scope' form' x marks)
      → Stands room other scope' front form' x row
  stands_also one law = record { texts = one.texts; whole = one.whole; tokens = one.tokens; at = λ k. law (marked k one.texts) (one.at k) }

  -- the same words
  pub stands_same : {A : Type 0} {form : Writing A} {x : A} {row other : Texts} → Stands room part scope [] form x row → other ≡ row → Stands room part scope [] form x other
  stands_same one same = record { texts = one.texts; whole = same ∙ one.whole; tokens = one.tokens; at = one.at }

  -- behind a first word
  pub stands_first : {I A : Type 0} {judge : Scope → Word → Judged I} {form : I → Writing A} {x : A} {row : Texts} {text : List ℕ} (i : I)
      → IsTokenText text → ((k : ℕ) → judge scope (record { text = text; place = k }) ≡ Some (i, None))
      → Stands room part scope (text ∷ []) (form i) x row → Stands room part scope [] (Cases judge form) x row
  stands_first {text} i token judged one = record {
    texts = text ∷ one.texts;
    whole = one.whole;
    tokens = (token, one.tokens);
    at = λ k. (record { text = text; place = k }, i, None, marked (suc k) one.texts, judged k, refl, one.at (suc k));
  }

  stands_within : {A : Type 0} {over : Bool} {bracket : Bracket} {a : Writing A} {x : A} {row : Texts} → (over || (room == 0)) ≡ false
      → Stands (room - 1) SomePart scope [] a x row
      → Stands room part scope [] (Within over bracket a) x (opening bracket ∷ row ++ closing bracket ∷ [])
  stands_within {over} {bracket} {a} {x} free inner =
      let end = closing bracket ∷ [] in
      let (token, last) = bracket_tokens bracket in
      record {
        texts = opening bracket ∷ inner.texts ++ end;
        whole = ap (λ texts. opening bracket ∷ texts ++ end) inner.whole;
        tokens = (token, all_append IsTokenText inner.texts end inner.tokens (last, tt));
        at = λ k. (
          record { text = opening bracket; place = k },
          record { text = closing bracket; place = behind (suc k) inner.texts },
          marked (suc k) inner.texts,
          refl,
          refl,
          ap (λ rest. record { word = record { text = opening bracket; place = k }; flaw = None } ∷ rest) (marked-append (suc k) inner.texts end)
              ∙ ap (λ full. record { word = record { text = opening bracket; place = k }; flaw = if full then Some 7 else None }
              ∷ marked (suc k) inner.texts ++ marked (behind (suc k) inner.texts) end) (sym free),
          inside_at (room - 1) scope a x (marked (suc k) inner.texts) (inner.at (suc k)),
        );
      }

module _ (room : ℕ) (part : Parts) (scope : Scope) {A : Type 0} (form : ℕ → Writing A) (row : A → Texts) where
  -- things in a row, of which the first has this number
  each_stands : (j : ℕ) (xs : List A) → EachFrom (λ k x. Stands room part scope [] (form k) x (row x)) j xs
      → (texts : Texts) × (flat_map row xs ≡ texts) × AllByRecursion IsTokenText texts
      × ((k : ℕ) → EachSpelled (λ n. SpelledBy (room == 0) (SomeInside (room - 1)) (part room) scope (form n)) j xs (marked k texts))
  each_stands j [] each = ([], refl, tt, λ k. refl)
  each_stands j (x ∷ xs) (one, each) =
      let (texts, whole, tokens, at) = each_stands (suc j) xs each in (
        one.texts ++ texts,
        (λ i. one.whole i ++ whole i),
        all_append IsTokenText one.texts texts one.tokens tokens,
        λ k. (marked k one.texts, marked (behind k one.texts) texts, marked-append k one.texts texts, one.at k, at (behind k one.texts)),
      )

  pub stands_many : {test : List ℕ → Bool} (xs : List A) → EachFrom (λ k x. Stands room part scope [] (form k) x (row x)) 0 xs
      → Stands room part scope [] (Many test form) xs (flat_map row xs)
  stands_many xs each = let (texts, whole, tokens, at) = each_stands 0 xs each in record { texts = texts; whole = whole; tokens = tokens; at = at }

-- the row breaks no limit, and its words are the texts in order
pub marked-fine : (k : ℕ) (texts : Texts) → IsFine (marked k texts)
marked-fine k [] = tt
marked-fine k (text ∷ texts) = (refl, marked-fine (suc k) texts)

pub marked-words : (k : ℕ) (texts : Texts) → words_in (marked k texts) ≡ numbered k texts
marked-words k [] = refl
marked-words k (text ∷ texts) = ap (λ rest. record { text = text; place = k } ∷ rest) (marked-words (suc k) texts)

-- What a row without a broken limit writes in this form stands where its canonical words do, of which the front stands before it.
pub record Canon (height room : ℕ) (part mine : Parts) (scope : Scope) (front : Texts) {A : Type 0} (form : Writing A) (row : A → Texts) : Type 0 where
  pub law : Ensures height room part scope form (λ x. Stands room mine scope front form x (row x))

-- the same of what stands inside a bracket
abbrev pub CanonInside : ℕ → ℕ → Scope → {A : Type 0} → Writing A → (A → Texts) → Type 0
CanonInside height room scope form row = (lower : ℕ) → height ≡ suc lower → Canon lower (room - 1) (SpelledPart lower) SomePart scope [] form row

module _ {height room : ℕ} {part mine : Parts} {scope : Scope} where
  pub canon_empty : {A : Type 0} {front : Texts} {a : A} {row : A → Texts} → row a ≡ front → Canon height room part mine scope front (Empty a) row
  canon_empty same = record { law = ensures_empty (stands_empty same) }

  pub canon_then : {A B C : Type 0} {front : Texts} {f : A → B → C} {a : Writing A} {b : Writing B} {row_a : A → Texts} {row_b : B → Texts} {row : C → Texts}
      → Canon height room part mine scope [] a row_a → Canon height room part mine scope [] b row_b
      → ((x : A) (y : B) → row (f x y) ≡ front ++ (row_a x ++ row_b y)) → Canon height room part mine scope front (Then f a b) row
  canon_then one other same = record { law = ensures_then one.law other.law (λ x y p q. stands_then p q (same x y)) }

  pub canon_giving : {A B : Type 0} {front : Texts} {f : A → B} {a : Writing A} {row_a : A → Texts} {row : B → Texts}
      → Canon height room part mine scope [] a row_a → ((x : A) → row (f x) ≡ front ++ row_a x) → Canon height room part mine scope front (giving f a) row
  canon_giving one same = canon_then (canon_empty {row = λ u. []} refl) one (λ u x. same x)

  pub canon_either : {A : Type 0} {front : Texts} {test : List ℕ → Bool} {a b : Writing A} {row : A → Texts}
      → Canon height room part mine scope front a row → Canon height room part mine scope front b row → Canon height room part mine scope front (Either test a b) row
  canon_either one other = record { law = ensures_either (ensures_also one.law (λ x s. stands_also s (λ marks. inl))) (ensures_also other.law (λ x s. stands_also s (λ marks. inr))) }

  pub canon_many : {A : Type 0} {test : List ℕ → Bool} {form : ℕ → Writing A} {row : A → Texts} → ((k : ℕ) → Canon height room part mine scope [] (form k) row)
      → Canon height room part mine scope [] (Many test form) (flat_map row)
  canon_many {form} {row} law = record { law = ensures_also (ensures_many (λ k. (law k).law)) (λ xs each. stands_many room mine scope form row xs each) }

  -- what stands behind a first word of the language
  pub canon_word : {I A : Type 0} {judge : Scope → Word → Judged I} {form : I → Writing A} {row : A → Texts} (text : List ℕ) (i : I) → is_fixed text ≡ true
      → ((k : ℕ) → judge scope (record { text = text; place = k }) ≡ Some (i, None)) → Canon height room part mine scope (text ∷ []) (form i) row
      → Ensures height room part scope (form i) (λ x. Stands room mine scope [] (Cases judge form) x (row x))
  canon_word text i fixed judged one = ensures_also one.law (λ x s. stands_first i (fixed_token text fixed) judged s)

  -- one word, which is printed as it was written, or as another
  pub canon_token : {I : Type 0} {judge : Scope → Word → Judged I} {text : I → List ℕ}
      → ((w : Word) (i : I) → judge scope w ≡ Some (i, None)
      → IsTokenText (text i) × ((k : ℕ) → judge scope (record { text = text i; place = k }) ≡ Some (i, None)))
      → Canon height room part mine scope [] (Cases judge Empty) (λ i. text i ∷ [])
  canon_token law = record { law = ensures_cases (λ w i e. ensures_empty (stands_first i (law w i e).0 (law w i e).1 (stands_empty refl))) }

  pub canon_same : {I : Type 0} {judge : Scope → Word → Judged I} {text : I → List ℕ}
      → ((w : Word) (i : I) → judge scope w ≡ Some (i, None)
      → (text i ≡ w.text) × IsTokenText w.text × ((k : ℕ) → judge scope (record { text = w.text; place = k }) ≡ Some (i, None)))
      → Canon height room part mine scope [] (Cases judge Empty) (λ i. text i ∷ [])
  canon_same {judge} law = canon_token (λ w i e.
      (let (same, token, again) = law w i e in
      (subst IsTokenText (sym same) token, λ k. subst (λ bytes. judge scope (record { text = bytes; place = k }) ≡ Some (i, None)) (sym same) (again k))))

  pub canon_text : (text : List ℕ) → is_fixed text ≡ true → Canon height room part mine scope [] (word text) (λ u. text ∷ [])
  canon_text text fixed =
      canon_token (λ w u e. (fixed_token text fixed, λ k. ap (λ b. fine (if b then Some tt else None)) (same_text text)))

  pub canon_limited : (code : ℕ) (over : Bool) (text : List ℕ) → is_fixed text ≡ true → Canon height room part mine scope [] (limited_word code over text) (λ u. text ∷ [])
  canon_limited code over text fixed = record {
    law = ensures_also (ensures_limited code over)
        (λ u few. stands_first tt (fixed_token text fixed) (λ k. rw (same_text text, few) refl) (stands_empty refl));
  }

  pub canon_before : {A : Type 0} {a : Writing A} {row : A → Texts} (text : List ℕ) → is_fixed text ≡ true → Canon height room part mine scope [] a row
      → Canon height room part mine scope [] (text ▸ a) (λ x. text ∷ row x)
  canon_before text fixed one = canon_then (canon_text text fixed) one (λ u x. refl)

  pub canon_behind : {A : Type 0} {a : Writing A} {row : A → Texts} → Canon height room part mine scope [] a row → (text : List ℕ) → is_fixed text ≡ true
      → Canon height room part mine scope [] (a ◂ text) (λ x. row x ++ text ∷ [])
  canon_behind one text fixed = canon_then one (canon_text text fixed) (λ x u. refl)

  pub canon_pair : {A B : Type 0} {a : Writing A} {b : Writing B} {row_a : A → Texts} {row_b : B → Texts}
      → Canon height room part mine scope [] a row_a → Canon height room part mine scope [] b row_b
      → Canon height room part mine scope [] (a ▪ b) (λ p. row_a p.0 ++ row_b p.1)
  canon_pair one other = canon_then one other (λ x y. refl)

  -- things with commas between them, each in the form of its number
  pub canon_commas : {A : Type 0} (form : ℕ → Writing A) {row : A → Texts} → ((k : ℕ) → Canon height room part mine scope [] (form k) row)
      → Canon height room part mine scope [] (Then (λ x xs. x ∷ xs) (form 0) (Many (is_word (codes ",")) (λ k. codes "," ▸ form (suc k)))) (λ xs. with_commas (map row xs))
  canon_commas form {row} law =
      canon_then (law 0) (canon_many (λ k. canon_before (codes ",") refl (law (suc k))))
      (λ x xs. ap (λ rest. row x ++ rest) (flat_map-map (λ words. codes "," ∷ words) row xs))

  pub canon_optional : {A : Type 0} {a : Writing A} {row_a : A → Texts} {row : Option A → Texts} (text : List ℕ) → is_fixed text ≡ true
      → Canon height room part mine scope [] a row_a → row None ≡ [] → ((x : A) → row (Some x) ≡ text ∷ row_a x)
      → Canon height room part mine scope [] (optional text a) row
  canon_optional text fixed one none some = canon_either (canon_giving (canon_before text fixed one) some) (canon_empty none)

  pub canon_within : {A : Type 0} {over : Bool} {bracket : Bracket} {a : Writing A} {row : A → Texts} → CanonInside height room scope a row
      → Canon height room part mine scope [] (Within over bracket a) (λ x. opening bracket ∷ row x ++ closing bracket ∷ [])
  canon_within inner = record { law = ensures_bracket (λ lower e. (inner lower e).law) (λ x free s. stands_within free s) }

  pub canon_in : {A : Type 0} {into : Scope → Scope} {a : Writing A} {row : A → Texts} → Canon height room part mine (into scope) [] a row
      → Canon height room part mine scope [] (In into a) row
  canon_in one = record { law = ensures_in (ensures_also one.law (λ x s. stands_also s (λ marks written. written))) }

module _ {height room : ℕ} {part mine : Parts} {scope : Scope} where
  -- a list in brackets
  pub canon_listed : {A : Type 0} {bracket : Bracket} {a : Writing A} {row : A → Texts} → CanonInside height room scope a row
      → Canon height room part mine scope [] (listed bracket (separated a)) (λ xs. opening bracket ∷ with_commas (map row xs) ++ closing bracket ∷ [])
  canon_listed {a} inner = canon_within (λ lower e. canon_either (canon_commas (λ k. a) (λ k. inner lower e)) (canon_empty refl))

-- a part, whose form has no part outside brackets
pub canon_part : {height room : ℕ} {scope : Scope} {kind : Kind} {row : Meaning kind → Texts} → Canon height room no_parts no_parts scope [] (form_of kind) row
    → Canon height room (SpelledPart height) SomePart scope [] (Part kind) row
canon_part {room = room} {scope} {kind} one =
    record { law = ensures_part {kind = kind} (ensures_also one.law (λ x s. stands_also s (λ marks. settled_part room scope kind x marks))) }
