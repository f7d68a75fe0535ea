-- Texts that are held by hash, as a list of texts, and what follows from adding one.
use Rattle.mr_ast.proofs.Common.{◌≡◌, ◌≢◌, ℕ, zero, suc, ◌<◌, Bool, true, false, List, [], ◌∷◌, ◌++◌, length, map, get_or, slice_get, Some, refl, sym, ap, subst, ◌∙◌, true≢false, arith, inl, inr, if◌then◌else◌, list_any}
use Rattle.std.proofs.Common.{position, ◌⊎◌, String}
use Rattle.std.proofs.lemmas.List.Quantifiers.{position-Some}
use Rattle.std.proofs.lemmas.Bool.{or_from, or_parts}
use Rattle.std.proofs.lemmas.List.{map-append}
use Rattle.std.proofs.lemmas.Option.{none-some, same_Some, slice_get-get_or, slice_get-map, slice_get_within}
use Rattle.std.proofs.lemmas.Slice.Eq.{bytes_eq-Decides}
use Rattle.std.specs.Option.{option_map}
use Rattle.std.specs.Str.{bytes_eq}
use Rattle.std.specs.String.{string_bytes, string_eq}
use Rattle.indexmap.specs.IndexSet.{insert_key}
use Rattle.mr_ast.specs.Names.{Adds, AddsEach, IsFirst}

slice_get_last : {A : Type 0} (xs : List A) (x : A) (n : ℕ) → n ≡ length xs → slice_get (xs ++ x ∷ []) n ≡ Some x
slice_get_last [] x n last = ap (slice_get (x ∷ [])) last
slice_get_last (y ∷ xs) x n last = ap (slice_get ((y ∷ xs) ++ x ∷ [])) last ∙ slice_get_last xs x (length xs) refl

slice_get_before : {A : Type 0} (xs : List A) (x : A) (k : ℕ) → k < length xs → slice_get (xs ++ x ∷ []) k ≡ slice_get xs k
slice_get_before [] x k inside = absurd (omega arith)
slice_get_before (y ∷ xs) x zero inside = refl
slice_get_before (y ∷ xs) x (suc k) inside = slice_get_before xs x k (omega arith)

-- what stands in a list with one more stands in the list, or is the one
pub push_cases : {A : Type 0} (xs : List A) (x y : A) (k : ℕ) → slice_get (xs ++ x ∷ []) k ≡ Some y → (slice_get xs k ≡ Some y) ⊎ (x ≡ y)
push_cases [] x y zero e = inr (same_Some x y e)
push_cases [] x y (suc k) e = absurd (none-some y e)
push_cases (z ∷ xs) x y zero e = inl e
push_cases (z ∷ xs) x y (suc k) e = push_cases xs x y k e

module _ {Z : Type 0} where
  -- whether a held text has these bytes
  abbrev pub is_text : List ℕ → String Z → Bool
  is_text text held = bytes_eq text (string_bytes held)

  -- where a look-up finds no text, the text is at no position
  pub missing-list_any : (texts : List (String Z)) (text : List ℕ) → list_any (is_text text) texts ≡ false → (k : ℕ) → slice_get (map string_bytes texts) k ≢ Some text
  missing-list_any [] text none k h = none-some text h
  missing-list_any (t ∷ texts) text none zero h =
      let same : text ≡ string_bytes t = cc in
      true≢false (sym ((bytes_eq-Decides text (string_bytes t)).1 same) ∙ (or_parts _ _ none).0)
  missing-list_any (t ∷ texts) text none (suc k) h = missing-list_any texts text (or_parts (is_text text t) _ none).1 k h

  -- and the other way round
  pub list_any-missing : (texts : List (String Z)) (text : List ℕ) → ((k : ℕ) → slice_get (map string_bytes texts) k ≢ Some text) → list_any (is_text text) texts ≡ false
  list_any-missing [] text missing = refl
  list_any-missing (t ∷ texts) text missing = or_from _ _ (here (is_text text t) refl) (list_any-missing texts text (λ k. missing (suc k)))
    where
      here : (b : Bool) → is_text text t ≡ b → is_text text t ≡ false
      here false e = e
      here true e = absurd (missing 0 (ap Some (sym ((bytes_eq-Decides text (string_bytes t)).0 e))))

  -- the first text that a look-up finds
  pub IsFirst-position : (texts : List (String Z)) (text : List ℕ) (n : ℕ) → position (is_text text) texts ≡ Some n → IsFirst (map string_bytes texts) text n
  IsFirst-position [] text n found = absurd (none-some n found)
  IsFirst-position (t ∷ texts) text n found =
      let all = t ∷ texts in
      let p = position-Some (is_text text) all n t found in
      let same = (bytes_eq-Decides text (string_bytes (get_or all n t))).0 p.1 in
      record {
        here = slice_get-map string_bytes all n ∙ ap (option_map string_bytes) (slice_get-get_or all n t p.0) ∙ ap Some (sym same);
        first = λ k before h.
            let inside : k < length all = omega (arith, p.0) in
            let other : Some (string_bytes (get_or all k t)) ≡ Some text = sym (slice_get-map string_bytes all k ∙ ap (option_map string_bytes) (slice_get-get_or all k t inside)) ∙ h in
            let same_k : text ≡ string_bytes (get_or all k t) = cc in
            true≢false (sym ((bytes_eq-Decides text (string_bytes (get_or all k t))).1 same_k) ∙ p.2 k before);
      }

  -- a new text goes last
  pub map-insert_key : (texts : List (String Z)) (added : String Z) (text : List ℕ) → string_bytes added ≡ text → ((k : ℕ) → slice_get (map string_bytes texts) k ≢ Some text)
      → map string_bytes (insert_key string_eq texts added) ≡ map string_bytes texts ++ text ∷ []
  map-insert_key texts added text same missing =
      let none : list_any (string_eq added) texts ≡ false = list_any-missing texts (string_bytes added) (subst (λ t. (k : ℕ) → slice_get (map string_bytes texts) k ≢ Some t) (sym same) missing) in
      ap (λ b. map string_bytes (if b then texts else texts ++ added ∷ [])) none ∙ map-append string_bytes texts (added ∷ []) ∙ ap (λ t. map string_bytes texts ++ t ∷ []) same

-- the number that a text gets is its first position
pub IsFirst-Adds : (old new : List (List ℕ)) (text : List ℕ) (n : ℕ) → Adds old text new n → IsFirst new text n
IsFirst-Adds old new text n (inl (same, first)) = subst (λ l. IsFirst l text n) (sym same) first
IsFirst-Adds old new text n (inr (missing, new_is, last)) =
    record {
      here = subst (λ l. slice_get l n ≡ Some text) (sym new_is) (slice_get_last old text n last);
      first = λ k before h. missing k (sym (slice_get_before old text k (omega (arith, last))) ∙ subst (λ l. slice_get l k ≡ Some text) new_is h);
    }

-- a text that was held keeps its first position
pub IsFirst-kept : (old new : List (List ℕ)) (text held : List ℕ) (n k : ℕ) → Adds old text new n → IsFirst old held k → IsFirst new held k
IsFirst-kept old new text held n k (inl (same, first)) h = subst (λ l. IsFirst l held k) (sym same) h
IsFirst-kept old new text held n k (inr (missing, new_is, last)) h =
    let inside = slice_get_within old k held h.here in
    record {
      here = subst (λ l. slice_get l k ≡ Some held) (sym new_is) (slice_get_before old text k inside ∙ h.here);
      first = λ j before e. h.first j before (sym (slice_get_before old text j (omega (arith, inside))) ∙ subst (λ l. slice_get l j ≡ Some held) new_is e);
    }

-- a text has one first position
pub IsFirst-unique : (texts : List (List ℕ)) (text : List ℕ) (n m : ℕ) → IsFirst texts text n → IsFirst texts text m → m ≡ n
IsFirst-unique texts text n m a b =
    let not_before : m < n → ⊥ = λ h. a.first m h b.here in
    let not_after : n < m → ⊥ = λ h. b.first n h a.here in
    omega arith

-- so equal texts have equal numbers: a text that is added again gets the number that it has
pub Adds-again : (texts later : List (List ℕ)) (text : List ℕ) (n m : ℕ) → IsFirst texts text n → Adds texts text later m → m ≡ n
Adds-again texts later text n m held (inl (same, first)) = IsFirst-unique texts text n m held first
Adds-again texts later text n m held (inr (missing, later_is, last)) = absurd (missing n held.here)

-- and keeps it while others are added
pub IsFirst-each : (texts : List (List ℕ)) (old new : List (List ℕ)) (held : List ℕ) (k : ℕ) → AddsEach old texts new → IsFirst old held k → IsFirst new held k
IsFirst-each [] old new held k same first = subst (λ l. IsFirst l held k) (sym same) first
IsFirst-each (text ∷ texts) old new held k (between, n, one, rest) first =
    IsFirst-each texts between new held k rest (IsFirst-kept old between text held n k one first)

-- the number of a text, after further ones were added
pub IsFirst-later : (old new later : List (List ℕ)) (text : List ℕ) (texts : List (List ℕ)) (n : ℕ) → Adds old text new n → AddsEach new texts later → IsFirst later text n
IsFirst-later old new later text texts n added each = IsFirst-each texts new later text n each (IsFirst-Adds old new text n added)

-- two texts at one place are one text
pub one_text : (texts : List (List ℕ)) (text other : List ℕ) (n : ℕ) → slice_get texts n ≡ Some text → slice_get texts n ≡ Some other → other ≡ text
one_text texts text other n a b = cc
