-- Names that are held one after another.
use Rattle.mr_words.proofs.Common.{◌≡◌, ℕ, zero, suc, ◌+◌, ◌<◌, ◌≤◌, Bool, true, false, not, ◌||◌, ◌&&◌, List, [], ◌∷◌, ◌++◌, length, get_or, slice_get, Option, Some, None, refl, sym, ap, ◌∙◌, arith, map, take, inl, inr, bytes_eq, position, if◌then◌else◌, nat_lt, slice_index_or, flat_map, fold, list_any, position_or_len, Definitions, FunctionNames, all_names, each_once, function_names, is_number, item_names, number_in, with_text, length-with_text, Texts, reserved, names_in}
use Rattle.std.proofs.Common.{◌≢◌, append_assoc, length-append}
use Rattle.std.proofs.lemmas.List.{flat_map_more, map-append, take_more}
use Rattle.std.proofs.lemmas.List.Sums.{fold-append}
use Rattle.std.specs.Prelude.{IfSome, IfNone}
use Rattle.std.specs.List.{list_all}
use Rattle.std.specs.Str.{IsAscii}
use Rattle.std.proofs.lemmas.Bool.{and_parts, false_from_ne_true}
use Rattle.std.proofs.lemmas.Bool.Decides.{nat_tests}
use Rattle.std.proofs.lemmas.Option.{slice_get_within}
use Rattle.std.proofs.lemmas.Slice.Eq.{bytes_eq-Decides}
use Rattle.mr_ast.specs.Names.{IsFirst}
use Rattle.mr_ast.specs.Words.{first_passes, begins_name, is_in_name, is_name}
use Rattle.mr_words.specs.Naming.{IsAmong}
use Rattle.mr_words.proofs.ScopeLaws.{function_any, items_any, number_any}

-- ---- names are ASCII

byte_small : (b : ℕ) → is_in_name b ≡ true → b < 128
byte_small b e = grind (arith, nat_tests)

bytes_small : (t : List ℕ) (i : ℕ) → list_all is_in_name t ≡ true → get_or t i 0 < 128
bytes_small [] i e = omega arith
bytes_small (b ∷ bs) zero e = byte_small b (and_parts (is_in_name b) (list_all is_in_name bs) e).0
bytes_small (b ∷ bs) (suc i) e = bytes_small bs i (and_parts (is_in_name b) (list_all is_in_name bs) e).1

pub IsAscii-from_name : (t : List ℕ) → is_name t ≡ true → IsAscii t
unfolding is_name
IsAscii-from_name t name =
    let word = and_parts (first_passes begins_name t && list_all is_in_name t) (not (list_any (bytes_eq t) reserved)) name in
    let bytes = and_parts (first_passes begins_name t) (list_all is_in_name t) word.0 in
    λ i. bytes_small t i bytes.1

-- ---- where a text stands

texts_differ : (a b : List ℕ) → a ≢ b → bytes_eq a b ≡ false
texts_differ a b ne = false_from_ne_true (bytes_eq a b) (λ e. ne ((bytes_eq-Decides a b).0 e))

-- the place of a text that is nowhere before
pub place_first : (t : List ℕ) (ts : Texts) (n : ℕ) → IsFirst ts t n → position_or_len (bytes_eq t) ts ≡ n
place_first t [] n first = let here = first.here in absurd cc
place_first t (x ∷ xs) zero first =
    let here = first.here in
    let is : bytes_eq t x ≡ true = (bytes_eq-Decides t x).1 cc in
    rw is refl
place_first t (x ∷ xs) (suc n) first =
    let no : bytes_eq t x ≡ false = texts_differ t x (λ same. first.first 0 (omega arith) (ap Some (sym same))) in
    let rest : position_or_len (bytes_eq t) xs ≡ n = place_first t xs n (record { here = first.here; first = λ k lt. first.first (suc k) (omega arith) }) in
    rw (no, rest) (omega arith)

pub place_none : (t : List ℕ) (ts : Texts) → ((k : ℕ) → slice_get ts k ≢ Some t) → position_or_len (bytes_eq t) ts ≡ length ts
place_none t [] absent = refl
place_none t (x ∷ xs) absent =
    let differ : bytes_eq t x ≡ false = texts_differ t x (λ same. absent 0 (ap Some (sym same))) in
    let rest : position_or_len (bytes_eq t) xs ≡ length xs = place_none t xs (λ k. absent (suc k)) in
    rw (differ, rest) (omega arith)

position_by : (n m : ℕ) → n < m → (if nat_lt n m then Some n else None) ≡ Some n
position_by n m lt = let is : nat_lt n m ≡ true = grind (arith, nat_tests) in rw is refl

position_past : (n : ℕ) → ◌≡◌ {A = Option ℕ} (if nat_lt n n then Some n else None) None
position_past n = let is : nat_lt n n ≡ false = grind (arith, nat_tests) in rw is refl

-- what a look-up answers is the position
pub position_found : (names : Texts) (t : List ℕ) (found : Option ℕ) → IfSome found (λ n. IsFirst names t n) → IfNone found ((k : ℕ) → slice_get names k ≢ Some t)
    → found ≡ position (bytes_eq t) names
position_found names t (Some n) first missing =
    sym (ap (λ k. if nat_lt k (length names) then Some k else None) (place_first t names n first) ∙ position_by n (length names) (slice_get_within names n t first.here))
position_found names t None first missing =
    sym (ap (λ k. if nat_lt k (length names) then Some k else None) (place_none t names missing) ∙ position_past (length names))

-- ---- adding names

pub length-with_texts : (names ts : Texts) → length (fold with_text names ts) ≤ length names + length ts
length-with_texts names [] = omega arith
length-with_texts names (t ∷ ts) = omega (arith, length-with_text names t, length-with_texts (with_text names t) ts)

each_once-append : (xs ys : Texts) → each_once (xs ++ ys) ≡ fold with_text (each_once xs) ys
unfolding each_once
each_once-append xs ys = fold-append with_text [] xs ys

-- the names of one more function
pub one_more_function : (front : Texts) (fs : List FunctionNames) (i : ℕ) (f : FunctionNames) → i < length fs → f ≡ get_or fs i f
    → fold with_text (each_once (front ++ flat_map names_in (take i fs))) (names_in f) ≡ each_once (front ++ flat_map names_in (take (i + 1) fs))
one_more_function front fs i f lt is =
    sym (each_once-append (front ++ flat_map names_in (take i fs)) (names_in f))
    ∙ ap each_once (flat_map_more names_in front (take i fs) f ∙ ap (λ gs. front ++ flat_map names_in gs) (ap (λ g. take i fs ++ g ∷ []) is ∙ sym (take_more fs i f lt)))

-- the name of one more function
pub one_more_name : (front : Texts) (fs : List FunctionNames) (i : ℕ) (f : FunctionNames) → i < length fs → f ≡ get_or fs i f
    → with_text (each_once (front ++ map (λ g. g.name) (take i fs))) f.name ≡ each_once (front ++ map (λ g. g.name) (take (i + 1) fs))
one_more_name front fs i f lt is =
    sym (each_once-append (front ++ map (λ g. g.name) (take i fs)) (f.name ∷ []))
    ∙ ap each_once (append_assoc front (map (λ g. g.name) (take i fs)) (f.name ∷ []) ∙ ap (λ ts. front ++ ts)
    (sym (map-append (λ g. g.name) (take i fs) (f ∷ [])) ∙ ap (map (λ g. g.name)) (ap (λ g. take i fs ++ g ∷ []) is ∙ sym (take_more fs i f lt))))

pub length-names_in : (f : FunctionNames) → length (names_in f) ≡ 1 + length f.locals + length f.blocks
length-names_in f = omega (arith, length-append f.locals f.blocks)

-- ---- the names of a space are among all names

place_within : {X : Type 0} (p : X → Bool) (xs : List X) → list_any p xs ≡ true → position_or_len p xs < length xs
place_within p [] any = absurd cc
place_within p (x ∷ xs) any = go (p x) refl any (place_within p xs)
  where
    go : (b : Bool) → p x ≡ b → (b || list_any p xs) ≡ true → (list_any p xs ≡ true → position_or_len p xs < length xs) → position_or_len p (x ∷ xs) < suc (length xs)
    go true is e rest = rw is (omega arith)
    go false is e rest = let below = rest e in rw is (omega arith)

pub position_from_among : {X : Type 0} (p : X → Bool) (xs : List X) → list_any p xs ≡ true → position p xs ≡ Some (position_or_len p xs)
position_from_among p xs any = position_by (position_or_len p xs) (length xs) (place_within p xs any)

is_number_some : (k : ℕ) (found : Option ℕ) → is_number k found ≡ true → (n : ℕ) × (found ≡ Some n)
is_number_some k (Some n) e = (n, refl)
is_number_some k None e = absurd (cc)

-- where a name is the first in its space, it is there
number_named : (space : Texts) (t : List ℕ) (k : ℕ) → is_number k (number_in space t) ≡ true → IsAmong space t
number_named space t k e = let found = is_number_some k (number_in space t) e in number_any space t found.0 found.1

module _ (d : Definitions) (t : List ℕ) (k : ℕ) where
  pub item_named : is_number k (number_in (item_names d) t) ≡ true → IsAmong (all_names d) t
  item_named e = items_any d t (number_named (item_names d) t k e)

  pub local_named : (f : ℕ) → is_number k (number_in (function_names d f).locals t) ≡ true → IsAmong (all_names d) t
  local_named f e = function_any d f t (inl (number_named (function_names d f).locals t k e))

  pub block_named : (f : ℕ) → is_number k (number_in (function_names d f).blocks t) ≡ true → IsAmong (all_names d) t
  block_named f e = function_any d f t (inr (number_named (function_names d f).blocks t k e))

-- a function that isn't there has no names
pub no_function : (fs : List FunctionNames) (k : ℕ) (d : FunctionNames) → None ≡ slice_get fs k → slice_index_or fs k d ≡ d
no_function [] k d e = refl
no_function (f ∷ fs) zero d e = absurd (cc)
no_function (f ∷ fs) (suc k) d e = no_function fs k d e
