-- A word is read as what it spells, and what is read of a word it spells.
use Rattle.mr_fill.proofs.Common.{◌≡◌, ℕ, ◌^◌, ◌+◌, refl, sym, ap, ap₂, ◌∙◌, subst, arith, Bool, true, false, not, List, [], ◌∷◌, ◌++◌, length, Option, Some, None, if◌then◌else◌, ◌==◌, same_Some, parts_at, given_of, starred_of, turns_of}
use Rattle.std.proofs.Common.{◌&&◌}
use Rattle.std.specs.Prelude.{nat_lt, ◌||◌, slice_index}
use Rattle.std.specs.Char.{is_ascii_digit}
use Rattle.std.specs.List.{join_with_byte, list_all}
use Rattle.std.proofs.lemmas.Bool.{and_parts}
use Rattle.std.proofs.lemmas.List.Splits.{join_with_byte-slice_split}
use Rattle.mr_ast.specs.Words.{first_passes, is_number, value_of}
use Rattle.mr_sched.proofs.Parts.{IsFreeOf, parts_at-append, parts_at-free}
use Rattle.mr_sched.proofs.WordLaws.{free-append}
use Rattle.mr_fill.specs.declared.order.Turns.{Turns}
use Rattle.mr_fill.specs.Orders.{alone, count_of, giving, max_turns, number_below, positive, repeated, thread_of, turn_on}
use Rattle.mr_fill.specs.Spelled.{Spells, gives, many, one}

-- ---- numbers have neither `*` nor `>`

digits_free : (c : ℕ) → is_ascii_digit c ≡ false → (w : List ℕ) → list_all is_ascii_digit w ≡ true → IsFreeOf c w
digits_free c other [] all = tt
digits_free c other (b ∷ w) all =
    let p = and_parts (is_ascii_digit b) (list_all is_ascii_digit w) all in
    (λ e. let here = p.0 in let same = ap is_ascii_digit e in cc, digits_free c other w p.1)

number_digits : (w : List ℕ) → is_number w ≡ true → list_all is_ascii_digit w ≡ true
unfolding is_number
number_digits w h =
    let first = first_passes is_ascii_digit w in
    let all = list_all is_ascii_digit w in
    let plain = not (slice_index w 0 == 48) || length w == 1 in
    let front = (and_parts (first && all && plain) (nat_lt (value_of w) (2 ^ 128)) h).0 in
    (and_parts first all (and_parts (first && all) plain front).0).1

below_digits : (limit : ℕ) (w : List ℕ) (n : ℕ) → number_below limit w ≡ Some n → list_all is_ascii_digit w ≡ true
below_digits limit w n h = by (is_number w) refl h
  where
    by : (b : Bool) → is_number w ≡ b → (if b then (if nat_lt (value_of w) limit then Some (value_of w) else None) else None) ≡ Some n → list_all is_ascii_digit w ≡ true
    by true e k = number_digits w e
    by false e k = absurd (cc)

count_digits : (w : List ℕ) (n : ℕ) → count_of w ≡ Some n → list_all is_ascii_digit w ≡ true
count_digits w n h = by (number_below (max_turns + 1) w) refl h
  where
    by : (o : Option ℕ) → number_below (max_turns + 1) w ≡ o → positive o ≡ Some n → list_all is_ascii_digit w ≡ true
    by None e k = absurd (cc)
    by (Some m) e k = below_digits (max_turns + 1) w m e

-- ---- what is spelled is read

read_one : (line : ℕ) (t : List ℕ) (thread : ℕ) → thread_of t ≡ Some thread → turns_of line t ≡ Some (record { turn = turn_on line thread None; count = 1 })
unfolding turns_of
read_one line t thread e =
    let digits = below_digits (2 ^ 32) t thread e in
    ap (starred_of line t) (parts_at-free 42 t (digits_free 42 refl t digits))
    ∙ ap (given_of line) (parts_at-free 62 t (digits_free 62 refl t digits))
    ∙ ap (alone line) e

read_many : (line : ℕ) (t n : List ℕ) (thread count : ℕ) → thread_of t ≡ Some thread → count_of n ≡ Some count → turns_of line (t ++ 42 ∷ n) ≡ Some (record { turn = turn_on line thread None; count = count })
unfolding turns_of
read_many line t n thread count e f =
    ap (starred_of line (t ++ 42 ∷ n))
    (parts_at-append 42 t n (digits_free 42 refl t (below_digits (2 ^ 32) t thread e)) ∙ ap (λ ps. t ∷ ps) (parts_at-free 42 n (digits_free 42 refl n (count_digits n count f))))
    ∙ ap₂ (repeated line) e f

read_gives : (line : ℕ) (t w : List ℕ) (thread receiver : ℕ) → thread_of t ≡ Some thread → thread_of w ≡ Some receiver
    → turns_of line (t ++ 62 ∷ w) ≡ Some (record { turn = turn_on line thread (Some receiver); count = 1 })
unfolding turns_of
read_gives line t w thread receiver e f =
    let front = below_digits (2 ^ 32) t thread e in
    let back = below_digits (2 ^ 32) w receiver f in
    let no_star : IsFreeOf 42 (t ++ 62 ∷ w) = free-append 42 t (62 ∷ w) (digits_free 42 refl t front) (λ z. omega arith, digits_free 42 refl w back) in
    ap (starred_of line (t ++ 62 ∷ w)) (parts_at-free 42 (t ++ 62 ∷ w) no_star)
    ∙ ap (given_of line) (parts_at-append 62 t w (digits_free 62 refl t front) ∙ ap (λ ps. t ∷ ps) (parts_at-free 62 w (digits_free 62 refl w back)))
    ∙ ap₂ (giving line) e f

pub spelled_read : (line : ℕ) (word : List ℕ) (ts : Turns) → Spells line word ts → turns_of line word ≡ Some ts
spelled_read line word ts (one t thread e) = read_one line t thread e
spelled_read line word ts (many t n thread count e f) = read_many line t n thread count e f
spelled_read line word ts (gives t w thread receiver e f) = read_gives line t w thread receiver e f

-- ---- what is read is spelled

-- a word that is cut in two
joined : (c : ℕ) (word first last : List ℕ) → parts_at c word ≡ first ∷ last ∷ [] → first ++ c ∷ last ≡ word
joined c word first last e = ap (join_with_byte c) (sym e) ∙ join_with_byte-slice_split c word

module _ (line : ℕ) (word : List ℕ) (ts : Turns) where
  alone_spells : (o : Option ℕ) → thread_of word ≡ o → alone line o ≡ Some ts → Spells line word ts
  alone_spells None e h = absurd (cc)
  alone_spells (Some n) e h = subst (Spells line word) (same_Some _ ts h) (one word n e)

  giving_spells : (t w : List ℕ) → t ++ 62 ∷ w ≡ word → (o p : Option ℕ) → thread_of t ≡ o → thread_of w ≡ p → giving line o p ≡ Some ts → Spells line word ts
  giving_spells t w is None p e f h = absurd (cc)
  giving_spells t w is (Some n) None e f h = absurd (cc)
  giving_spells t w is (Some n) (Some m) e f h = subst (λ x. Spells line x ts) is (subst (Spells line (t ++ 62 ∷ w)) (same_Some _ ts h) (gives t w n m e f))

  repeated_spells : (t n : List ℕ) → t ++ 42 ∷ n ≡ word → (o p : Option ℕ) → thread_of t ≡ o → count_of n ≡ p → repeated line o p ≡ Some ts → Spells line word ts
  repeated_spells t n is None p e f h = absurd (cc)
  repeated_spells t n is (Some a) None e f h = absurd (cc)
  repeated_spells t n is (Some a) (Some b) e f h = subst (λ x. Spells line x ts) is (subst (Spells line (t ++ 42 ∷ n)) (same_Some _ ts h) (many t n a b e f))

  given_spells : (ps : List (List ℕ)) → parts_at 62 word ≡ ps → given_of line ps ≡ Some ts → Spells line word ts
  given_spells [] e h = absurd (cc)
  given_spells (t ∷ []) e h =
      let is : t ≡ word = ap (join_with_byte 62) (sym e) ∙ join_with_byte-slice_split 62 word in
      alone_spells (thread_of word) refl (ap (λ x. alone line (thread_of x)) (sym is) ∙ h)
  given_spells (t ∷ w ∷ []) e h = giving_spells t w (joined 62 word t w e) (thread_of t) (thread_of w) refl refl h
  given_spells (t ∷ w ∷ other ∷ more) e h = absurd (cc)

  starred_spells : (ps : List (List ℕ)) → parts_at 42 word ≡ ps → starred_of line word ps ≡ Some ts → Spells line word ts
  starred_spells [] e h = absurd (cc)
  starred_spells (whole ∷ []) e h = given_spells (parts_at 62 word) refl h
  starred_spells (t ∷ n ∷ []) e h = repeated_spells t n (joined 42 word t n e) (thread_of t) (count_of n) refl refl h
  starred_spells (t ∷ n ∷ other ∷ more) e h = absurd (cc)

pub read_spelled : (line : ℕ) (word : List ℕ) (ts : Turns) → turns_of line word ≡ Some ts → Spells line word ts
unfolding turns_of
read_spelled line word ts h = starred_spells line word ts (parts_at 42 word) refl h
