-- What is kept to find places, step by step.
use Rattle.mr_places.proofs.Common.{◌≡◌, ℕ, zero, suc, ◌+◌, ◌-◌, ◌<◌, Bool, true, false, if◌then◌else◌, List, [], ◌∷◌, ◌++◌, length, take, drop, slice_get, Option, Some, None, refl, ap, sym, ◌∙◌, arith, Block, Function, option_map, ends_from, firsts_of, firsts_of_blocks, spot_at, spot_of, behind, ends_before, ends_of_block, ends_of_blocks, ends_of_function, ends_of_functions, from_place, is_end, words_of_head}
use Rattle.std.proofs.Common.{◌≤◌, get_or, MatchOption}
use Rattle.std.specs.List.{sum_by}
use Rattle.std.proofs.lemmas.List.{append-nil}
use Rattle.std.proofs.lemmas.List.Sums.{sum_by-cons}
use Rattle.mr_grammar.proofs.BaseOptions.{some_is}
use Rattle.mr_lex.specs.Tokens.{Lexeme}
use Rattle.mr_places.specs.declared.places.Spot.{Spot}
use Rattle.mr_places.specs.Laid.{first_in, spot_behind, spot_in}

abbrev lexeme_text : Lexeme → List ℕ
lexeme_text l = l.text

-- one more of a list
pub take_more : {A : Type 0} (xs : List A) (i : ℕ) (x : A) → slice_get xs i ≡ Some x → take (suc i) xs ≡ take i xs ++ x ∷ []
take_more [] zero x e = absurd (cc)
take_more [] (suc i) x e = absurd (cc)
take_more (y ∷ ys) zero x e = let same : y ≡ x = some_is e in ap (λ z. z ∷ []) same
take_more (y ∷ ys) (suc i) x e = ap (λ r. y ∷ r) (take_more ys i x e)

-- so many in front of one
taken : {A : Type 0} (xs : List A) (k : ℕ) (x : A) → slice_get xs k ≡ Some x → length (take k xs) ≡ k
taken [] zero x e = absurd (cc)
taken [] (suc k) x e = absurd (cc)
taken (y ∷ ys) zero x e = refl
taken (y ∷ ys) (suc k) x e = ap suc (taken ys k x e)

-- ---- semicolons

ends_append : (i : ℕ) (xs : List Lexeme) (x : Lexeme) → ends_from i (xs ++ x ∷ []) ≡ ends_from i xs ++ (if is_end x.text then suc (i + length xs) ∷ [] else [])
ends_append i [] x =
    let number : i ≡ i + 0 = omega arith in
    ap (λ j. if is_end x.text then suc j ∷ [] else []) number
ends_append i (y ∷ ys) x = go (is_end y.text) (ends_append (suc i) ys x)
  where
    go : (e : Bool) → ends_from (suc i) (ys ++ x ∷ []) ≡ ends_from (suc i) ys ++ (if is_end x.text then suc (suc i + length ys) ∷ [] else [])
        → (if e then suc i ∷ ends_from (suc i) (ys ++ x ∷ []) else ends_from (suc i) (ys ++ x ∷ []))
        ≡ (if e then suc i ∷ ends_from (suc i) ys else ends_from (suc i) ys) ++ (if is_end x.text then suc (i + suc (length ys)) ∷ [] else [])
    go e same =
        let number : suc i + length ys ≡ i + suc (length ys) = omega arith in
        let all = same ∙ ap (λ j. ends_from (suc i) ys ++ (if is_end x.text then suc j ∷ [] else [])) number in
        pick e all
      where
        pick : (t : Bool) → ends_from (suc i) (ys ++ x ∷ []) ≡ ends_from (suc i) ys ++ (if is_end x.text then suc (i + suc (length ys)) ∷ [] else [])
            → (if t then suc i ∷ ends_from (suc i) (ys ++ x ∷ []) else ends_from (suc i) (ys ++ x ∷ []))
            ≡ (if t then suc i ∷ ends_from (suc i) ys else ends_from (suc i) ys) ++ (if is_end x.text then suc (i + suc (length ys)) ∷ [] else [])
        pick true all = ap (λ r. suc i ∷ r) all
        pick false all = all

-- where the tokens behind a semicolon begin
record BehindAt (i : ℕ) (xs : List Lexeme) (n e : ℕ) : Type 0 where
  steps : ℕ
  number : e ≡ i + steps
  same : behind lexeme_text (suc n) xs ≡ drop steps xs

end_at : (i : ℕ) (xs : List Lexeme) (n e : ℕ) → slice_get (ends_from i xs) n ≡ Some e → BehindAt i xs n e
end_at i [] zero e at = absurd (cc)
end_at i [] (suc n) e at = absurd (cc)
end_at i (x ∷ xs) n e at = go (is_end x.text) refl n at (λ m b. end_at (suc i) xs m e b)
  where
    go : (t : Bool) → is_end x.text ≡ t → (n : ℕ) → slice_get (if t then suc i ∷ ends_from (suc i) xs else ends_from (suc i) xs) n ≡ Some e
        → ((m : ℕ) → slice_get (ends_from (suc i) xs) m ≡ Some e → BehindAt (suc i) xs m e) → BehindAt i (x ∷ xs) n e
    go true is zero at more =
        let first : suc i ≡ e = some_is at in
        let number : suc i ≡ i + 1 = omega arith in
        record { steps = 1; number = sym first ∙ number; same = ap (λ b. if b then xs else behind lexeme_text 1 xs) is }
    go true is (suc m) at more =
        let rest = more m at in
        let number : suc i + rest.steps ≡ i + suc rest.steps = omega arith in
        record { steps = suc rest.steps; number = rest.number ∙ number; same = ap (λ b. if b then behind lexeme_text (suc m) xs else behind lexeme_text (suc (suc m)) xs) is ∙ rest.same }
    go false is n at more =
        let rest = more n at in
        let number : suc i + rest.steps ≡ i + suc rest.steps = omega arith in
        record { steps = suc rest.steps; number = rest.number ∙ number; same = ap (λ b. if b then behind lexeme_text n xs else behind lexeme_text (suc n) xs) is ∙ rest.same }

pub behind_end : (xs : List Lexeme) (n e : ℕ) → slice_get (ends_from 0 xs) n ≡ Some e → behind (λ (l : Lexeme). l.text) (suc n) xs ≡ drop e xs
behind_end xs n e at =
    let found = end_at 0 xs n e at in
    let number : 0 + found.steps ≡ found.steps = omega arith in
    found.same ∙ ap (λ j. drop j xs) (sym (found.number ∙ number))

no_end : (i : ℕ) (xs : List Lexeme) (n : ℕ) → slice_get (ends_from i xs) n ≡ None → behind lexeme_text (suc n) xs ≡ []
no_end i [] n at = refl
no_end i (x ∷ xs) n at = go (is_end x.text) n at (λ m b. no_end (suc i) xs m b)
  where
    go : (t : Bool) (n : ℕ) → slice_get (if t then suc i ∷ ends_from (suc i) xs else ends_from (suc i) xs) n ≡ None
        → ((m : ℕ) → slice_get (ends_from (suc i) xs) m ≡ None → behind lexeme_text (suc m) xs ≡ [])
        → (if t then behind lexeme_text n xs else behind lexeme_text (suc n) xs) ≡ []
    go true zero at more = absurd (cc)
    go true (suc m) at more = more m at
    go false n at more = more n at

pub behind_none : (xs : List Lexeme) (n : ℕ) → slice_get (ends_from 0 xs) n ≡ None → behind (λ (l : Lexeme). l.text) (suc n) xs ≡ []
behind_none xs n at = no_end 0 xs n at

-- more semicolons than tokens
pub behind_past : (n : ℕ) (xs : List Lexeme) → length xs < n → behind (λ (l : Lexeme). l.text) n xs ≡ []
behind_past zero xs less = absurd (omega (arith, less))
behind_past (suc n) [] less = refl
behind_past (suc n) (x ∷ xs) less =
    let fewer : length xs < n = omega (arith, less) in
    let more : length xs < suc n = omega (arith, less) in
    go (is_end x.text) (behind_past n xs fewer) (behind_past (suc n) xs more)
  where
    go : (t : Bool) → behind lexeme_text n xs ≡ [] → behind lexeme_text (suc n) xs ≡ [] → (if t then behind lexeme_text n xs else behind lexeme_text (suc n) xs) ≡ []
    go true one other = one
    go false one other = other

-- the first of what is left
pub first_left : {A : Type 0} (xs : List A) (n : ℕ) → slice_get (drop n xs) 0 ≡ slice_get xs n
first_left xs zero = refl
first_left [] (suc n) = refl
first_left (x ∷ xs) (suc n) = first_left xs n

pub drop_none : {A : Type 0} (n : ℕ) → ◌≡◌ {A = List A} (drop n []) []
drop_none zero = refl
drop_none (suc n) = refl

pub drop_twice : {A : Type 0} (xs : List A) (n m : ℕ) → drop m (drop n xs) ≡ drop (n + m) xs
drop_twice xs zero m = let number : m ≡ 0 + m = omega arith in ap (λ j. drop j xs) number
drop_twice [] (suc n) m = drop_none m ∙ sym (drop_none (suc n + m))
drop_twice (x ∷ xs) (suc n) m = let number : suc (n + m) ≡ suc n + m = omega arith in drop_twice xs n m ∙ ap (λ j. drop j (x ∷ xs)) number

-- past the end
get_past : {A : Type 0} (xs : List A) (n : ℕ) → length xs ≤ n → slice_get xs n ≡ None
get_past [] zero le = refl
get_past [] (suc n) le = refl
get_past (x ∷ xs) zero le = absurd (omega (arith, le))
get_past (x ∷ xs) (suc n) le = let less : length xs ≤ n = omega (arith, le) in get_past xs n less

pub spot_none : (xs : List Lexeme) (start k : ℕ) → length xs ≤ start + 3 → k ≡ 0 → ◌≡◌ {A = Option Spot} None (option_map spot_of (slice_get (drop (words_of_head k) (drop start xs)) 0))
spot_none xs start k le e =
    ap (λ o. option_map spot_of o) (sym (ap (λ j. slice_get (drop (words_of_head j) (drop start xs)) 0) e ∙ ap (λ r. slice_get r 0) (drop_twice xs start 3) ∙ first_left xs (start + 3) ∙ get_past xs (start + 3) le))

pub nothing_behind : (xs : List Lexeme) (first k : ℕ) → behind (λ (l : Lexeme). l.text) (first + k) xs ≡ [] → ◌≡◌ {A = Option Spot} None (spot_behind xs first k)
nothing_behind xs first k e = sym (ap (λ r. option_map spot_of (slice_get (drop (words_of_head k) r) 0)) e ∙ ap (λ r. option_map spot_of (slice_get r 0)) (drop_none (words_of_head k)))

pub past_behind : (xs : List Lexeme) (first k : ℕ) → length xs < first + k → ◌≡◌ {A = Option Spot} None (spot_behind xs first k)
past_behind xs first k less = nothing_behind xs first k (behind_past (first + k) xs less)

-- ---- blocks and functions

pub firsts_blocks_append : (n : ℕ) (bs : List Block) (b : Block) → firsts_of_blocks n (bs ++ b ∷ []) ≡ firsts_of_blocks n bs ++ (n + ends_of_blocks bs) ∷ []
firsts_blocks_append n [] b = let number : n ≡ n + 0 = omega arith in ap (λ j. j ∷ []) number
firsts_blocks_append n (c ∷ bs) b =
    let number : (n + ends_of_block c) + ends_of_blocks bs ≡ n + (ends_of_block c + ends_of_blocks bs) = omega arith in
    ap (λ r. n ∷ r) (firsts_blocks_append (n + ends_of_block c) bs b
    ∙ ap (λ j. firsts_of_blocks (n + ends_of_block c) bs ++ j ∷ []) (number ∙ ap (λ j. n + j) (sym (sum_by-cons ends_of_block c bs))))

pub firsts_append : (n : ℕ) (fs : List Function) (f : Function) → firsts_of n (fs ++ f ∷ []) ≡ firsts_of n fs ++ firsts_of_blocks (suc (n + ends_of_functions fs)) f.blocks ∷ []
firsts_append n [] f = let number : n ≡ n + 0 = omega arith in ap (λ j. firsts_of_blocks (suc j) f.blocks ∷ []) number
firsts_append n (g ∷ fs) f =
    let number : (n + ends_of_function g) + ends_of_functions fs ≡ n + (ends_of_function g + ends_of_functions fs) = omega arith in
    ap (λ r. firsts_of_blocks (suc n) g.blocks ∷ r) (firsts_append (n + ends_of_function g) fs f
    ∙ ap (λ j. firsts_of (n + ends_of_function g) fs ++ firsts_of_blocks (suc j) f.blocks ∷ []) (number ∙ ap (λ j. n + j) (sym (sum_by-cons ends_of_function g fs))))

-- ---- what is kept of a program

pub first_block : (n : ℕ) (bs : List Block) (b : ℕ) (block : Block) → slice_get bs b ≡ Some block → slice_get (firsts_of_blocks n bs) b ≡ Some (n + ends_of_blocks (take b bs))
first_block n [] zero block e = absurd (cc)
first_block n [] (suc b) block e = absurd (cc)
first_block n (c ∷ bs) zero block e = let number : n ≡ n + 0 = omega arith in ap Some number
first_block n (c ∷ bs) (suc b) block e =
    let number : (n + ends_of_block c) + ends_of_blocks (take b bs) ≡ n + (ends_of_block c + ends_of_blocks (take b bs)) = omega arith in
    first_block (n + ends_of_block c) bs b block e ∙ ap Some (number ∙ ap (λ j. n + j) (sym (sum_by-cons ends_of_block c (take b bs))))

pub first_function : (n : ℕ) (fs : List Function) (f : ℕ) (function : Function) → slice_get fs f ≡ Some function
    → slice_get (firsts_of n fs) f ≡ Some (firsts_of_blocks (suc (n + ends_of_functions (take f fs))) function.blocks)
first_function n [] zero function e = absurd (cc)
first_function n [] (suc f) function e = absurd (cc)
first_function n (g ∷ fs) zero function e =
    let number : n ≡ n + 0 = omega arith in
    let same : g ≡ function = some_is e in
    ap (λ h. Some (firsts_of_blocks (suc n) h.blocks)) same ∙ ap (λ j. Some (firsts_of_blocks (suc j) function.blocks)) number
first_function n (g ∷ fs) (suc f) function e =
    let number : (n + ends_of_function g) + ends_of_functions (take f fs) ≡ n + (ends_of_function g + ends_of_functions (take f fs)) = omega arith in
    first_function (n + ends_of_function g) fs f function e
    ∙ ap (λ j. Some (firsts_of_blocks (suc j) function.blocks)) (number ∙ ap (λ j. n + j) (sym (sum_by-cons ends_of_function g (take f fs))))

-- ---- loops

sum_more : {A : Type 0} (count : A → ℕ) (xs : List A) (x : A) → sum_by count (xs ++ x ∷ []) ≡ sum_by count xs + count x
sum_more count [] x = let number : count x + 0 ≡ 0 + count x = omega arith in sum_by-cons count x [] ∙ number
sum_more count (y ∷ ys) x =
    let number : count y + (sum_by count ys + count x) ≡ (count y + sum_by count ys) + count x = omega arith in
    sum_by-cons count y (ys ++ x ∷ []) ∙ ap (λ j. count y + j) (sum_more count ys x) ∙ number ∙ ap (λ j. j + count x) (sym (sum_by-cons count y ys))

taken_more : {A : Type 0} (xs : List A) (i : ℕ) (x : A) → slice_get xs i ≡ Some x → take (i + 1) xs ≡ take i xs ++ x ∷ []
taken_more xs i x e = let number : i + 1 ≡ suc i = omega arith in ap (λ j. take j xs) number ∙ take_more xs i x e

pub block_step : (first : ℕ) (items : List ℕ) (next : ℕ) (items' : List ℕ) (next' : ℕ) (bs : List Block) (i : ℕ) (b : Block) → slice_get bs i ≡ Some b
    → (items ≡ firsts_of_blocks first (take i bs)) × (next ≡ first + ends_of_blocks (take i bs)) → items' ≡ items ++ next ∷ [] → next' ≡ next + (length b.stmts + 1)
    → (items' ≡ firsts_of_blocks first (take (i + 1) bs)) × (next' ≡ first + ends_of_blocks (take (i + 1) bs))
block_step first items next items' next' bs i b at (rows, sum) pushed added =
    let more = taken_more bs i b at in
    let total : ends_of_blocks (take (i + 1) bs) ≡ ends_of_blocks (take i bs) + suc (length b.stmts) = ap ends_of_blocks more ∙ sum_more ends_of_block (take i bs) b in
    let number : next' ≡ first + (ends_of_blocks (take i bs) + suc (length b.stmts)) = omega (arith, added, sum) in (
      pushed ∙ ap (λ r. r ++ next ∷ []) rows ∙ ap (λ j. firsts_of_blocks first (take i bs) ++ j ∷ []) sum ∙ sym (firsts_blocks_append first (take i bs) b) ∙ ap (firsts_of_blocks first) (sym more),
      number ∙ ap (λ j. first + j) (sym total),
    )

pub function_step : (items : List (List ℕ)) (next : ℕ) (row : List ℕ) (items' : List (List ℕ)) (next' first ends : ℕ) (fs : List Function) (i : ℕ) (f : Function) → slice_get fs i ≡ Some f
    → (items ≡ firsts_of 0 (take i fs)) × (next ≡ ends_of_functions (take i fs)) → first ≡ next + (0 + 1) → row ≡ firsts_of_blocks first f.blocks → items' ≡ items ++ row ∷ []
    → ends ≡ ends_of_blocks f.blocks → next' ≡ next + (ends + 1)
    → (items' ≡ firsts_of 0 (take (i + 1) fs)) × (next' ≡ ends_of_functions (take (i + 1) fs))
function_step items next row items' next' first ends fs i f at (rows, sum) begun is_row pushed is_ends added =
    let more = taken_more fs i f at in
    let total : ends_of_functions (take (i + 1) fs) ≡ ends_of_functions (take i fs) + suc (ends_of_blocks f.blocks) = ap ends_of_functions more ∙ sum_more ends_of_function (take i fs) f in
    let number : next' ≡ ends_of_functions (take i fs) + suc (ends_of_blocks f.blocks) = omega (arith, added, sum, is_ends) in
    let opening : first ≡ suc (0 + ends_of_functions (take i fs)) = omega (arith, begun, sum) in (
      pushed ∙ ap (λ r. r ++ row ∷ []) rows ∙ ap (λ r. firsts_of 0 (take i fs) ++ r ∷ []) (is_row ∙ ap (λ j. firsts_of_blocks j f.blocks) opening)
          ∙ sym (firsts_append 0 (take i fs) f) ∙ ap (firsts_of 0) (sym more),
      number ∙ sym total,
    )

-- a token that is a semicolon, and another
pub end_step : (xs : List Lexeme) (i : ℕ) (x : Lexeme) (items items' : List ℕ) → slice_get xs i ≡ Some x → items ≡ ends_from 0 (take i xs) → is_end x.text ≡ true → items' ≡ items ++ (i + 1) ∷ []
    → items' ≡ ends_from 0 (take (i + 1) xs)
end_step xs i x items items' at same is pushed =
    let number : suc (0 + i) ≡ i + 1 = omega arith in
    pushed ∙ ap (λ r. r ++ (i + 1) ∷ []) same
    ∙ sym (ap (ends_from 0) (taken_more xs i x at) ∙ ends_append 0 (take i xs) x ∙ ap (λ b. ends_from 0 (take i xs) ++ (if b then suc (0 + length (take i xs)) ∷ [] else [])) is
    ∙ ap (λ j. ends_from 0 (take i xs) ++ suc (0 + j) ∷ []) (taken xs i x at) ∙ ap (λ j. ends_from 0 (take i xs) ++ j ∷ []) number)

pub other_step : (xs : List Lexeme) (i : ℕ) (x : Lexeme) (items : List ℕ) → slice_get xs i ≡ Some x → items ≡ ends_from 0 (take i xs) → is_end x.text ≡ false
    → items ≡ ends_from 0 (take (i + 1) xs)
other_step xs i x items at same is =
    same ∙ sym (ap (ends_from 0) (taken_more xs i x at) ∙ ends_append 0 (take i xs) x ∙ ap (λ b. ends_from 0 (take i xs) ++ (if b then suc (0 + length (take i xs)) ∷ [] else [])) is
    ∙ append-nil (ends_from 0 (take i xs)))

pub start_is : (xs : List Lexeme) (ends : List ℕ) (number : ℕ) (found : Option ℕ) → ends ≡ ends_from 0 xs → (number ≡ 0 → ⊥) → found ≡ slice_get ends (number - 1)
    → MatchOption found (behind (λ (l : Lexeme). l.text) number xs ≡ []) (λ at. behind (λ (l : Lexeme). l.text) number xs ≡ drop at xs)
start_is xs ends zero found same some at = absurd (some refl)
start_is xs ends (suc n) found same some at = go found (at ∙ ap (λ l. slice_get l (suc n - 1)) same ∙ ap (slice_get (ends_from 0 xs)) number)
  where
    number : suc n - 1 ≡ n
    number = omega arith

    go : (o : Option ℕ) → o ≡ slice_get (ends_from 0 xs) n → MatchOption o (behind (λ (l : Lexeme). l.text) (suc n) xs ≡ []) (λ at. behind (λ (l : Lexeme). l.text) (suc n) xs ≡ drop at xs)
    go None e = behind_none xs n (sym e)
    go (Some a) e = behind_end xs n a (sym e)

-- the item of a loop
pub item_at : {A : Type 0} (xs : List A) (i : ℕ) (x : A) → i < length xs → x ≡ get_or xs i x → slice_get xs i ≡ Some x
item_at [] i x less e = absurd (omega (arith, less))
item_at (y ∷ ys) zero x less e = ap Some (sym e)
item_at (y ∷ ys) (suc i) x less e = let fewer : i < length ys = omega (arith, less) in item_at ys i x fewer e

pub none_past : {A : Type 0} (xs : List A) (i : ℕ) → slice_get xs i ≡ None → i < length xs → ⊥
none_past [] zero e less = omega (arith, less)
none_past [] (suc i) e less = omega (arith, less)
none_past (x ∷ xs) zero e less = absurd (cc)
none_past (x ∷ xs) (suc i) e less = let fewer : i < length xs = omega (arith, less) in none_past xs i e fewer

-- the place of a block's statement
pub found : (lexemes : List Lexeme) (functions : List Function) (f b k : ℕ) (function : Function) (block : Block) → slice_get functions f ≡ Some function
    → slice_get function.blocks b ≡ Some block
    → spot_at (record { lexemes = lexemes; firsts = firsts_of 0 functions }) f b k
    ≡ option_map spot_of (slice_get (from_place (λ (l : Lexeme). l.text) (take f functions) (take b function.blocks) k lexemes) 0)
found lexemes functions f b k function block at_f at_b =
    let row = first_function 0 functions f function at_f in
    let first = first_block (suc (0 + ends_of_functions (take f functions))) function.blocks b block at_b in
    let number : (suc (0 + ends_of_functions (take f functions)) + ends_of_blocks (take b function.blocks)) + k ≡ ends_before (take f functions) (take b function.blocks) k = omega arith in
    ap (λ o. spot_in lexemes (first_in o b) k) row ∙ ap (λ o. spot_in lexemes o k) first
    ∙ ap (λ n. option_map spot_of (slice_get (drop (words_of_head k) (behind (λ (l : Lexeme). l.text) n lexemes)) 0)) number
