-- Reading an order line by line and word by word, as the code does.
use Rattle.mr_fill.proofs.Common.{◌≡◌, ℕ, ◌+◌, ◌<◌, ◌≤◌, arith, option_copied, Bool, true, false, List, [], ◌∷◌, ◌++◌, length, Option, Some, None, Result, Ok, Err, refl, sym, ap, ◌∙◌, ◌==◌, not, if◌then◌else◌, filter, slice_split, Gives, parts_after, parts_at, Turn, given_of, is_blank, numbered_words, on_line, order_from, starred_of}
use Rattle.std.specs.Prelude.{IfSome}
use Rattle.std.specs.Borrow.{Bor}
use Rattle.mr_sched.specs.declared.fault.SchedFault.{SchedFault}
use Rattle.mr_sched.specs.declared.fault.SchedFault.TheVariants.{Bad, Memory}
use Rattle.mr_sched.specs.Reading.{Fault}
use Rattle.mr_fill.specs.Orders.{is_word, on_turns, word_then, words_of}
use Rattle.mr_fill.specs.Reading.{blank_parts, word_or_none}

-- how much is left behind a byte: nothing, or the byte and a text
abbrev pub size_of : Option (List ℕ) → ℕ
size_of None = 0
size_of (Some text) = length text + 1

-- it is less behind a cut
pub after_small : (n : ℕ) (o : Option (Bor (List ℕ))) → IfSome o (λ r. length r.now < n) → size_of (option_copied o) ≤ n
after_small n None h = omega arith
after_small n (Some r) h = omega arith

-- there is a first part
pub record HasFirst (parts : List (List ℕ)) : Type 0 where
  pub first : List ℕ
  pub more : List (List ℕ)
  pub is : parts ≡ first ∷ more

split_first : (p : ℕ → Bool) (text : List ℕ) → HasFirst (slice_split p text)
split_first p [] = record { first = []; more = []; is = refl }
split_first p (b ∷ text) = by (p b) refl (split_first p text)
  where
    by : (t : Bool) → p b ≡ t → HasFirst (slice_split p text) → HasFirst (slice_split p (b ∷ text))
    by true e h = record { first = []; more = slice_split p text; is = rw e refl }
    by false e h = record { first = b ∷ h.first; more = h.more; is = rw (e, h.is) refl }

-- words of which two parts are read one after the other
pub order_append : (front : List Turn) (ws vs : List (ℕ × List ℕ)) → order_from front (ws ++ vs) ≡ on_turns (λ turns. order_from turns vs) (order_from front ws)
order_append front [] vs = refl
order_append front (w ∷ ws) vs = by (word_then front w.0 w.1) (λ turns. order_append turns ws vs)
  where
    by : (r : Result (List Turn) Fault) → ((turns : List Turn) → order_from turns (ws ++ vs) ≡ on_turns (λ ts. order_from ts vs) (order_from turns ws))
        → on_turns (λ turns. order_from turns (ws ++ vs)) r ≡ on_turns (λ ts. order_from ts vs) (on_turns (λ turns. order_from turns ws) r)
    by (Ok turns) more = more turns
    by (Err f) more = refl

-- ---- lines

-- the next line is cut off what is left
next_line : (front : List Turn) (line : ℕ) (rest : Option (List ℕ)) (left first : List ℕ) (after : Option (List ℕ)) → rest ≡ Some left → parts_at 10 left ≡ first ∷ parts_after 10 after
    → order_from front (numbered_words line (parts_after 10 rest)) ≡ on_turns (λ turns. order_from turns (numbered_words (line + 1) (parts_after 10 after))) (order_from front (on_line line (words_of first)))
next_line front line rest left first after e parts =
    ap (λ o. order_from front (numbered_words line (parts_after 10 o))) e
    ∙ ap (λ ps. order_from front (numbered_words line ps)) parts
    ∙ order_append front (on_line line (words_of first)) (numbered_words (line + 1) (parts_after 10 after))

pub lines_go_on : (front turns : List Turn) (line : ℕ) (rest : Option (List ℕ)) (left first : List ℕ) (after : Option (List ℕ)) (whole : Result (List Turn) Fault) → rest ≡ Some left → parts_at 10 left ≡ first ∷ parts_after 10 after
    → order_from front (on_line line (words_of first)) ≡ Ok turns → order_from front (numbered_words line (parts_after 10 rest)) ≡ whole
    → order_from turns (numbered_words (line + 1) (parts_after 10 after)) ≡ whole
lines_go_on front turns line rest left first after whole e parts found so_far =
    sym (next_line front line rest left first after e parts ∙ ap (on_turns (λ ts. order_from ts (numbered_words (line + 1) (parts_after 10 after)))) found) ∙ so_far

pub lines_stop : (front : List Turn) (line : ℕ) (rest : Option (List ℕ)) (left first : List ℕ) (after : Option (List ℕ)) (f : SchedFault) (whole : Result (List Turn) Fault) → rest ≡ Some left → parts_at 10 left ≡ first ∷ parts_after 10 after
    → Gives {A = List Turn} (Err f) (order_from front (on_line line (words_of first))) → order_from front (numbered_words line (parts_after 10 rest)) ≡ whole → Gives (Err f) whole
lines_stop front line rest left first after Memory whole e parts failed so_far = tt
lines_stop front line rest left first after (Bad k code) whole e parts failed so_far =
    sym so_far ∙ next_line front line rest left first after e parts ∙ ap (on_turns (λ ts. order_from ts (numbered_words (line + 1) (parts_after 10 after)))) failed

pub lines_end : (front : List Turn) (line : ℕ) (rest : Option (List ℕ)) (whole : Result (List Turn) Fault) → rest ≡ None → order_from front (numbered_words line (parts_after 10 rest)) ≡ whole → whole ≡ Ok front
lines_end front line rest whole e so_far = sym so_far ∙ ap (λ o. order_from front (numbered_words line (parts_after 10 o))) e

-- ---- the words of a line

-- the words that are left
abbrev pub words_left : Option (List ℕ) → List (List ℕ)
words_left rest = filter is_word (blank_parts rest)

one_word : (front : List Turn) (line : ℕ) (word : List ℕ) (ws : List (List ℕ)) → order_from front (on_line line (filter is_word (word ∷ ws))) ≡ on_turns (λ turns. order_from turns (on_line line (filter is_word ws))) (word_or_none front line word)
one_word front line word ws = by (length word == 0)
  where
    by : (b : Bool)
        → order_from front (on_line line (if not b then word ∷ filter is_word ws else filter is_word ws))
        ≡ on_turns (λ turns. order_from turns (on_line line (filter is_word ws))) (if b then Ok front else word_then front line word)
    by true = refl
    by false = refl

next_word : (front : List Turn) (line : ℕ) (rest : Option (List ℕ)) (left word : List ℕ) (after : Option (List ℕ)) → rest ≡ Some left → slice_split is_blank left ≡ word ∷ blank_parts after
    → order_from front (on_line line (words_left rest)) ≡ on_turns (λ turns. order_from turns (on_line line (words_left after))) (word_or_none front line word)
next_word front line rest left word after e parts =
    ap (λ o. order_from front (on_line line (words_left o))) e
    ∙ ap (λ ps. order_from front (on_line line (filter is_word ps))) parts
    ∙ one_word front line word (blank_parts after)

pub words_go_on : (front turns : List Turn) (line : ℕ) (rest : Option (List ℕ)) (left word : List ℕ) (after : Option (List ℕ)) (whole : Result (List Turn) Fault) → rest ≡ Some left → slice_split is_blank left ≡ word ∷ blank_parts after
    → word_or_none front line word ≡ Ok turns → order_from front (on_line line (words_left rest)) ≡ whole → order_from turns (on_line line (words_left after)) ≡ whole
words_go_on front turns line rest left word after whole e parts found so_far =
    sym (next_word front line rest left word after e parts ∙ ap (on_turns (λ ts. order_from ts (on_line line (words_left after)))) found) ∙ so_far

pub words_stop : (front : List Turn) (line : ℕ) (rest : Option (List ℕ)) (left word : List ℕ) (after : Option (List ℕ)) (f : SchedFault) (whole : Result (List Turn) Fault) → rest ≡ Some left → slice_split is_blank left ≡ word ∷ blank_parts after
    → Gives {A = List Turn} (Err f) (word_or_none front line word) → order_from front (on_line line (words_left rest)) ≡ whole → Gives (Err f) whole
words_stop front line rest left word after Memory whole e parts failed so_far = tt
words_stop front line rest left word after (Bad k code) whole e parts failed so_far =
    sym so_far ∙ next_word front line rest left word after e parts ∙ ap (on_turns (λ ts. order_from ts (on_line line (words_left after)))) failed

pub words_end : (front : List Turn) (line : ℕ) (rest : Option (List ℕ)) (whole : Result (List Turn) Fault) → rest ≡ None → order_from front (on_line line (words_left rest)) ≡ whole → whole ≡ Ok front
words_end front line rest whole e so_far = sym so_far ∙ ap (λ o. order_from front (on_line line (words_left o))) e

-- ---- a word

-- a word with two stars spells nothing
pub starred_twice : (line : ℕ) (word t after n more : List ℕ) → parts_at 42 word ≡ t ∷ parts_at 42 after → parts_at 42 after ≡ n ∷ parts_at 42 more → starred_of line word (parts_at 42 word) ≡ None
starred_twice line word t after n more one two =
    let p = split_first (λ b. b == 42) more in
    ap (starred_of line word) (one ∙ ap (λ ws. t ∷ ws) (two ∙ ap (λ ws. n ∷ ws) p.is))

-- and so does one with two angles
pub given_twice : (line : ℕ) (word t after n more : List ℕ) → parts_at 62 word ≡ t ∷ parts_at 62 after → parts_at 62 after ≡ n ∷ parts_at 62 more → given_of line (parts_at 62 word) ≡ None
given_twice line word t after n more one two =
    let p = split_first (λ b. b == 62) more in
    ap (given_of line) (one ∙ ap (λ ws. t ∷ ws) (two ∙ ap (λ ws. n ∷ ws) p.is))
