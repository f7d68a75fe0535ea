-- What a byte may be a part of.
use Rattle.std.specs.Prelude.{ℕ, Bool, false, ◌||◌, ◌==◌, not, List, [], ◌∷◌, codes}
use Rattle.std.specs.List.{list_any}
use Rattle.std.specs.Char.{is_ascii_alphabetic, is_ascii_digit}

-- a space, a tab, a carriage return or a line feed
abbrev pub is_blank : ℕ → Bool
is_blank b = b == 32 || b == 9 || b == 13 || b == 10

-- any byte but a line feed, which ends a line
abbrev pub is_inline : ℕ → Bool
is_inline b = not (b == 10)

-- `#`
abbrev pub begins_comment : ℕ → Bool
begins_comment b = b == 35

-- an ASCII letter or `_`
abbrev pub is_letter : ℕ → Bool
is_letter b = is_ascii_alphabetic b || b == 95

-- an ASCII digit
abbrev pub is_digit : ℕ → Bool
is_digit b = is_ascii_digit b

-- a byte that a word may hold
abbrev pub is_word_byte : ℕ → Bool
is_word_byte b = is_letter b || is_digit b

-- a byte that is a symbol by itself
abbrev pub is_symbol : ℕ → Bool
is_symbol b = list_any (λ s. s == b) (codes "(){}[],;:.@+-*=?&")

-- `-` or `=`, with which the symbols `->` and `=>` begin
abbrev pub begins_arrow : ℕ → Bool
begins_arrow b = b == 45 || b == 61

-- `>`
abbrev pub ends_arrow : ℕ → Bool
ends_arrow b = b == 62

-- a byte with which something begins that a text may hold
abbrev pub begins_piece : ℕ → Bool
begins_piece b = is_blank b || begins_comment b || is_letter b || is_digit b || is_symbol b

-- whether the text begins with a byte that passes the test
abbrev pub begins : (ℕ → Bool) → List ℕ → Bool
begins test [] = false
begins test (b ∷ bs) = test b
