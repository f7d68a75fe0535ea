-- A line of a text, as it is shown, and the caret below it.
use Rattle.std.specs.Prelude.{ℕ, zero, suc, ◌-◌, ◌==◌, ◌&&◌, nat_le, nat_lt, if◌then◌else◌, List, [], ◌∷◌, ◌++◌, codes}
use Rattle.std.specs.Prelude.{drop, map, replicate, take, Option, None, Some}
use Rattle.std.specs.List.{take_while}
use Rattle.mr_lex.specs.Bytes.{is_inline}

-- what stands behind so many line feeds
abbrev pub behind_feeds : ℕ → List ℕ → List ℕ
behind_feeds zero text = text
behind_feeds (suc n) [] = []
behind_feeds (suc n) (b ∷ bs) = if b == 10 then behind_feeds n bs else behind_feeds (suc n) bs

-- THE LINE OF A NUMBER, counted from 1, without its end
abbrev pub line_at : List ℕ → ℕ → List ℕ
line_at text number = take_while is_inline (behind_feeds (number - 1) text)

-- a byte as it is shown: a tab as a blank, and what isn't printed as `?`
abbrev pub shown_byte : ℕ → ℕ
shown_byte b = if b == 9 then 32 else if nat_le 32 b && nat_le b 126 then b else 63

-- where the shown part of a line begins, when so many of its bytes stand in front of the place
abbrev pub cut_from : ℕ → ℕ
cut_from before = if nat_lt before 90 then 0 else before - 60

-- 120 bytes of a line at most, from one on
abbrev pub shown_part : List ℕ → ℕ → List ℕ
shown_part line from = map shown_byte (take 120 (drop from line))

-- A LINE AS IT IS SHOWN, and below it a caret under the byte in front of which so many stand
abbrev pub shown_lines : List ℕ → ℕ → List ℕ
shown_lines line before =
    codes "    " ++ shown_part line (cut_from before) ++ codes "\n    " ++ replicate (before - cut_from before) 32
    ++ codes "^\n"

-- a byte of a text, where it isn't a line feed
abbrev pub inline_byte : Option ℕ → Option ℕ
inline_byte None = None
inline_byte (Some b) = if is_inline b then Some b else None
