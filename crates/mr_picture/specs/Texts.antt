-- Texts of steps and links.
use Rattle.std.specs.Prelude.{ℕ, ◌+◌, nat_le, if◌then◌else◌, List, ◌++◌, codes, decimal, length, take}

-- A TEXT AS IT IS DRAWN: so many of its first bytes, and ` ..` where it has more
abbrev pub cut_at : ℕ → List ℕ → List ℕ
cut_at most text = if nat_le (length text) most then text else take most text ++ codes " .."

-- beside a step there is room for 60
abbrev pub cut : List ℕ → List ℕ
cut text = cut_at 60 text

-- a step, counted from 1
abbrev pub step_word : ℕ → List ℕ
step_word step = codes "step " ++ decimal (step + 1)
