-- Brackets of a text, and the fault that is told of one too many.
use Rattle.std.specs.Prelude.{◌+◌, ◌-◌, ◌==◌, Bool, false, ◌&&◌, ◌||◌, nat_le, if◌then◌else◌, List, [], ◌∷◌, length}
use Rattle.std.specs.Prelude.{take, drop, codes, bytes_eq}
use Rattle.std.specs.List.{count_by}
use Rattle.mr_ast.specs.Limits.{max_open}
use Rattle.mr_ast.specs.Forms.{Word}
use Rattle.mr_words.specs.declared.fault.Stop.{Stop}

-- whether the word opens a bracket
abbrev pub opens : Word → Bool
opens w = bytes_eq w.text (codes "(") || (bytes_eq w.text (codes "{") || bytes_eq w.text (codes "["))

-- whether the word closes a bracket
abbrev pub closes : Word → Bool
closes w = bytes_eq w.text (codes ")") || (bytes_eq w.text (codes "}") || bytes_eq w.text (codes "]"))

-- an opening bracket, behind words that leave as many brackets open as may be
abbrev pub is_bracket_too_many : List Word → List Word → Bool
is_bracket_too_many front [] = false
is_bracket_too_many front (w ∷ ws) = opens w && nat_le (count_by closes front + max_open) (count_by opens front)

-- the words from a stop on
abbrev pub left_at : List Word → Stop → List Word
left_at words s = drop (length words - s.left) words

-- a bracket too many is told before a word that doesn't fit
abbrev pub told : List Word → Stop → Stop
told words s =
    if (s.code == 4) && is_bracket_too_many (take (length words - s.left) words) (left_at words s)
    then record { code = 7; left = s.left } else s
