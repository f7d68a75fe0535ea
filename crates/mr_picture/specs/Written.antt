-- Marks as they are written.
use Rattle.std.specs.Prelude.{ℕ, List, [], ◌∷◌}
use Rattle.mr_svg.specs.Svg.{Mark, mark_text}
use Rattle.mr_picture.specs.declared.written.Written.{Written}

-- A MARK AS IT IS WRITTEN, behind others: its sign, and its text
abbrev pub as_written : Mark → List Written
as_written m = record { sign = m.sign; text = mark_text m } ∷ []

abbrev pub text_of : Written → List ℕ
text_of mark = mark.text
