-- What is looked for among the runs of numbers.
use Rattle.std.specs.Prelude.{Option, None, Some}
use Rattle.mr_hunt.specs.Aims.{Aim, aim_of}
use Rattle.mr_show.specs.declared.form.Seek.{Seek as Words}
use Rattle.mr_show.specs.declared.form.Seek.TheVariants as words

-- all kinds of ends; the first run that has what is aimed at; or the schedule itself, of the first number
pub data Seek : Type 0 where
  Ends : Seek
  First : (aim : Aim) → Seek
  Drawn : Seek

-- as it is asked for
abbrev pub seek_of : Words → Seek
seek_of words.Ends = Ends
seek_of (words.First aim) = First (aim_of aim)
seek_of words.Drawn = Drawn

-- with an aim, or without
abbrev pub seeking : Option Aim → Seek
seeking None = Ends
seeking (Some aim) = First aim
