-- When the second file of a form is read.
use Rattle.std.specs.Prelude.{◌≡◌, ℕ, true, ◌⊎◌, List, Option, None, Some}
use Rattle.mr_input.specs.Inputs.{AsksForSchedule}
use Rattle.mr_show.specs.declared.form.Saying.{Saying}
use Rattle.mr_show.specs.declared.form.Telling.{Telling}
use Rattle.mr_show.specs.Traced.{holds_trace, telling_of}

-- the file holds a trace, where a trace may tell something
abbrev pub HoldsTrace : Option Telling → Option (List ℕ) → Type 0
HoldsTrace (Some what) (Some bytes) = holds_trace bytes ≡ true
HoldsTrace what file = ⊥

-- THE SECOND FILE IS READ only behind a first that holds a program that breaks no rule, or a trace
abbrev pub AsksForSecond : Saying → Option (List ℕ) → Type 0
AsksForSecond saying file = AsksForSchedule file ⊎ HoldsTrace (telling_of saying) file
