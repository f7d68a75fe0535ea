-- What the code answers of a turn.
use Rattle.std.specs.Prelude.{◌≡◌, ℕ, Result, Ok, Err}
use Rattle.mr_sched.specs.declared.chooser.Chooser.{Chooser}
use Rattle.mr_auto.specs.Drawing.{Next}
use Rattle.mr_fill.specs.declared.due.Due.{Due}
use Rattle.mr_fill.specs.declared.due.Due.TheVariants.{Broken, Takes}

-- an entry, with the chooser behind it; or the rule that is broken
abbrev pub TurnAnswer : Result Next ℕ → Due → Chooser → Type 0
TurnAnswer defined (Takes entry) new = defined ≡ Ok (record { entry = entry; chooser = new })
TurnAnswer defined (Broken code) new = defined ≡ Err code
