-- What looking a name up answers.
use Rattle.std.specs.Prelude.{◌≡◌, ℕ, Option, None, Some, Result, Ok, Err}

-- the thing that is meant, and no fault, or the code of the fault
abbrev pub Numbers : {A : Type 0} → Result A ℕ → A × Option ℕ → Type 0
Numbers (Ok x) found = found ≡ (x, None)
Numbers (Err code) found = found.1 ≡ Some code
