-- What the words ask for, when the program ends.
use Rattle.std.specs.Prelude.{◌≡◌, ℕ, List, Option, None, Some}
use Rattle.mr_io.specs.Files.{Contents}
use Rattle.mr_show.specs.InputWriting.{IsWritten}
use Rattle.mr_show.specs.Answer.{usage}
use Rattle.mr_show.specs.Form.{form_of}
use Rattle.mr_show.specs.Outcome.{Ends, EndsOverTexts}

-- What the words ask for was done, over files that tell what they hold and over files that don't.
pub record IsDone (told : Option Contents) (files_rose out_rose : Type 0) (old new : Option (List ℕ)) (status : ℕ)
    (words : List (List ℕ)) : Type 0 where
  pub ends : (contents : Contents) → told ≡ Some contents →
      Ends contents (form_of words) files_rose out_rose old new status
  pub untold : told ≡ None → EndsOverTexts (form_of words) files_rose out_rose old new status
  pub usage : form_of words ≡ None → IsWritten usage out_rose old new status
  pub no_usage : status ≡ 2 → form_of words ≡ None
