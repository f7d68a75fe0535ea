-- What the words ask for, when the program ends.
use Rattle.std.specs.Prelude.{◌≡◌, ℕ, List, Option, None, Some}
use Rattle.mr_io.specs.Files.{Contents}
use Rattle.mr_command.specs.Answer.{usage}
use Rattle.mr_command.specs.Command.{command_of}
use Rattle.mr_input.specs.Writing.{IsWritten}
use Rattle.mr_command.specs.Outcome.{Ends, EndsOverTexts}

-- What the words ask for was done, over files that tell what they hold and over files that don't.
pub record IsDone (told : Option Contents) (files_rose out_rose : Type 0) (old new : Option (List ℕ)) (status : ℕ)
    (words : List (List ℕ)) : Type 0 where
  pub ends : (contents : Contents) → told ≡ Some contents →
      Ends contents (command_of words) files_rose out_rose old new status
  pub untold : told ≡ None → EndsOverTexts (command_of words) files_rose out_rose old new status
  pub usage : command_of words ≡ None → IsWritten usage out_rose old new status
  pub no_usage : status ≡ 2 → command_of words ≡ None
