-- Traces: the bytes of a run in a file, and what is said of them.
use Rattle.std.specs.Prelude.{◌≡◌, ℕ, List, Option, Some}
use Rattle.mr_event.specs.Footprint.{Footprint}
use Rattle.mr_event.specs.Predicted.{predicted}
use Rattle.mr_io.specs.Files.{Contents}
use Rattle.mr_trace.specs.Faults.{FirstFault}
use Rattle.mr_trace.specs.Spelling.{Traces}
use Rattle.mr_answer.specs.Answers.{listed}
use Rattle.mr_command.specs.Command.{Command, OfTrace}
use Rattle.mr_input.specs.Writing.{IsWhole}

-- the command is to list the races of a file whose bytes are those of the run
pub record Replays (files : Contents) (command : Option Command) (run : List Footprint) : Type 0 where
  pub name : List ℕ
  pub is_offline : command ≡ Some (OfTrace name)
  pub bytes : List ℕ
  pub there : files name ≡ Some bytes
  pub traces : Traces bytes run

-- A file's bytes are those of a run; and the races that this shows were written whole.
abbrev pub WritesRaces : Contents → Option Command → Option (List ℕ) → Option (List ℕ) → ℕ → Type 0
WritesRaces files command old new status =
    (run : List Footprint) × Replays files command run × IsWhole (listed (predicted run)) old new status

-- the command is to list the races of a file whose bytes have this first fault
pub record NamesTraceFault (files : Contents) (command : Option Command) (at code : ℕ) : Type 0 where
  pub name : List ℕ
  pub is_offline : command ≡ Some (OfTrace name)
  pub bytes : List ℕ
  pub there : files name ≡ Some bytes
  pub first : FirstFault bytes at code

-- the same of some fault
abbrev pub HasTraceFault : Contents → Option Command → Type 0
HasTraceFault files command = (at : ℕ) × (code : ℕ) × NamesTraceFault files command at code
