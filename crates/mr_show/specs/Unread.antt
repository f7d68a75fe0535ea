-- Why a file was not read.
use Rattle.std.specs.Prelude.{◌≡◌, ◌⊎◌, Option, None, Some}
use Rattle.mr_io.specs.Files.{Contents}
use Rattle.mr_show.specs.Form.{Bare, CheckedProgram, CheckedSchedule, Form, Help, Hunted, Shown, Why}
use Rattle.mr_show.specs.Second.{AsksForSecond}

-- A file that the form names isn't there: the first, or the second, behind a program that breaks no rule or a trace;
-- where the two are checked, behind any program.
abbrev pub LacksFile : Contents → Option Form → Type 0
LacksFile files None = ⊥
LacksFile files (Some (Shown saying program schedule)) =
    (files program ≡ None) ⊎ (AsksForSecond saying (files program) × (files schedule ≡ None))
LacksFile files (Some (Hunted range seek name program)) = files program ≡ None
LacksFile files (Some (Bare alone trace)) = files trace ≡ None
LacksFile files (Some (CheckedProgram name program)) = files program ≡ None
LacksFile files (Some (CheckedSchedule name schedule_name program schedule)) =
    (files program ≡ None) ⊎ (files schedule ≡ None)
LacksFile files (Some (Why code)) = ⊥
LacksFile files (Some (Help text)) = ⊥

-- WHY A FILE WAS NOT READ: a failure, which is counted, or where the files tell what they hold, that it isn't there.
abbrev pub IsUnreadBecause : Type 0 → Option Contents → Option Form → Type 0
IsUnreadBecause rose told form = rose ⊎ ((files : Contents) × (told ≡ Some files) × LacksFile files form)
