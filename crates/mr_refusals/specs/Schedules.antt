-- The first rule that a schedule breaks, as it is told.
use Rattle.std.specs.Prelude.{ℕ, ◌-◌, List, [], ◌++◌, codes, decimal, Option, None, Some, slice_get}
use Rattle.mr_ast.specs.declared.program.Program.{Program}
use Rattle.mr_sched.specs.declared.schedule.Entry.{Entry}
use Rattle.mr_sched.specs.declared.schedule.Schedule.{Schedule}
use Rattle.mr_sched.specs.declared.version.Version.{Version}
use Rattle.mr_sched.specs.Versions.{line_in}
use Rattle.mr_run.specs.StepPlanRuns.{Config}
use Rattle.mr_run.specs.FrameFrames.{Look}
use Rattle.mr_run.specs.StartSteps.{Own}
use Rattle.mr_run.specs.StartRuns.{PlacedFault, run_of}
use Rattle.mr_run.specs.StartStart.{look_of}
use Rattle.mr_next.specs.Culprits.{culprit_of}
use Rattle.mr_next.specs.Reached.{legal_front}
use Rattle.mr_next.specs.Texts.{broken_text}
use Rattle.mr_next.specs.declared.broken.Broken.{Broken}
use Rattle.mr_refusals.specs.Heads.{line_told, sentence_of}

-- AN ENTRY THAT BREAKS A RULE, on its line of the text, and what `mr_next` says of it
abbrev pub entry_told : List ℕ → List ℕ → ℕ → Entry → Broken → List ℕ
entry_told file text line e b = line_told file text line ++ broken_text (sentence_of b.code) e b

-- the same of an entry of a schedule, if it is there; the first has place 3
abbrev pub broken_told : List ℕ → List ℕ → Version → List Entry → Broken → Option Entry → List ℕ
broken_told file text v es b None = []
broken_told file text v es b (Some e) = entry_told file text (line_in v es (b.place - 3)) e b

-- a rule that an entry breaks where the machine stands so, with the pick by which it does
abbrev pub broken_by : Look → Config Own → Entry → PlacedFault → Broken
broken_by look c e f = record {
  place = f.line;
  code = f.fault.code;
  earlier = f.fault.earlier;
  culprit = culprit_of look c e f.fault.code;
}

-- what is told of it, if it is there
abbrev pub rule_by : List ℕ → List ℕ → Version → List Entry → Look → Config Own → PlacedFault → Option Entry → List ℕ
rule_by file text v es look c f None = []
rule_by file text v es look c f (Some e) =
    entry_told file text (line_in v es (f.line - 3)) e (broken_by look c e f)

-- THE FIRST RULE THAT ENTRIES BREAK, where the machine stands so in front of the entry that does
abbrev pub rule_from : List ℕ → List ℕ → Version → List Entry → Look → Config Own → PlacedFault → List ℕ
rule_from file text v es look c f = rule_by file text v es look c f (slice_get es (f.line - 3))

-- the same of a schedule of a program, whose text is in a file
abbrev pub rule_told : List ℕ → List ℕ → Program → Version → Schedule → PlacedFault → List ℕ
rule_told file text p v w f =
    rule_from file text v w.entries (look_of p w.start) (run_of p (legal_front w (Some f))) f

-- that a schedule breaks none
abbrev pub legal_line : List ℕ → ℕ → List ℕ
legal_line file count = file ++ codes ": legal, " ++ decimal count ++ codes " entries\n"
