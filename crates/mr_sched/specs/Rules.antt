-- The rules of schedules, by number and by name.
use Rattle.std.specs.Prelude.{ℕ, ◌==◌, List, [], ◌∷◌, codes, Option}
use Rattle.std.specs.List.{find}
use Rattle.std.specs.Option.{option_map_or}
use Rattle.mr_sched.specs.declared.fault.TheConstants.{BAD_HEADER, BAD_LINE, TOO_LONG}
use Rattle.mr_sched.specs.declared.rule.ScheduleRule.{ScheduleRule}
use Rattle.mr_sched.specs.declared.rule.ScheduleRule.TheVariants.{BadHeader, BadLine, TooLong, NotEnabled, MissingPick}
use Rattle.mr_sched.specs.declared.rule.ScheduleRule.TheVariants.{ExtraPick, BadAddress, Reused, NotWaiting, AfterStop}
use Rattle.mr_sched.specs.declared.rule.ScheduleRule.TheVariants.{TooManyThreads, TooManyLocks}

-- each rule has a number: those of the text from 50 on, and those of a step from 60 on
abbrev pub code_of : ScheduleRule → ℕ
code_of BadHeader = BAD_HEADER
code_of BadLine = BAD_LINE
code_of TooLong = TOO_LONG
code_of NotEnabled = 60
code_of MissingPick = 61
code_of ExtraPick = 62
code_of BadAddress = 63
code_of Reused = 64
code_of NotWaiting = 65
code_of AfterStop = 66
code_of TooManyThreads = 67
code_of TooManyLocks = 68

-- the name that stands behind the number where a rule is printed
abbrev pub name_of : ScheduleRule → List ℕ
name_of BadHeader = codes "BadHeader"
name_of BadLine = codes "BadLine"
name_of TooLong = codes "TooLong"
name_of NotEnabled = codes "NotEnabled"
name_of MissingPick = codes "MissingPick"
name_of ExtraPick = codes "ExtraPick"
name_of BadAddress = codes "BadAddress"
name_of Reused = codes "Reused"
name_of NotWaiting = codes "NotWaiting"
name_of AfterStop = codes "AfterStop"
name_of TooManyThreads = codes "TooManyThreads"
name_of TooManyLocks = codes "TooManyLocks"

-- all rules, by their numbers
abbrev pub rules : List ScheduleRule
rules =
    BadHeader ∷ BadLine ∷ TooLong ∷ NotEnabled ∷ MissingPick ∷ ExtraPick ∷ BadAddress ∷ Reused ∷ NotWaiting ∷
    AfterStop ∷ TooManyThreads ∷ TooManyLocks ∷ []

-- the rule of a number, where there is one
abbrev pub rule_of : ℕ → Option ScheduleRule
rule_of code = find (λ r. code_of r == code) rules

-- the name of the rule of a number, and none where there is no such rule
abbrev pub name_by_code : ℕ → List ℕ
name_by_code code = option_map_or name_of (rule_of code) []
