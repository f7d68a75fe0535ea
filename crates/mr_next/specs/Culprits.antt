-- The pick by which an entry breaks a rule.
use Rattle.std.specs.Prelude.{ℕ, ◌+◌, ◌==◌, ◌&&◌, nat_lt, Bool, false, if◌then◌else◌, length, take, Option, None}
use Rattle.std.specs.List.{find, range_with_len}
use Rattle.std.specs.Option.{option_map_or}
use Rattle.mr_sched.specs.declared.schedule.Entry.{Entry}
use Rattle.mr_step.specs.PlanLegal.{Fault}
use Rattle.mr_step.specs.PlanRuns.{Config}
use Rattle.mr_step.specs.FrameFrames.{Look}
use Rattle.mr_step.specs.ThreadSteps.{Own}
use Rattle.mr_step.specs.StartRuns.{program_fault}

-- the rules that one pick breaks: 63 BadAddress, 64 Reused and 65 NotWaiting
abbrev pub is_of_pick : ℕ → Bool
is_of_pick code = nat_lt 62 code && nat_lt code 66

-- an entry with its first picks alone
abbrev pub with_picks : Entry → ℕ → Entry
with_picks e count = record { thread = e.thread; picks = take count e.picks }

-- whether an entry with so many picks breaks this rule
abbrev pub breaks_with : Look → Config Own → Entry → ℕ → ℕ → Bool
breaks_with look c e code count =
    option_map_or (λ (f : Fault). f.code == code) (program_fault look c (with_picks e count)) false

-- THE POSITION OF THE PICK by which an entry breaks a rule, where the rule is one of a pick: the last of the fewest
-- picks with which it breaks that rule already
abbrev pub culprit_of : Look → Config Own → Entry → ℕ → Option ℕ
culprit_of look c e code =
    if is_of_pick code
    then find (λ at. breaks_with look c e code (at + 1)) (range_with_len 0 (length e.picks)) else None
