-- The status of a report, and of races that are listed, is at most 1.
use Rattle.mr_answer.proofs.Common.{ℕ, ◌≤◌, arith, List, [], ◌∷◌, Program, Schedule, Version, Pair, predicted, run_of, steps_of, shuffled, Ran, reported, shuffled_answer}
use Rattle.mr_base.specs.declared.reason.Verdict.{Verdict}
use Rattle.mr_answer.specs.declared.formats.Format.{Format}
use Rattle.mr_answer.specs.Answers.{races_status}
use Rattle.mr_answer.specs.Report.{report_status, verdict_status}
use Rattle.mr_base.specs.declared.reason.Verdict.TheVariants as verdict
use Rattle.mr_answer.specs.declared.formats.Format.TheVariants as format

verdict_at_most_one : (v : Verdict) → verdict_status v ≤ 1
verdict_at_most_one verdict.Running = omega arith
verdict_at_most_one verdict.Exit = omega arith
verdict_at_most_one verdict.Leak = omega arith
verdict_at_most_one verdict.Abort = omega arith
verdict_at_most_one verdict.Deadlock = omega arith
verdict_at_most_one (verdict.Undefined r) = omega arith

pub at_most_one : (v : Verdict) (races : List Pair) → report_status v races ≤ 1
at_most_one v [] = verdict_at_most_one v
at_most_one v (p ∷ races) = omega arith

shuffled_least : (number : ℕ) (p : Program) (v : Version) (w : Schedule) (r : Ran) (races : List Pair) → (shuffled_answer number p v w r races).status ≤ 1
shuffled_least number p v w r [] = at_most_one (run_of p (shuffled r.steps w number)).verdict (predicted (steps_of p (shuffled r.steps w number)))
shuffled_least number p v w r (pair ∷ races) = at_most_one r.config.verdict (predicted r.steps)

-- the status of a report
pub reported_least : (format : Format) (p : Program) (v : Version) (w : Schedule) (r : Ran) → (reported format p v w r).status ≤ 1
reported_least format.Text p v w r = at_most_one r.config.verdict (predicted r.steps)
reported_least format.Json p v w r = at_most_one r.config.verdict (predicted r.steps)
reported_least format.Short p v w r = at_most_one r.config.verdict (predicted r.steps)
reported_least format.Footprints p v w r = omega arith
reported_least (format.Shuffled number) p v w r = shuffled_least number p v w r (predicted r.steps)

-- the status of races
pub races_least : (races : List Pair) → races_status races ≤ 1
races_least [] = omega arith
races_least (p ∷ races) = omega arith
