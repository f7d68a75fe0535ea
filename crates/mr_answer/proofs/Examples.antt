-- Reports and the lines of places, computed.
use Rattle.mr_answer.proofs.Common.{◌≡◌, [], ◌∷◌, ◌++◌, None, refl, One}
use Rattle.std.proofs.Common.{codes}
use Rattle.std.specs.Fmt.{digits}
use Rattle.mr_base.specs.declared.reason.Reason.TheVariants.{DataRace}
use Rattle.mr_sched.specs.declared.version.Version.TheVariants.{Two}
use Rattle.mr_report.specs.Report.{line}
use Rattle.mr_answer.specs.Answers.{line_at}
use Rattle.mr_answer.specs.Report.{report_of}
use Rattle.mr_base.specs.declared.reason.Verdict.TheVariants as verdict
use Rattle.mr_answer.specs.declared.formats.Format.TheVariants as Format

one_print : report_of Format.Text (record { thread = 0; text = codes "42" } ∷ []) verdict.Exit [] None One ≡ line (codes "> 42") ++ line (codes "verdict exit") ++ line (codes "races 0")
unfolding digits
one_print = refl

with_reason : report_of Format.Text [] (verdict.Undefined DataRace) [] None One ≡ line (codes "verdict undefined 100 DataRace") ++ line (codes "races 0")
unfolding digits
with_reason = refl

-- ---- lines of places

-- the third entry stands on line 5 in version 1, and in version 2 on line 4, since the first two have one line
third_in_one : line_at One (record { start = []; entries = record { thread = 0; picks = [] } ∷ record { thread = 0; picks = [] } ∷ record { thread = 1; picks = [] } ∷ [] }) 5 ≡ 5
third_in_one = refl

third_in_two : line_at Two (record { start = []; entries = record { thread = 0; picks = [] } ∷ record { thread = 0; picks = [] } ∷ record { thread = 1; picks = [] } ∷ [] }) 5 ≡ 4
third_in_two = refl

the_start : line_at Two (record { start = []; entries = [] }) 2 ≡ 2
the_start = refl
