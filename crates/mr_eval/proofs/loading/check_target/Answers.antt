use Rattle.mr_eval.proofs.Common.{sym}
use Rattle.mr_eval.proofs.ScalarRuns.{target_dangling}
use Rattle.mr_eval.proofs.loading.check_target.Goals as goal

pub returns-in-Err : goal.returns-in-Err
returns-in-Err c = λ s. target_dangling c.args.m.now c.args.target c.in-Some.p c.in-Some.len c.in-Err.field-0 s c.in-Some.is (sym c.in-Err.ensures)
