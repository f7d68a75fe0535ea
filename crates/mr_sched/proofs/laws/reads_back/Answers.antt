use Rattle.mr_sched.proofs.Common.{refl, text_in}
use Rattle.mr_sched.proofs.TextLaws.{schedule_again}
use Rattle.mr_sched.proofs.laws.reads_back.Goals as goal

pub returns : goal.returns
returns c = λ v w fits limits. schedule_again (text_in v w) v w (record { spelled = refl; fits = fits; limits = limits })
