use Rattle.mr_sched.proofs.TextLaws.{as_read, schedule_read, schedule_again, schedule_failed, schedule_fails_at, same_schedule, same_text}
use Rattle.mr_sched.proofs.laws.one_schedule.Goals as goal

pub returns-clause-spelled : goal.returns-clause-spelled
returns-clause-spelled c = λ text v w. (schedule_read text (as_read v w), schedule_again text v w)

pub returns-clause-faulty : goal.returns-clause-faulty
returns-clause-faulty c = λ text f. (schedule_failed text f, schedule_fails_at text f.line f.code)

pub returns-clause-one : goal.returns-clause-one
returns-clause-one c = same_schedule

pub returns-clause-one_text : goal.returns-clause-one_text
returns-clause-one_text c = same_text
