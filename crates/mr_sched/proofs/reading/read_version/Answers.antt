use Rattle.mr_sched.proofs.TextLaws.{read_is_spelled, spelled_is_read, answer_is_first, first_is_answer}
use Rattle.mr_sched.proofs.reading.read_version.Goals as goal

pub returns-clause-spelled : goal.returns-clause-spelled
returns-clause-spelled c = read_is_spelled c.args.text.now c.read_text.result c.read_text.ensures

pub returns-clause-only : goal.returns-clause-only
returns-clause-only c = λ v w h. spelled_is_read c.args.text.now c.read_text.result v w c.read_text.ensures h

pub returns-clause-first : goal.returns-clause-first
returns-clause-first c = λ line code.
    (λ e. answer_is_first c.args.text.now c.read_text.result line code c.read_text.ensures e, λ h. first_is_answer c.args.text.now c.read_text.result line code c.read_text.ensures h)
