use Rattle.mr_input.proofs.written.answered.Goals as goal

pub returns-in-Ok-clause-answer : goal.returns-in-Ok-clause-answer
returns-in-Ok-clause-answer c = λ a h. rw c.in-Ok.is at h

pub returns-in-Ok-clause-status : goal.returns-in-Ok-clause-status
returns-in-Ok-clause-status c = rw c.in-Ok.is at c.requires
