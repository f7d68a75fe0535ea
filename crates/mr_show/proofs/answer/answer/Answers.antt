use Rattle.mr_show.proofs.Common.{[]}
use Rattle.mr_show.proofs.answer.answer.Goals as goal

pub returns-in-Shown-clause-texts : goal.returns-in-Shown-clause-texts
returns-in-Shown-clause-texts g c = λ untold. rw c.in-Shown.is (c.shown_files.ensures.texts untold)

pub returns-in-CheckedProgram-clause-texts : goal.returns-in-CheckedProgram-clause-texts
returns-in-CheckedProgram-clause-texts g c = λ untold.
    rw c.in-CheckedProgram.is (let texts = c.checked_file.ensures.texts untold in (texts.0, [], texts.1))

pub returns-in-CheckedSchedule-clause-texts : goal.returns-in-CheckedSchedule-clause-texts
returns-in-CheckedSchedule-clause-texts g c = λ untold.
    rw c.in-CheckedSchedule.is (c.checked_files.ensures.texts untold)

pub returns-in-Help-clause-texts : goal.returns-in-Help-clause-texts
returns-in-Help-clause-texts g c = λ untold. rw c.in-Help.is ([], [], c.help.ensures.answer)

pub returns-in-Why-clause-texts : goal.returns-in-Why-clause-texts
returns-in-Why-clause-texts g c = λ untold. rw c.in-Why.is ([], [], c.explained.ensures.answer)

pub returns-in-Hunted-clause-texts : goal.returns-in-Hunted-clause-texts
returns-in-Hunted-clause-texts g c = λ untold.
    rw c.in-Hunted.is (let texts = c.hunted_file.ensures.texts untold in (texts.0, [], texts.1))

pub returns-in-Bare-clause-texts : goal.returns-in-Bare-clause-texts
returns-in-Bare-clause-texts g c = λ untold.
    rw c.in-Bare.is (let texts = c.bare_file.ensures.texts untold in (texts.0, [], texts.1))
