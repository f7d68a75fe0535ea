use Rattle.mr_picture.proofs.InsideLaws.{asked_inside, marks_inside}
use Rattle.mr_picture.proofs.law.marks_lie_inside.Goals as goal

pub returns-clause-sketch : goal.returns-clause-sketch
returns-clause-sketch c = marks_inside

pub returns-clause-program : goal.returns-clause-program
returns-clause-program c = asked_inside
