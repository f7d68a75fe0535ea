use Rattle.mr_command.proofs.Common.{subst, asked}
use Rattle.mr_command.specs.Command.{IsBounded}
use Rattle.mr_command.specs.declared.command.Command.{Command}
use Rattle.mr_command.proofs.answer.answer.Goals as goal

pub returns-in-Run-clause-texts : goal.returns-in-Run-clause-texts
returns-in-Run-clause-texts g c = λ untold. rw c.in-Run.is (c.report_files.ensures.texts untold)

pub said_file-requires : goal.said_file-requires
said_file-requires g c = subst (λ (x : Command). IsBounded (asked x)) c.in-OfProgram.is c.requires

pub returns-in-OfProgram-clause-texts : goal.returns-in-OfProgram-clause-texts
returns-in-OfProgram-clause-texts g c = λ untold. rw c.in-OfProgram.is (c.said_file.ensures.texts untold)

pub returns-in-Run-clause-shows : goal.returns-in-Run-clause-shows
returns-in-Run-clause-shows g c = λ contents told. rw c.in-Run.is (c.report_files.ensures.spelled contents told)

pub returns-in-OfTrace-clause-shows : goal.returns-in-OfTrace-clause-shows
returns-in-OfTrace-clause-shows g c = λ contents told. rw c.in-OfTrace.is (c.listed_file.ensures.bytes contents told)
