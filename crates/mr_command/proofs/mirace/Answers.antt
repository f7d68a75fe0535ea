use Rattle.mr_command.proofs.Common.{Rose}
use Rattle.mr_command.proofs.HeadlineLaws.{big_soundly, big_unless_faults, big_written}
use Rattle.mr_command.proofs.MachineLaws.{headline}
use Rattle.mr_command.proofs.PromiseLaws.{of_runs, of_texts, of_traces}
use Rattle.mr_command.proofs.UnreadLaws.{unread_because}
use Rattle.mr_command.proofs.mirace.Goals as goal

pub returns-clause-headline : goal.returns-clause-headline
returns-clause-headline g c = λ contents p v w told names.
    headline contents _ _ _ _ _ _ p v w names (c.served.ensures.ends contents told)

pub returns-clause-runs : goal.returns-clause-runs
returns-clause-runs g c = λ contents told. of_runs contents _ _ _ _ _ _ (c.served.ensures.ends contents told)

pub returns-clause-texts : goal.returns-clause-texts
returns-clause-texts g c = λ contents told. of_texts contents _ _ _ _ _ _ (c.served.ensures.ends contents told)

pub returns-clause-traces : goal.returns-clause-traces
returns-clause-traces g c = λ contents told.
    of_traces contents _ _ _ _ _ _ (c.served.ensures.ends contents told) (c.served.ensures.shown contents told)

pub returns-clause-read_fault : goal.returns-clause-read_fault
returns-clause-read_fault g c = λ six.
    unread_because _ _ _ _ _ _ six _ (λ untold. c.served.ensures.untold untold six) (c.served.ensures.ends)

pub returns-clause-big : goal.returns-clause-big
returns-clause-big g c = λ number is. (
  big_soundly number,
  big_written number _ _ _ _ _ _ _ is (c.served.ensures.ends) (c.served.ensures.texts),
)

pub returns-clause-grows : goal.returns-clause-grows
returns-clause-grows g c = λ number is no_write.
    big_unless_faults number (Rose (g.F.Files.faults c.args.files.now) (g.F.Files.faults c.served.new.files)) _ _ _ _ (returns-clause-big g c number is).1 no_write
