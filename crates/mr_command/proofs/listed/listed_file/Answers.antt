use Rattle.mr_command.proofs.Common.{[]}
use Rattle.mr_command.proofs.listed.listed_file.Goals as goal

pub returns-clause-texts : goal.returns-clause-texts
returns-clause-texts g c = λ untold.
    let bytes = c.read_races.ensures.texts untold in ([], bytes.0, bytes.1)
