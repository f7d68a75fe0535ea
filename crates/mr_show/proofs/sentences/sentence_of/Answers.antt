use Rattle.mr_show.proofs.Common.{ap}
use Rattle.mr_show.specs.Sentences.{sentence_in}
use Rattle.mr_show.proofs.sentences.sentence_of.Goals as goal

pub returns-in-Some : goal.returns-in-Some
returns-in-Some c = ap sentence_in c.in-Some.ensures

pub returns-in-None : goal.returns-in-None
returns-in-None c = ap sentence_in c.in-None.ensures
