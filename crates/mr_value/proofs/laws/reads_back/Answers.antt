use Rattle.mr_value.proofs.Meanings.{meaning_of_encoding}
use Rattle.mr_value.proofs.laws.reads_back.Goals as goal

pub returns : goal.returns
returns c = meaning_of_encoding
