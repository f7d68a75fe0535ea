use Rattle.mr_grammar.proofs.Canon.ReadsBackLaws.{reads_back}
use Rattle.mr_grammar.proofs.law.reads_back.Goals as goal

pub returns : goal.returns
returns c = reads_back
