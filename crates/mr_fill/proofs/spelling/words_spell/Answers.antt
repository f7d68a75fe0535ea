use Rattle.mr_fill.proofs.SpelledLaws.{read_spelled, spelled_read}
use Rattle.mr_fill.proofs.spelling.words_spell.Goals as goal

pub returns-clause-read : goal.returns-clause-read
returns-clause-read c = spelled_read

pub returns-clause-spelled : goal.returns-clause-spelled
returns-clause-spelled c = read_spelled
