use Rattle.mr_lex.proofs.ReadingLaws.{lexes_lexed, fault_lexed, lexed_lexes, lexed_fault}
use Rattle.mr_lex.proofs.reading.one_reading.Goals as goal

pub returns-clause-tokens : goal.returns-clause-tokens
returns-clause-tokens c = λ text lexemes. (lexed_lexes text lexemes, lexes_lexed text lexemes)

pub returns-clause-fault : goal.returns-clause-fault
returns-clause-fault c = λ text fault. (lexed_fault text fault, fault_lexed text fault)
