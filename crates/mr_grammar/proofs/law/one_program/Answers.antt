use Rattle.mr_grammar.proofs.ParsingLaws.{denotes_parsed, one_program, parsed_denotes}
use Rattle.mr_grammar.proofs.law.one_program.Goals as goal

pub returns : goal.returns
returns c = record {
  program = λ text p. (parsed_denotes text p, denotes_parsed text p);
  one = one_program;
}
