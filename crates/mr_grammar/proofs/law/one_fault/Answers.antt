use Rattle.mr_grammar.proofs.ParsingLaws.{fault_parsed, one_first_fault, parsed_fault}
use Rattle.mr_grammar.proofs.law.one_fault.Goals as goal

pub returns : goal.returns
returns c = record {
  fault = λ text fault. (parsed_fault text fault, fault_parsed text fault);
  one = one_first_fault;
}
