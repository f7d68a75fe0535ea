use Rattle.mr_parse.proofs.ParseLaws.{denoted_given, fault_given, given_denoted, given_fault, given_shaped}
use Rattle.mr_parse.proofs.parsing.parse.Goals as goal

pub returns : goal.returns
returns c = record {
  exact = c.parsed.ensures;
  denoted = given_denoted c.args.text.now c.parsed.result c.parsed.ensures;
  only = λ p d. denoted_given c.args.text.now c.parsed.result p c.parsed.ensures d;
  shaped = given_shaped c.args.text.now c.parsed.result c.parsed.ensures;
  fault = λ fault is. given_fault c.args.text.now c.parsed.result fault c.parsed.ensures is;
  first = λ fault f. fault_given c.args.text.now c.parsed.result fault c.parsed.ensures f;
}
