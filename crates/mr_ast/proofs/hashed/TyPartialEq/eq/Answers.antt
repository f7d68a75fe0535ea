use Rattle.mr_ast.proofs.EqualLaws.{equal_types_answer}
use Rattle.mr_ast.proofs.hashed.TyPartialEq.eq.Goals as goal

pub returns : goal.returns
returns c = equal_types_answer c.same.result c.args.self.now c.args.other.now c.same.ensures
