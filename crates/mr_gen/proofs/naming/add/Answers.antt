use Rattle.mr_ast.proofs.TextsLaws.{with_text-Adds}
use Rattle.mr_gen.proofs.naming.add.Goals as goal

pub returns : goal.returns
returns c = with_text-Adds c.args.names.now c.args.text.now c.add.new.self c.in_ok-add.field-0 c.in_ok-add.ensures.ok
