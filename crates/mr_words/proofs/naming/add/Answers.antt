use Rattle.mr_words.proofs.Common.{subst}
use Rattle.mr_ast.specs.Names.{Adds}
use Rattle.mr_ast.proofs.TextsLaws.{with_text-Adds}
use Rattle.mr_words.proofs.naming.add.Goals as goal

pub returns : goal.returns
returns c = with_text-Adds _ _ _ _ (subst (λ t. Adds c.args.names.now t c.add.new.self c.in_ok-add.field-0) c.text_of.ensures c.in_ok-add.ensures.ok)
