use Rattle.mr_words.proofs.NamingLaws.{position_found}
use Rattle.mr_words.proofs.naming.position.Goals as goal

pub returns : goal.returns
returns c = position_found c.args.names.now c.args.text.now c.find.result c.find.ensures.found c.find.ensures.missing
