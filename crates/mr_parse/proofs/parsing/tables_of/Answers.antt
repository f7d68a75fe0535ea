use Rattle.mr_parse.proofs.Common.{words_of}
use Rattle.mr_parse.specs.Views.{body_of_parts}
use Rattle.mr_parse.proofs.ParseLaws.{small}
use Rattle.mr_parse.proofs.parsing.tables_of.Goals as goal

pub tables_in-requires : goal.tables_in-requires
tables_in-requires c = small c.unknown.result (words_of c.args.tokens.now) (body_of_parts c.in-Ok.parts) c.requires.ascii c.in-Ok.ensures
