use Rattle.mr_words.proofs.NamingLaws.{IsAscii-from_name}
use Rattle.mr_words.proofs.scope.Scope.target.Goals as goal

pub text_of-requires : goal.text_of-requires
text_of-requires c = IsAscii-from_name c.args.text.now c.requires.name
