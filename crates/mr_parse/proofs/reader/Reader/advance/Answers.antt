use Rattle.mr_parse.proofs.Common.{◌∙◌, arith}
use Rattle.mr_words.proofs.PlaceLaws.{words_next, none_past}
use Rattle.mr_parse.proofs.reader.Reader.advance.Goals as goal

pub returns-then-self-len : goal.returns-then-self-len
returns-then-self-len c = λ w rest e. words_next c.self.inside.tokens.now c.self.inside.at w rest (c.self.view_is ∙ e)

pub returns-else-self-len : goal.returns-else-self-len
returns-else-self-len c = λ w rest e. absurd (none_past c.self.inside.tokens.now c.self.inside.at w rest (omega arith) (c.self.view_is ∙ e))
