use Rattle.mr_words.proofs.TextLaws.{text_at_place}
use Rattle.mr_words.proofs.definitions.text_at.Goals as goal

pub returns-in-Some : goal.returns-in-Some
returns-in-Some c = text_at_place _ _ _ c.in-Some.ensures

pub returns-in-None : goal.returns-in-None
returns-in-None c = text_at_place _ _ _ c.in-None.ensures
