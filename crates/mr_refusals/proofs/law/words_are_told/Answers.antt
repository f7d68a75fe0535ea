use Rattle.mr_refusals.proofs.WordLaws.{all_known, all_named, none_named}
use Rattle.mr_refusals.proofs.law.words_are_told.Goals as goal

pub returns : goal.returns
returns c = record { named = all_named; fixed = none_named; known = all_known }
