use Rattle.mr_show.proofs.WitnessLaws.{none_partner, unlisted_told}
use Rattle.mr_show.proofs.witness.other_steps_race_with_none.Goals as goal

pub returns : goal.returns
returns c = record { partner = none_partner; told = unlisted_told }
