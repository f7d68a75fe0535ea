use Rattle.mr_show.proofs.WitnessLaws.{listed_told, partner_listed}
use Rattle.mr_show.proofs.witness.listed_races_are_told.Goals as goal

pub returns : goal.returns
returns c = record { partner = partner_listed; told = listed_told c.codes_differ.ensures }
