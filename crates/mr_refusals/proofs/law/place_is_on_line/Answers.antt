use Rattle.mr_refusals.proofs.LineLaws.{byte_on_line}
use Rattle.mr_refusals.proofs.law.place_is_on_line.Goals as goal

pub returns : goal.returns
returns c = byte_on_line
