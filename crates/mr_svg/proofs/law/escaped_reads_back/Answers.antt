use Rattle.mr_svg.proofs.ReadLaws.{reads_back}
use Rattle.mr_svg.proofs.law.escaped_reads_back.Goals as goal

pub returns : goal.returns
returns c = reads_back
