use Rattle.std.proofs.Common.{ap}
use Rattle.std.specs.Prelude.{option_map}
use Rattle.mr_runs.specs.Pieces.{bytes_of_pieces}
use Rattle.mr_values.proofs.Standings.{bytes_are}
use Rattle.mr_values.proofs.reached.bytes_of.Goals as goal

pub returns : goal.returns
returns c =
    bytes_are c.args.p c.args.len c.args.machine.now.config.state (option_map bytes_of_pieces c.bytes.result)
    c.bytes.ensures.there (λ gone. ap (option_map bytes_of_pieces) (c.bytes.ensures.gone gone))
