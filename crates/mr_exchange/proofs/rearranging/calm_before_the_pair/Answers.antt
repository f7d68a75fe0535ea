use Rattle.mr_exchange.proofs.Witness.{selected_calm, pair_reported, selected_prefix}
use Rattle.mr_exchange.proofs.rearranging.calm_before_the_pair.Goals as goal

pub returns : goal.returns
returns c =
    record {
      calm = λ run i j keep pair sel. selected_calm run i j keep pair sel;
      reported = λ run i j pair. pair_reported run i j pair.pair;
      prefix = λ run i j keep thread pair sel. selected_prefix run i j keep pair sel thread;
    }
