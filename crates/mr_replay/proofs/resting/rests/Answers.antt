use Rattle.mr_replay.proofs.Common.{◌≡◌, ℕ, map, subst, range_with_len, IfOk, rest_of}
use Rattle.mr_replay.proofs.StandLaws.{threads_are}
use Rattle.mr_replay.proofs.resting.rests.Goals as goal

pub returns : goal.returns
returns c =
    let config = c.args.machine.now.config in
    subst (λ (n : ℕ). IfOk c.first_rests.result (λ rests. rests.items ≡ map (rest_of config) (range_with_len 0 n)))
    (threads_are config c.threads.result c.threads.ensures.there c.threads.ensures.gone) c.first_rests.ensures
