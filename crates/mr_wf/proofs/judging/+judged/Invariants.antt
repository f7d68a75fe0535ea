use Rattle.mr_wf.proofs.Common.{◌≡◌, drop, map, ty_of, judged_values, surroundings_of}
use Rattle.mr_wf.proofs.GivesLaws.{with_types}
use Rattle.mr_wf.proofs.judging.+judged.Given as goal

abbrev pub invariant-judged_values-loop-value : goal.invariant-judged_values-loop-value
invariant-judged_values-loop-value l =
    with_types (map ty_of l.types.items) (judged_values (surroundings_of l.at) (drop l.value-index l.values)) ≡ judged_values (surroundings_of l.at) l.values
