use Rattle.mr_replay.proofs.Common.{◌∙◌, ◌++◌, ◌∷◌, [], ap, rest_of}
use Rattle.mr_labels.specs.declared.step.Rest.{Rest}
use Rattle.mr_labels.proofs.Growing.{pushed_next}
use Rattle.mr_replay.proofs.resting.first_rests.Goals as goal

pub loop-thread-preserved : goal.loop-thread-preserved
loop-thread-preserved c =
    c.in_ok-push.ensures.items
    ∙ ap (λ (x : Rest). c.loop-thread.rests.items ++ x ∷ []) c.rest_of.ensures
    ∙ pushed_next (rest_of c.args.machine.now.config) [] c.loop-thread.rests.items c.loop-thread.thread
    c.loop-thread.invariant
