use Rattle.mr_witness.proofs.Common.{◌∙◌}
use Rattle.mr_witness.proofs.Copied.{with_last, without_last}
use Rattle.mr_witness.proofs.shuffling.reordered.Goals as goal
use Rattle.mr_witness.proofs.shuffling.reordered.Goals.{then-completed-entries+in_ok-last+in_ok-push, else-completed-entries}

pub returns : goal.returns
returns c =
    elim c.if-completed-entries.branch [
      | then-completed-entries+in_ok-last+in_ok-push w ↦
          w.copies-is
          ∙ with_last c.args.entries.now c.in_ok-copies.copies w.push.new.self w.in_ok-last.last c.args.order.now c.args.completed w.if-completed-entries.true c.requires.many c.in_ok-copies.ensures w.in_ok-last.ensures w.in_ok-push.ensures.ok
      | else-completed-entries w ↦
          w.copies-is ∙ without_last c.args.entries.now c.in_ok-copies.copies c.args.order.now c.args.completed w.if-completed-entries.false c.in_ok-copies.ensures
    ]
