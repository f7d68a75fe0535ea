use Rattle.mr_witness.proofs.Common.{sym, ◌∙◌, entry_at}
use Rattle.mr_witness.proofs.Chosen.{chosen_more, chosen_same}
use Rattle.mr_witness.proofs.shortening.chosen.Goals as goal
use Rattle.mr_witness.proofs.shortening.chosen.Goals.{then-is_chosen+in_ok-entry+in_ok-push, else-is_chosen}

pub loop-k-preserved : goal.loop-k-preserved
loop-k-preserved c =
    elim c.if-is_chosen.branch [
      | then-is_chosen+in_ok-entry+in_ok-push w ↦ rw (w.copies-is, w.in_ok-push.ensures.ok, w.in_ok-entry.ensures) (chosen_more (entry_at c.args.entries.now) _ c.loop-k.k c.loop-k.copies c.loop-k.invariant (sym c.is_chosen.ensures ∙ w.if-is_chosen.true))
      | else-is_chosen w ↦ rw w.copies-is (chosen_same (entry_at c.args.entries.now) _ c.loop-k.k c.loop-k.copies c.loop-k.invariant (sym c.is_chosen.ensures ∙ w.if-is_chosen.false))
    ]
