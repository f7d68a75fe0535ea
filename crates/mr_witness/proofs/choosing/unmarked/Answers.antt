use Rattle.mr_witness.proofs.Common.{sym, ◌∙◌, refl, not, ◌&&◌, false, ◌==◌, slice_index_or, entry_at}
use Rattle.mr_witness.proofs.Chosen.{chosen_more, chosen_same}
use Rattle.mr_witness.proofs.choosing.unmarked.Goals as goal
use Rattle.mr_witness.proofs.choosing.unmarked.Goals.{then-is_kept+in_ok-entry+in_ok-push, else-is_kept}

pub loop-k-preserved : goal.loop-k-preserved
loop-k-preserved c =
    elim c.if-is_kept.branch [
      | then-is_kept+in_ok-entry+in_ok-push w ↦ rw (w.chosen-is, w.in_ok-push.ensures.ok, w.in_ok-entry.ensures) (chosen_more (entry_at c.args.entries.now) _ c.loop-k.k c.loop-k.chosen c.loop-k.invariant (sym c.is_kept.ensures ∙ w.if-is_kept.true))
      | else-is_kept w ↦ rw w.chosen-is (chosen_same (entry_at c.args.entries.now) _ c.loop-k.k c.loop-k.chosen c.loop-k.invariant (sym c.is_kept.ensures ∙ w.if-is_kept.false))
    ]
