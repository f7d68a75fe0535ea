use Rattle.mr_wf.proofs.Common.{◌≡◌, drop, judged_items}
use Rattle.mr_wf.proofs.globals.judged_items.Given as goal

abbrev pub invariant-loop-item : goal.invariant-loop-item
invariant-loop-item l = judged_items l.sizes l.items ≡ judged_items l.sizes (drop l.item-index l.items)
