use Rattle.mr_start.proofs.Common.{◌≡◌, take, global_bytes}
use Rattle.mr_start.proofs.globals.global_bytes.Given as goal

abbrev pub invariant-loop-item : goal.invariant-loop-item
invariant-loop-item l = l.bytes.items ≡ global_bytes l.functions l.globals (take l.item-index l.items)
