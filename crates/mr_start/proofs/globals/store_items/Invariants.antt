use Rattle.mr_start.proofs.Common.{◌≡◌, drop, length, written, HasRange, global_bytes}
use Rattle.mr_start.proofs.globals.store_items.Given as goal

abbrev pub invariant-loop-item : goal.invariant-loop-item
invariant-loop-item l =
    HasRange l.memory l.at (length (global_bytes l.functions l.globals (drop l.item-index l.items)))
    × (written l.fn.memory l.fn.p (global_bytes l.functions l.globals l.items) 1
    ≡ written l.memory l.at (global_bytes l.functions l.globals (drop l.item-index l.items)) 1)
