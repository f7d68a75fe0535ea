use Rattle.mr_typing.proofs.Common.{◌≡◌, ◌*◌, ◌^◌, drop}
use Rattle.std.proofs.Common.{◌+◌, ◌≤◌}
use Rattle.mr_typing.specs.Broken.{items_size}
use Rattle.mr_typing.proofs.globals.items_size.Given as goal

abbrev pub invariant-loop-item : goal.invariant-loop-item
invariant-loop-item l = record {
  sum : l.size + items_size (drop l.item-index l.items) ≡ items_size l.items;
  small : l.size ≤ l.item-index * 2 ^ 32;
}
