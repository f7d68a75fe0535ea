use Rattle.mr_start.proofs.Common.{subst, sym, HasRange}
use Rattle.mr_start.proofs.StartStores.{length_items}
use Rattle.mr_start.proofs.globals.fill_one.Goals as goal

pub store_items-requires : goal.store_items-requires
store_items-requires c =
    subst (HasRange c.args.memory.now c.args.p) (sym (length_items c.args.functions.now c.args.places.now c.as_slice-items.result.now))
    (c.has_room.ensures c.if-has_room.true)
