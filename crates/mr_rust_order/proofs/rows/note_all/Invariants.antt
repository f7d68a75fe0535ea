use Rattle.mr_rust_order.proofs.Common.{take, AreMarked, AreNoted}
use Rattle.mr_rust_order.proofs.rows.note_all.Given as goal

abbrev pub invariant-loop-y : goal.invariant-loop-y
invariant-loop-y l =
    record {
      marked : AreMarked l.index.shelves.items l.index.marks.keys l.rows.items;
      noted : AreNoted l.initial.rows.items (take l.y l.accesses) l.step.thread l.j l.clock l.rows.items;
    }
