use Rattle.mr_rust_order.proofs.Common.{arith, mark_of}
use Rattle.mr_rust_order.proofs.MarkLaws.{marked_new, marks_kept}
use Rattle.mr_rust_order.proofs.index.mark_row.Goals as goal

pub returns-clause-kept : goal.returns-clause-kept
returns-clause-kept c = marks_kept c.args.index.now.marks.keys c.insert.new.self.keys (mark_of c.args.shelf c.args.range.addr c.args.thread c.args.row) c.in_ok-insert.ensures.updates.0

pub returns-clause-marked : goal.returns-clause-marked
returns-clause-marked c =
    marked_new c.args.index.now.shelves.items c.insert.new.self.keys c.args.range c.args.row c.args.thread c.args.shelf (omega arith) (omega arith) c.requires
    c.in_ok-insert.ensures.updates.1
