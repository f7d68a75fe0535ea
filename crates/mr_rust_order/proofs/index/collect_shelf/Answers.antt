use Rattle.mr_rust_order.proofs.Common.{IsListed}
use Rattle.mr_rust_order.proofs.MarkLaws.{none_found, shelf_found, shelf_read}
use Rattle.mr_rust_order.proofs.index.collect_shelf.Goals as goal

pub returns-clause-all : goal.returns-clause-all
returns-clause-all c =
    let shelves = c.args.index.now.shelves.items in
    let shelf = c.index-shelf.result.now in
    shelf_found shelves c.args.index.now.marks.keys c.args.access c.args.s c.saturating_sub-low.result c.saturating_add-high.result shelf
    (λ x. IsListed c.collect.new.found.items x)
    (shelf_read shelves c.args.s shelf c.requires c.index-shelf.ensures) c.saturating_sub-low.ensures c.saturating_add-high.ensures c.in_ok-collect.ensures.all

pub returns-then-not-may_conflict-clause-all : goal.returns-then-not-may_conflict-clause-all
returns-then-not-may_conflict-clause-all c =
    let shelves = c.args.index.now.shelves.items in
    let shelf = c.index-shelf.result.now in
    none_found shelves c.args.index.now.marks.keys c.args.access c.args.s shelf (λ x. IsListed c.args.found.now.items x)
    (shelf_read shelves c.args.s shelf c.requires c.index-shelf.ensures) (c.may_conflict.ensures.load c.if-not-may_conflict.true) (c.may_conflict.ensures.loads c.if-not-may_conflict.true)
