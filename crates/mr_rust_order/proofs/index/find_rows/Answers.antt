use Rattle.mr_rust_order.proofs.Common.{◌≡◌, true, arith, Access, conflicts, IsListed}
use Rattle.mr_rust_order.proofs.MarkLaws.{range_all, range_more}
use Rattle.mr_rust_order.proofs.index.find_rows.Goals as goal

pub loop-s-init : goal.loop-s-init
loop-s-init c = λ z r t x lt. absurd (omega (arith, lt))

pub loop-s-preserved : goal.loop-s-preserved
loop-s-preserved c =
    let old = c.loop-s.found.items in
    let new = c.collect_shelf.new.found.items in
    range_more c.args.index.now.shelves.items c.args.index.now.marks.keys (λ (r : Access). conflicts r c.args.access ≡ true) c.loop-s.s
    (λ x. IsListed old x) (λ x. IsListed new x)
    c.in_ok-collect_shelf.ensures.all (λ x here. c.in_ok-collect_shelf.ensures.kept x here) c.loop-s.invariant

pub returns : goal.returns
returns c =
    range_all c.args.index.now.shelves.items c.args.index.now.marks.keys (λ (r : Access). conflicts r c.args.access ≡ true) c.loop-s.s
    (λ x. IsListed c.loop-s.found.items x) (omega arith) c.loop-s.invariant
