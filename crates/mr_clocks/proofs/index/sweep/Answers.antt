use Rattle.mr_clocks.proofs.Common.{◌≡◌, true, arith, list_any, Access, conflicts, IsAsked, IsListed}
use Rattle.mr_clocks.proofs.MarkLaws.{range_all, range_more}
use Rattle.mr_clocks.proofs.index.sweep.Goals as goal

pub loop-s-init : goal.loop-s-init
loop-s-init c = record { kept = λ x t. t; all = λ z r t x lt. absurd (omega (arith, lt)) }

pub loop-s-preserved : goal.loop-s-preserved
loop-s-preserved c =
    let asked = IsAsked c.args.step.now c.args.rows.now in
    let old = c.loop-s.found.items in
    let new = c.sweep_shelf.new.found.items in
    record {
      kept = λ x t. c.in_ok-sweep_shelf.ensures.kept x (c.loop-s.invariant.kept x t);
      all = range_more c.args.index.now.shelves.items c.args.index.now.marks.keys (λ (r : Access). list_any (conflicts r) c.args.step.now.accesses ≡ true) c.loop-s.s
          (λ x. asked x → IsListed old x) (λ x. asked x → IsListed new x)
          c.in_ok-sweep_shelf.ensures.all (λ x here is. c.in_ok-sweep_shelf.ensures.kept x (here is)) c.loop-s.invariant.all;
    }

pub returns-clause-all : goal.returns-clause-all
returns-clause-all c =
    range_all c.args.index.now.shelves.items c.args.index.now.marks.keys (λ (r : Access). list_any (conflicts r) c.args.step.now.accesses ≡ true) c.loop-s.s
    (λ x. IsAsked c.args.step.now c.args.rows.now x → IsListed c.loop-s.found.items x) (omega arith) c.loop-s.invariant.all
