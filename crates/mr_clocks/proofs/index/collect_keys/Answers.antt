use Rattle.mr_clocks.proofs.Common.{ℕ, arith, IsExact, IsMarked, IsAsked, IsListed}
use Rattle.mr_clocks.proofs.MarkLaws.{any_default, keys_all, keys_more}
use Rattle.mr_clocks.proofs.index.collect_keys.Goals as goal

pub loop-i-init : goal.loop-i-init
loop-i-init c = record { kept = λ x t. t; all = λ d z x lt. absurd (omega (arith, lt)) }

pub loop-i-preserved : goal.loop-i-preserved
loop-i-preserved c =
    let shelves = c.args.index.now.shelves.items in
    let marks = c.args.index.now.marks.keys in
    let keys = c.args.keys.now in
    let asked = IsAsked c.args.step.now c.args.rows.now in
    let old = c.loop-i.found.items in
    let new = c.collect_key.new.found.items in
    record {
      kept = λ x t. c.in_ok-collect_key.ensures.kept x (c.loop-i.invariant.kept x t);
      all = keys_more shelves marks keys c.loop-i.i (λ x. asked x → IsListed old x) (λ x. asked x → IsListed new x)
          (λ d. any_default (λ k. IsExact k → (x : ℕ) → IsMarked shelves marks k x → asked x → IsListed new x) keys c.loop-i.i d _ c.loop-i-test.true c.in_ok-collect_key.ensures.all)
          (λ x here is. c.in_ok-collect_key.ensures.kept x (here is)) c.loop-i.invariant.all;
    }

pub returns-clause-all : goal.returns-clause-all
returns-clause-all c =
    keys_all c.args.index.now.shelves.items c.args.index.now.marks.keys c.args.keys.now c.loop-i.i
    (λ x. IsAsked c.args.step.now c.args.rows.now x → IsListed c.loop-i.found.items x) (omega arith) c.loop-i.invariant.all
