use Rattle.mr_witness.proofs.Common.{ℕ, ◌≡◌, arith, refl, subst, both_ways, AreRivalsBelow}
use Rattle.mr_witness.proofs.Needed.{ends_all, more_rivals, no_rivals, same_rivals}
use Rattle.mr_witness.proofs.shortening.ends_of.Goals as goal
use Rattle.mr_witness.proofs.shortening.ends_of.Goals.{then-are_rivals+in_ok-push, else-are_rivals}

pub loop-k-init : goal.loop-k-init
loop-k-init c = no_rivals c.args.run.now c.args.j c.new-ends.result.items c.new-ends.ensures.items

pub loop-k-preserved : goal.loop-k-preserved
loop-k-preserved c =
    elim c.if-are_rivals.branch [
      | then-are_rivals+in_ok-push w ↦
          rw w.ends-is (more_rivals c.args.run.now c.args.j c.loop-k.ends.items w.push.new.self.items c.loop-k.k w.in_ok-push.ensures.items c.loop-k.invariant (c.are_rivals.ensures.0 w.if-are_rivals.true))
      | else-are_rivals w ↦
          rw w.ends-is (same_rivals c.args.run.now c.args.j c.loop-k.k c.loop-k.ends.items c.loop-k.invariant (λ r. both_ways _ w.if-are_rivals.false (c.are_rivals.ensures.1 r)))
    ]

pub returns : goal.returns
returns c =
    let all : c.loop-k.k ≡ c.args.j = (let x = c.loop-k-test.false in let y = c.loop-k.auto.k-end in omega (arith, x, y)) in
    ends_all c.args.run.now c.args.j c.loop-k.ends.items c.push-2.new.self.items c.args.j c.in_ok-push-2.ensures.items (subst (λ (n : ℕ). AreRivalsBelow c.args.run.now c.args.j n c.loop-k.ends.items) all c.loop-k.invariant) refl
