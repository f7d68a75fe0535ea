use Rattle.mr_clocks.proofs.Common.{◌≡◌, ℕ, ◌<◌, true, length, subst, sym, arith, ℕ_discrete, asks, IsListed, row_at}
use Rattle.mr_clocks.specs.Rows.{IsOwn}
use Rattle.mr_clocks.proofs.memos.add_others.Goals as goal

pub loop-x-init : goal.loop-x-init
loop-x-init c = record { kept = λ z t. t; here = λ y low less. absurd (omega (arith, low, less)) }

pub returns-in_err-add_asked-clause-kept : goal.returns-in_err-add_asked-clause-kept
returns-in_err-add_asked-clause-kept c = λ z t. c.add_asked.ensures.kept z (c.loop-x.invariant.kept z t)

pub loop-x-preserved : goal.loop-x-preserved
loop-x-preserved c =
    let i = c.loop-x.invariant in
    let rows = c.args.rows.now in
    let step = c.args.step.now in
    let new = c.add_asked.new.found.items in
    record {
      kept = λ z t. c.add_asked.ensures.kept z (i.kept z t);
      here = λ y low less. elim (ℕ_discrete y c.loop-x.x) [
        | yes is ↦
            subst (λ (q : ℕ). q < length rows → (IsOwn (row_at rows q) step.thread → ⊥) → asks step (row_at rows q).key ≡ true → IsListed new q) (sym is)
            (λ inside apart it_asks. c.in_ok-add_asked.ensures.here (record { within = inside; apart = apart; asked = it_asks }))
        | no ne ↦ λ inside apart it_asks. c.add_asked.ensures.kept y (i.here y low (omega (arith, less, ne)) inside apart it_asks)
      ];
    }

pub returns-clause-kept : goal.returns-clause-kept
returns-clause-kept c = c.loop-x.invariant.kept

pub returns-clause-here : goal.returns-clause-here
returns-clause-here c = λ x low inside. c.loop-x.invariant.here x low (omega (arith, inside, c.loop-x-test.false)) inside
