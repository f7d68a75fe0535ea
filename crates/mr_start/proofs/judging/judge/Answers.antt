use Rattle.mr_start.proofs.Common.{sym, ap, ◌∙◌, arith, get_or, Some, Address, address_among}
use Rattle.std.proofs.lemmas.Result.{err_from_is_err_and}
use Rattle.mr_start.specs.Judging.{fault_of}
use Rattle.mr_start.proofs.PickLaws.{address_passes, address_refused, no_pick_left, picks_left, waiter_passes}
use Rattle.mr_start.proofs.judging.judge.Goals as goal
use Rattle.mr_start.proofs.judging.judge.Goals.{in-Address+in_ok-judge_address-in-Address, in-Waiter+in_ok-judge_waiter-in-Waiter}

pub returns-then-i-picks : goal.returns-then-i-picks
returns-then-i-picks c =
    let a = c.args in
    no_pick_left a.sync.now.statuses a.memory.now a.thread a.count a.asks.now a.picks.now c.requires.uncounted c.loop-i.i (Address 0 0) c.loop-i.invariant.left c.loop-i-test.true c.if-i-picks.true
    ∙ ap Some (sym c.of.ensures)

pub returns-in_err-judge_address-in-Address : goal.returns-in_err-judge_address-in-Address
returns-in_err-judge_address-in-Address c =
    let a = c.args in
    let p = err_from_is_err_and c.from_residual.result c.from_residual.ensures.1 in
    rw (p.1, p.2)
    (address_refused a.sync.now.statuses a.memory.now a.thread a.count a.asks.now a.picks.now c.requires.uncounted c.loop-i.i (Address 0 0) c.loop-i.invariant.left c.loop-i-test.true c.if-i-picks.false
    c.in-Address.size c.in-Address.align c.in-Address.is (fault_of c.in_err-judge_address-in-Address.field-0.0)
    (ap (λ e. address_among a.memory.now e (get_or a.picks.now c.loop-i.i 0) c.in-Address.size c.in-Address.align) (sym c.first_shared-earlier.ensures) ∙ c.in_err-judge_address-in-Address.ensures))

pub loop-i-preserved : goal.loop-i-preserved
loop-i-preserved c =
    let a = c.args in
    elim c.match-ask.branch [
      | in-Address+in_ok-judge_address-in-Address w ↦ record {
        few = omega (arith, c.if-i-picks.false);
        left = address_passes a.sync.now.statuses a.memory.now a.thread a.count a.asks.now a.picks.now c.requires.uncounted c.loop-i.i (Address 0 0) c.loop-i.invariant.left c.loop-i-test.true c.if-i-picks.false
            w.in-Address.size w.in-Address.align w.in-Address.is
            (ap (λ e. address_among a.memory.now e (get_or a.picks.now c.loop-i.i 0) w.in-Address.size w.in-Address.align) (sym w.first_shared-earlier.ensures) ∙ w.in_ok-judge_address-in-Address.ensures);
      }
      | in-Waiter+in_ok-judge_waiter-in-Waiter w ↦ record {
        few = omega (arith, c.if-i-picks.false);
        left = waiter_passes a.sync.now.statuses a.memory.now a.thread a.count a.asks.now a.picks.now c.requires.uncounted c.loop-i.i (Address 0 0) c.loop-i.invariant.left c.loop-i-test.true c.if-i-picks.false
            w.in-Waiter.lock w.in-Waiter.is w.in_ok-judge_waiter-in-Waiter.ensures;
      }
    ]

pub returns-then-picks-asks : goal.returns-then-picks-asks
returns-then-picks-asks c =
    let a = c.args in
    picks_left a.sync.now.statuses a.memory.now a.thread a.count a.asks.now a.picks.now c.requires.uncounted c.loop-i.i (Address 0 0) c.loop-i.invariant.left (omega (arith, c.loop-i-test.false))
    (let more = c.if-picks-asks.true in let end = c.loop-i.auto.i-end in omega (arith, more, end)) ∙ ap Some (sym c.of-then-picks-asks.ensures)
