use Rattle.mr_rust_order.proofs.Common.{◌≡◌, List, ℕ, slice_index, ap, ◌∙◌, subst, arith, lt-ltb, ltb-true, thread_at, clock_at, IsJoin}
use Rattle.mr_rust_order.proofs.ChannelLaws.{thread_joined}
use Rattle.mr_rust_order.proofs.analysis.Analysis.orders.Goals as goal

pub receive_all-requires-clause-own : goal.receive_all-requires-clause-own
receive_all-requires-clause-own c =
    let threads = c.args.self.now.threads.items in
    let t = c.thread_at.result in
    thread_joined c.args.run.now c.args.j t threads c.new-clock.result c.receive.new.clock c.requires.tracks.threads c.thread_at.ensures c.new-clock.ensures
    (subst (λ (l : List (List ℕ)). IsJoin c.new-clock.result (clock_at l t) c.receive.new.clock) c.as_slice.ensures.value c.in_ok-receive.ensures)

pub returns : goal.returns
returns c =
    let before = c.in_ok-receive_all.ensures.before in
    let clock = c.receive_all.new.clock in
    let is : c.at.result ≡ slice_index clock (thread_at c.args.run.now c.args.i) = c.at.ensures ∙ ap (slice_index clock) c.thread_at-2.ensures in (
      λ e. let lt = ltb-true c.args.i c.at.result e in before.only c.args.i (omega (arith, lt, is)),
      λ h. let lt = before.all c.args.i h in lt-ltb c.args.i c.at.result (omega (arith, lt, is)),
    )
