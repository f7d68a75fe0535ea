use Rattle.mr_witness.proofs.Common.{◌≡◌, length, sym, ◌∙◌, ap, arith, filter, places, left_of, is_ready}
use Rattle.mr_witness.proofs.Boards.{chosen_more, chosen_same}
use Rattle.mr_witness.proofs.placing.ready_of.Goals as goal
use Rattle.mr_witness.proofs.placing.ready_of.Goals.{then-opened+in_ok-push, else-opened}

pub loop-thread-preserved : goal.loop-thread-preserved
loop-thread-preserved c =
    elim c.if-opened.branch [
      | then-opened+in_ok-push w ↦
          ap (λ v. v.items) w.ready-is
          ∙ chosen_more (is_ready c.args.run.now (left_of c.args.run.now c.args.fronts.now)) c.loop-thread.thread c.loop-thread.ready.items w.push.new.self.items c.loop-thread.invariant (sym c.in_ok-opened.ensures ∙ w.if-opened.true) w.in_ok-push.ensures.items
      | else-opened w ↦
          ap (λ v. v.items) w.ready-is
          ∙ chosen_same (is_ready c.args.run.now (left_of c.args.run.now c.args.fronts.now)) c.loop-thread.thread c.loop-thread.ready.items c.loop-thread.invariant (sym c.in_ok-opened.ensures ∙ w.if-opened.false)
    ]

pub returns : goal.returns
returns c =
    let all : c.loop-thread.thread ≡ length c.args.fronts.now = (let x = c.loop-thread-test.false in let y = c.loop-thread.auto.thread-end in omega (arith, x, y)) in
    c.loop-thread.invariant ∙ ap (λ n. filter (is_ready c.args.run.now (left_of c.args.run.now c.args.fronts.now)) (places n)) (all ∙ c.requires.fronts.threads)
