use Rattle.mr_picture.proofs.Common.{◌≡◌, ◌-◌, ◌∙◌, ap, arith, filter, range_with_len, takes_one}
use Rattle.mr_picture.proofs.Turns.{joins_tested}
use Rattle.mr_picture.proofs.scene.threads_of.Goals as goal

pub loop-thread-preserved : goal.loop-thread-preserved
loop-thread-preserved c = record {
  few = omega (arith, c.loop-thread-test.true);
  made =
      joins_tested (takes_one c.args.steps.now) c.loop-thread.threads.items c.push_if.new.threads.items 0
      c.loop-thread.thread c.takes_one.result (omega arith) c.takes_one.ensures c.loop-thread.invariant.made
      c.in_ok-push_if.ensures;
}

pub returns : goal.returns
returns c =
    let all : c.loop-thread.thread - 0 ≡ 1024 = omega (arith, c.loop-thread.invariant.few, c.loop-thread-test.false) in
    c.loop-thread.invariant.made ∙ ap (λ n. filter (takes_one c.args.steps.now) (range_with_len 0 n)) all
