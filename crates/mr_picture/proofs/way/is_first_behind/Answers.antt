use Rattle.mr_picture.proofs.Common.{◌+◌, ◌∙◌, ap, sym, arith, eq-eqb, ne_eqb, ◌==◌, not, thread_at}
use Rattle.mr_picture.proofs.Turns.{none_passes, one_passes}
use Rattle.mr_picture.proofs.way.is_first_behind.Goals as goal

pub returns-then-thread_at : goal.returns-then-thread_at
returns-then-thread_at c =
    let run = c.args.run.now in
    sym (ap not (one_passes (λ k. thread_at run k == thread_at run c.args.j) (c.args.i + 1) c.loop-k.k c.args.j
    c.loop-k.invariant.from c.loop-k-test.true
    (eq-eqb (thread_at run c.loop-k.k) (thread_at run c.args.j)
    (sym c.thread_at.ensures ∙ c.if-thread_at.true ∙ c.thread_at-in-loop-k.ensures))))

pub loop-k-preserved : goal.loop-k-preserved
loop-k-preserved c =
    let run = c.args.run.now in record {
      from = omega (arith, c.loop-k.invariant.from);
      none =
          none_passes (λ k. thread_at run k == thread_at run c.args.j) (c.args.i + 1) c.loop-k.k c.loop-k.invariant.from
          c.loop-k.invariant.none
          (ne_eqb (thread_at run c.loop-k.k) (thread_at run c.args.j)
          (λ same. c.if-thread_at.false (c.thread_at.ensures ∙ same ∙ sym c.thread_at-in-loop-k.ensures)));
    }
