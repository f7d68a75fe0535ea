use Rattle.mr_show.proofs.Common.{subst, ℕ, List, asked}
use Rattle.mr_io.specs.Counts.{Rose}
use Rattle.mr_input.specs.Writing.{IsWritten}
use Rattle.mr_input.specs.Inputs.{holding}
use Rattle.mr_show.specs.Outcome.{over_holding}
use Rattle.mr_show.proofs.EndLaws.{refused_ends, written_ends}
use Rattle.mr_show.proofs.obeyed.Goals as goal

pub returns-in-Ok-clause-ends : goal.returns-in-Ok-clause-ends
returns-in-Ok-clause-ends g c = λ contents told.
    let W : List ℕ → Type 0 = λ text.
    IsWritten (record { text = text; status = c.in-Ok.written.status })
    (Rose (g.O.Sink.faults c.args.out.now) (g.O.Sink.faults c.finish.new.out))
    (g.O.Sink.taken c.args.out.now) (g.O.Sink.taken c.finish.new.out) c.finish.result in
    written_ends contents _ _ _ _ _ (asked c.args.form) c.in-Ok.written (c.in-Ok.ensures.answer contents told)
    (subst W c.as_slice.ensures.value c.finish.ensures.written)

pub returns-in-Err-clause-ends : goal.returns-in-Err-clause-ends
returns-in-Err-clause-ends g c = λ contents told.
    refused_ends contents _ _ _ _ _ (asked c.args.form) c.in-Err.refusal (c.in-Err.ensures.answer contents told)
    c.refuse.ensures.told

pub returns-in-Ok-clause-untold : goal.returns-in-Ok-clause-untold
returns-in-Ok-clause-untold g c = λ untold.
    let texts = c.in-Ok.ensures.texts untold in
    let W : List ℕ → Type 0 = λ text.
    IsWritten (record { text = text; status = c.in-Ok.written.status })
    (Rose (g.O.Sink.faults c.args.out.now) (g.O.Sink.faults c.finish.new.out))
    (g.O.Sink.taken c.args.out.now) (g.O.Sink.taken c.finish.new.out) c.finish.result in (
      texts.0,
      texts.1,
      written_ends (holding texts.0 texts.1) _ _ _ _ _ (over_holding (asked c.args.form)) c.in-Ok.written texts.2
          (subst W c.as_slice.ensures.value c.finish.ensures.written),
    )

pub returns-in-Err-clause-untold : goal.returns-in-Err-clause-untold
returns-in-Err-clause-untold g c = λ untold.
    let texts = c.in-Err.ensures.texts untold in (
      texts.0,
      texts.1,
      refused_ends (holding texts.0 texts.1) _ _ _ _ _ (over_holding (asked c.args.form)) c.in-Err.refusal texts.2
          c.refuse.ensures.told,
    )
