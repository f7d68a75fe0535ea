use Rattle.mr_command.proofs.Common.{ap, subst, ℕ, List, Err, Option, Rose, asked, IsRefusedOrLeft, IsWritten, holding}
use Rattle.mr_command.specs.Outcome.{over_holding}
use Rattle.mr_command.proofs.EndLaws.{program_unread, refused_ends, written_ends}
use Rattle.mr_command.proofs.TraceRuns.{shows_refused, shows_written}
use Rattle.mr_command.proofs.GlobalObeys.obey.Goals as goal

pub returns-in-Ok-clause-ends : goal.returns-in-Ok-clause-ends
returns-in-Ok-clause-ends g c = λ contents told.
    let W : List ℕ → Type 0 = λ text.
    IsWritten (record { text = text; status = c.in-Ok.written.status }) (Rose (g.O.Sink.faults c.args.out.now) (g.O.Sink.faults c.finish.new.out))
    (g.O.Sink.taken c.args.out.now) (g.O.Sink.taken c.finish.new.out) c.finish.result in
    written_ends contents _ _ _ _ _ (asked c.args.command) c.in-Ok.written (c.in-Ok.ensures.answer contents told)
    (subst W c.as_slice.ensures.value c.finish.ensures.written)

pub returns-in-Err-clause-ends : goal.returns-in-Err-clause-ends
returns-in-Err-clause-ends g c = λ contents told.
    refused_ends contents _ _ _ _ _ (asked c.args.command) c.in-Err.refusal (c.in-Err.ensures.answer contents told) c.refuse.ensures.told

pub returns-in-Err-clause-first : goal.returns-in-Err-clause-first
returns-in-Err-clause-first g c = λ taken six old new.
    let R : Option (List ℕ) → Type 0 = λ before.
    IsRefusedOrLeft c.in-Err.refusal (Rose (g.O.Sink.faults c.args.out.now) (g.O.Sink.faults c.refuse.new.out)) before (g.O.Sink.taken c.refuse.new.out)
    c.refuse.result in
    c.in-Err.ensures.first (ap Err (program_unread _ taken _ _ six new c.in-Err.refusal (subst R old c.refuse.ensures.told)))

pub returns-in-Ok-clause-texts : goal.returns-in-Ok-clause-texts
returns-in-Ok-clause-texts g c = λ untold.
    let texts = c.in-Ok.ensures.texts untold in
    let W : List ℕ → Type 0 = λ text.
    IsWritten (record { text = text; status = c.in-Ok.written.status }) (Rose (g.O.Sink.faults c.args.out.now) (g.O.Sink.faults c.finish.new.out))
    (g.O.Sink.taken c.args.out.now) (g.O.Sink.taken c.finish.new.out) c.finish.result in (
      texts.0,
      texts.1,
      written_ends (holding texts.0 texts.1) _ _ _ _ _ (over_holding (asked c.args.command)) c.in-Ok.written texts.2
          (subst W c.as_slice.ensures.value c.finish.ensures.written),
    )

pub returns-in-Err-clause-texts : goal.returns-in-Err-clause-texts
returns-in-Err-clause-texts g c = λ untold.
    let texts = c.in-Err.ensures.texts untold in (
      texts.0,
      texts.1,
      refused_ends (holding texts.0 texts.1) _ _ _ _ _ (over_holding (asked c.args.command)) c.in-Err.refusal texts.2 c.refuse.ensures.told,
    )

pub returns-in-Ok-clause-shows : goal.returns-in-Ok-clause-shows
returns-in-Ok-clause-shows g c = λ contents told. shows_written contents (asked c.args.command) c.in-Ok.written _ (c.in-Ok.ensures.shows contents told)

pub returns-in-Err-clause-shows : goal.returns-in-Err-clause-shows
returns-in-Err-clause-shows g c = λ contents told.
    shows_refused _ _ _ _ contents (asked c.args.command) c.in-Err.refusal (c.in-Err.ensures.shows contents told) c.refuse.ensures.told
