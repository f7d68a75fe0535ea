use Rattle.mr_show.proofs.Common.{arith, inl, inr, subst, Option, Some, Form, asked, Ends}
use Rattle.mr_io.specs.Counts.{Rose}
use Rattle.mr_show.specs.Outcome.{EndsOverTexts}
use Rattle.mr_show.specs.Unread.{IsUnreadBecause}
use Rattle.mr_show.proofs.UnreadLaws.{unread_because}
use Rattle.mr_show.proofs.mirace_show.Goals as goal

pub returns-in-Some-clause-ends : goal.returns-in-Some-clause-ends
returns-in-Some-clause-ends g c = λ contents told.
    let E : Option Form → Type 0 = λ form.
    Ends contents form (Rose (g.F.Files.faults c.args.files.now) (g.F.Files.faults c.obeyed.new.files))
    (Rose (g.O.Sink.faults c.args.out.now) (g.O.Sink.faults c.obeyed.new.out))
    (g.O.Sink.taken c.args.out.now) (g.O.Sink.taken c.obeyed.new.out) c.obeyed.result in
    subst E c.in-Some.ensures (c.obeyed.ensures.ends contents told)

pub returns-in-Some-clause-untold : goal.returns-in-Some-clause-untold
returns-in-Some-clause-untold g c = λ untold.
    let E : Option Form → Type 0 = λ form.
    EndsOverTexts form (Rose (g.F.Files.faults c.args.files.now) (g.F.Files.faults c.obeyed.new.files))
    (Rose (g.O.Sink.faults c.args.out.now) (g.O.Sink.faults c.obeyed.new.out))
    (g.O.Sink.taken c.args.out.now) (g.O.Sink.taken c.obeyed.new.out) c.obeyed.result in
    subst E c.in-Some.ensures (c.obeyed.ensures.untold untold)

pub returns-in-None-clause-read_fault : goal.returns-in-None-clause-read_fault
returns-in-None-clause-read_fault g c = λ six.
    elim c.finish.ensures.bounded [
      | inl two ↦ absurd (omega (arith, two, six))
      | inr seven ↦ absurd (omega (arith, seven, six))
    ]

pub returns-in-Some-clause-read_fault : goal.returns-in-Some-clause-read_fault
returns-in-Some-clause-read_fault g c = λ six.
    let told = g.F.Files.told c.args.files.now in
    let E : Option Form → Type 0 = λ form.
    IsUnreadBecause (Rose (g.F.Files.faults c.args.files.now) (g.F.Files.faults c.obeyed.new.files)) told form in
    subst E c.in-Some.ensures
    (unread_because _ _ _ _ _ six (Some (asked c.in-Some.form)) told (λ untold. c.obeyed.ensures.read_fault untold six)
    c.obeyed.ensures.ends)
