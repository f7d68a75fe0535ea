use Rattle.mr_command.proofs.Common.{subst, sym, Option, Rose, Command, NamesProgram, Ends, EndsOverTexts, Shown}
use Rattle.mr_command.proofs.served.Goals as goal

pub returns-in-Some-clause-ends : goal.returns-in-Some-clause-ends
returns-in-Some-clause-ends g c = λ contents told.
    let E : Option Command → Type 0 = λ command.
    Ends contents command (Rose (g.F.Files.faults c.args.files.now) (g.F.Files.faults c.obey.new.files))
    (Rose (g.O.Sink.faults c.args.out.now) (g.O.Sink.faults c.obey.new.out)) (g.O.Sink.taken c.args.out.now) (g.O.Sink.taken c.obey.new.out) c.obey.result in
    subst E c.in-Some.ensures.command (c.obey.ensures.ends contents told)

pub returns-in-Some-clause-texts : goal.returns-in-Some-clause-texts
returns-in-Some-clause-texts g c = λ untold.
    let E : Option Command → Type 0 = λ command.
    EndsOverTexts command (Rose (g.F.Files.faults c.args.files.now) (g.F.Files.faults c.obey.new.files))
    (Rose (g.O.Sink.faults c.args.out.now) (g.O.Sink.faults c.obey.new.out)) (g.O.Sink.taken c.args.out.now) (g.O.Sink.taken c.obey.new.out) c.obey.result in
    subst E c.in-Some.ensures.command (c.obey.ensures.texts untold)

pub returns-in-Some-clause-once : goal.returns-in-Some-clause-once
returns-in-Some-clause-once g c = λ contents program told names silent.
    let N : Option Command → Type 0 = λ command. NamesProgram command program in
    c.obey.ensures.once contents program told (subst N (sym c.in-Some.ensures.command) names) silent

pub returns-in-Some-clause-shown : goal.returns-in-Some-clause-shown
returns-in-Some-clause-shown g c = λ contents told.
    let S : Option Command → Type 0 = λ command. Shown contents command c.obey.result in
    subst S c.in-Some.ensures.command (c.obey.ensures.shows contents told)
