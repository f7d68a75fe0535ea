use Rattle.mr_run.proofs.Common.{◌++◌, ◌∙◌, List, append-nil, subst, sym, Footprint}
use Rattle.mr_run.proofs.EntryLaws.{last_left, last_there, made_by, none_left, refused_by}
use Rattle.mr_run.proofs.running.step.Goals as goal

pub returns-in-Err-clause-answer : goal.returns-in-Err-clause-answer
returns-in-Err-clause-answer g c = refused_by c.args.entry.now c.args.machine.now c.go.new.self c.in-Err.fault c.requires.working c.in-Err.ensures

pub returns-then-completed-before-clause-answer : goal.returns-then-completed-before-clause-answer
returns-then-completed-before-clause-answer g c = made_by c.args.entry.now c.args.machine.now c.go.new.self _ c.in-Ok.ensures

pub returns-then-completed-before-clause-kept : goal.returns-then-completed-before-clause-kept
returns-then-completed-before-clause-kept g c = λ steps keeps.
    let none = none_left c.args.entry.now c.args.machine.now c.go.new.self _ c.in-Ok.ensures (sym c.completed.ensures ∙ c.if-completed-before.true ∙ c.completed-before.ensures) in
    subst (λ (fs : List Footprint). g.R.Record.keeps c.args.kept.now (steps ++ fs)) (sym none)
    (subst (λ (fs : List Footprint). g.R.Record.keeps c.args.kept.now fs) (sym (append-nil steps)) keeps)

pub keep-requires : goal.keep-requires
keep-requires g c = c.requires.room

pub unreachable-requires : goal.unreachable-requires
unreachable-requires g c =
    last_there c.args.entry.now c.args.machine.now c.go.new.self _ c.in-Ok.ensures
    (λ same. c.if-completed-before.false (c.completed.ensures ∙ same ∙ sym c.completed-before.ensures)) (sym c.in-None.ensures)

pub returns-in-Ok-keep-clause-answer : goal.returns-in-Ok-keep-clause-answer
returns-in-Ok-keep-clause-answer g c = made_by c.args.entry.now c.args.machine.now c.go.new.self _ c.in-Ok.ensures

pub returns-in-Ok-keep-clause-kept : goal.returns-in-Ok-keep-clause-kept
returns-in-Ok-keep-clause-kept g c = λ steps keeps.
    let one = last_left c.args.entry.now c.args.machine.now c.go.new.self _ c.in-Ok.ensures
    (λ same. c.if-completed-before.false (c.completed.ensures ∙ same ∙ sym c.completed-before.ensures)) c.in-Some.foot.now (sym c.in-Some.ensures) in
    subst (λ (fs : List Footprint). g.R.Record.keeps c.keep.new.self (steps ++ fs)) (sym one) (c.in-Ok-keep.ensures.ok steps keeps)

pub returns-in-Err-keep-clause-err : goal.returns-in-Err-keep-clause-err
returns-in-Err-keep-clause-err g c = λ steps keeps. c.in-Err-keep.ensures.err steps keeps
