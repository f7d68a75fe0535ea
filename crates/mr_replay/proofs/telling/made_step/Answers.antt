use Rattle.mr_replay.proofs.Common.{◌≡◌, ◌∙◌, ap₂, sym, subst, ◌++◌, OnOk, Result, Ok, Err, Entry, step_rows, if_between}
use Rattle.std.specs.Prelude.{IfErr}
use Rattle.mr_run.specs.Runs.{EntryAnswer}
use Rattle.mr_step.specs.declared.fault.StepFault.{StepFault}
use Rattle.mr_step.specs.declared.fault.StepFault.TheVariants.{Memory}
use Rattle.mr_step.specs.Standing.{Standing}
use Rattle.mr_replay.specs.declared.telling.Before.{Before}
use Rattle.mr_replay.specs.Told.{told_between}
use Rattle.mr_replay.proofs.ToldLaws.{where_ok}
use Rattle.mr_replay.proofs.telling.made_step.Goals as goal

-- a step that was made is answered so, unless memory ran out behind it
answered : (e : Entry) (old new : Standing) (r : Result (Unit {0}) StepFault) → EntryAnswer e old new (Ok tt)
    → IfErr r (λ fault. fault ≡ Memory) → EntryAnswer e old new r
answered e old new (Ok u) made memory = made
answered e old new (Err f) made memory = subst (λ (x : StepFault). EntryAnswer e old new (Err x)) (sym memory) tt

-- what follows, where nothing failed
follows_ok : {X Y : Type 0} (r : Result (Unit {0}) StepFault) → OnOk r X → (X → Y) → OnOk r Y
follows_ok (Ok u) x f = f x
follows_ok (Err e) x f = tt

pub returns-in-Ok-clause-answer : goal.returns-in-Ok-clause-answer
returns-in-Ok-clause-answer g c =
    answered c.args.entry.now c.args.machine.now c.step.new.machine c.tell_behind.result c.in-Ok.ensures.answer
    c.tell_behind.ensures.memory

pub returns-in-Ok-clause-kept : goal.returns-in-Ok-clause-kept
returns-in-Ok-clause-kept g c = λ feet keeps. where_ok c.tell_behind.result (c.in-Ok.ensures.kept feet keeps)

pub returns-in-Ok-clause-rows : goal.returns-in-Ok-clause-rows
returns-in-Ok-clause-rows g c =
    follows_ok c.tell_behind.result c.tell_behind.ensures.rows
    (λ grown. grown
    ∙ ap₂ (λ (s : Standing) (b : Before). c.args.rows.now.items
    ++ step_rows c.args.p.now (told_between c.args.number s.config c.args.entry.now.thread b))
    c.in-Ok.ensures.answer.after c.requires.told)

pub returns-in-Ok-clause-told : goal.returns-in-Ok-clause-told
returns-in-Ok-clause-told g c =
    follows_ok c.tell_behind.result c.tell_behind.ensures.told
    (λ grown. grown
    ∙ ap₂ (λ (s : Standing) (b : Before). c.args.steps.now.items
    ++ if_between c.args.part (told_between c.args.number s.config c.args.entry.now.thread b))
    c.in-Ok.ensures.answer.after c.requires.told)
