use Rattle.mr_runs.proofs.Common.{sym, subst, Kept, Split, on_ok_weaker, IsApart, IsChanged, IsSame, IsSound}
use Rattle.mr_runs.proofs.KeptLaws.{on_err_both, split_same}
use Rattle.mr_runs.proofs.kept.mixed_if_apart.Goals as goal

pub unreachable-requires : goal.unreachable-requires
unreachable-requires c = subst (λ (k : Kept). IsApart k) c.in-Whole.is c.requires.apart

pub mixed_apart-requires-clause-sound : goal.mixed_apart-requires-clause-sound
mixed_apart-requires-clause-sound c = subst (λ (k : Kept). IsSound k c.args.len) c.in-Split.is c.requires.sound

pub returns-clause-ok : goal.returns-clause-ok
returns-clause-ok c =
    on_ok_weaker c.mixed_apart.result
    (λ anew. subst (λ (k : Kept). IsChanged k (Split c.mixed_apart.new.marks c.mixed_apart.new.numbers) c.args.len c.args.from c.args.bytes.now) (sym c.in-Split.is)
    (record { sound = anew.sound; bytes_are = anew.bytes_are }))
    c.mixed_apart.ensures.ok

pub returns-clause-err : goal.returns-clause-err
returns-clause-err c =
    on_err_both c.mixed_apart.result
    (λ marks numbers. subst (λ (k : Kept). IsSame k (Split c.mixed_apart.new.marks c.mixed_apart.new.numbers) c.args.len) (sym c.in-Split.is)
    (split_same (Split c.in-Split.marks c.in-Split.numbers) (Split c.mixed_apart.new.marks c.mixed_apart.new.numbers) c.args.len (subst (λ (k : Kept). IsSound k c.args.len) c.in-Split.is c.requires.sound) (marks, numbers)))
    c.mixed_apart.ensures.err_marks c.mixed_apart.ensures.err_numbers
