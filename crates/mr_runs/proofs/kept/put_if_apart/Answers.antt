use Rattle.mr_runs.proofs.Common.{sym, subst, Kept, Split, on_ok_weaker, bytes_of_piece, seen_piece, IsApart, IsChanged, IsSame, IsSound}
use Rattle.mr_runs.proofs.KeptLaws.{on_err_both, split_same}
use Rattle.mr_runs.proofs.kept.put_if_apart.Goals as goal

pub unreachable-requires : goal.unreachable-requires
unreachable-requires c = subst (λ (k : Kept). IsApart k) c.in-Whole.is c.requires.apart

pub put_apart-requires-clause-sound : goal.put_apart-requires-clause-sound
put_apart-requires-clause-sound c = subst (λ (k : Kept). IsSound k c.args.len) c.in-Split.is c.requires.sound

pub returns-clause-ok : goal.returns-clause-ok
returns-clause-ok c =
    on_ok_weaker c.put_apart.result
    (λ anew. subst (λ (k : Kept). IsChanged k (Split c.put_apart.new.marks c.put_apart.new.numbers) c.args.len c.args.from (bytes_of_piece (seen_piece c.args.piece))) (sym c.in-Split.is)
    (record { sound = anew.sound; bytes_are = anew.bytes_are }))
    c.put_apart.ensures.ok

pub returns-clause-err : goal.returns-clause-err
returns-clause-err c =
    on_err_both c.put_apart.result
    (λ marks numbers. subst (λ (k : Kept). IsSame k (Split c.put_apart.new.marks c.put_apart.new.numbers) c.args.len) (sym c.in-Split.is)
    (split_same (Split c.in-Split.marks c.in-Split.numbers) (Split c.put_apart.new.marks c.put_apart.new.numbers) c.args.len (subst (λ (k : Kept). IsSound k c.args.len) c.in-Split.is c.requires.sound) (marks, numbers)))
    c.put_apart.ensures.err_marks c.put_apart.ensures.err_numbers
