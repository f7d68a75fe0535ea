use Rattle.mr_runs.proofs.Common.{sym, subst, IfOk-weaker, on_err_weaker, Kept, Whole, bytes_of_piece, seen_piece, IsChanged, IsSame, IsSound}
use Rattle.mr_runs.proofs.KeptLaws.{whole_changed, whole_same}
use Rattle.mr_runs.proofs.kept.put_if_whole.Goals as goal

pub put_whole-requires-clause-tiled : goal.put_whole-requires-clause-tiled
put_whole-requires-clause-tiled c = (subst (λ (k : Kept). IsSound k c.args.len) c.in-Whole.is c.requires.sound).0

pub put_whole-requires-clause-whole : goal.put_whole-requires-clause-whole
put_whole-requires-clause-whole c = (subst (λ (k : Kept). IsSound k c.args.len) c.in-Whole.is c.requires.sound).1

pub returns-in-Whole-clause-done : goal.returns-in-Whole-clause-done
returns-in-Whole-clause-done c =
    IfOk-weaker c.put_whole.result _ _
    (λ did h yes. subst (λ (k : Kept). IsChanged k (Whole c.put_whole.new.runs) c.args.len c.args.from (bytes_of_piece (seen_piece c.args.piece))) (sym c.in-Whole.is)
    (whole_changed c.in-Whole.runs c.put_whole.new.runs c.args.len c.args.from (bytes_of_piece (seen_piece c.args.piece)) (subst (λ (k : Kept). IsSound k c.args.len) c.in-Whole.is c.requires.sound) (h yes)))
    c.put_whole.ensures.done

pub returns-in-Whole-clause-not_done : goal.returns-in-Whole-clause-not_done
returns-in-Whole-clause-not_done c =
    IfOk-weaker c.put_whole.result _ _
    (λ did h no. subst (λ (k : Kept). IsSame k (Whole c.put_whole.new.runs) c.args.len) (sym c.in-Whole.is)
    (whole_same c.in-Whole.runs c.put_whole.new.runs c.args.len (subst (λ (k : Kept). IsSound k c.args.len) c.in-Whole.is c.requires.sound) (h no)))
    c.put_whole.ensures.not_done

pub returns-in-Whole-clause-err : goal.returns-in-Whole-clause-err
returns-in-Whole-clause-err c =
    on_err_weaker c.put_whole.result
    (λ e. subst (λ (k : Kept). IsSame k (Whole c.put_whole.new.runs) c.args.len) (sym c.in-Whole.is)
    (whole_same c.in-Whole.runs c.put_whole.new.runs c.args.len (subst (λ (k : Kept). IsSound k c.args.len) c.in-Whole.is c.requires.sound) e))
    c.put_whole.ensures.err
