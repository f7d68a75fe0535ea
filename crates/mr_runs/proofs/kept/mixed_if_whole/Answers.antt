use Rattle.mr_runs.proofs.Common.{sym, subst, IfOk-weaker, on_err_weaker, Kept, Whole, IsChanged, IsSame, IsSound}
use Rattle.mr_runs.proofs.KeptLaws.{whole_changed, whole_same}
use Rattle.mr_runs.proofs.kept.mixed_if_whole.Goals as goal

pub mixed_whole-requires-clause-tiled : goal.mixed_whole-requires-clause-tiled
mixed_whole-requires-clause-tiled c = (subst (λ (k : Kept). IsSound k c.args.len) c.in-Whole.is c.requires.sound).0

pub mixed_whole-requires-clause-whole : goal.mixed_whole-requires-clause-whole
mixed_whole-requires-clause-whole c = (subst (λ (k : Kept). IsSound k c.args.len) c.in-Whole.is c.requires.sound).1

pub returns-in-Whole-clause-done : goal.returns-in-Whole-clause-done
returns-in-Whole-clause-done c =
    IfOk-weaker c.mixed_whole.result _ _
    (λ did h yes. subst (λ (k : Kept). IsChanged k (Whole c.mixed_whole.new.runs) c.args.len c.args.from c.args.bytes.now) (sym c.in-Whole.is)
    (whole_changed c.in-Whole.runs c.mixed_whole.new.runs c.args.len c.args.from c.args.bytes.now (subst (λ (k : Kept). IsSound k c.args.len) c.in-Whole.is c.requires.sound) (h yes)))
    c.mixed_whole.ensures.done

pub returns-in-Whole-clause-not_done : goal.returns-in-Whole-clause-not_done
returns-in-Whole-clause-not_done c =
    IfOk-weaker c.mixed_whole.result _ _
    (λ did h no. subst (λ (k : Kept). IsSame k (Whole c.mixed_whole.new.runs) c.args.len) (sym c.in-Whole.is)
    (whole_same c.in-Whole.runs c.mixed_whole.new.runs c.args.len (subst (λ (k : Kept). IsSound k c.args.len) c.in-Whole.is c.requires.sound) (h no)))
    c.mixed_whole.ensures.not_done

pub returns-in-Whole-clause-err : goal.returns-in-Whole-clause-err
returns-in-Whole-clause-err c =
    on_err_weaker c.mixed_whole.result
    (λ e. subst (λ (k : Kept). IsSame k (Whole c.mixed_whole.new.runs) c.args.len) (sym c.in-Whole.is)
    (whole_same c.in-Whole.runs c.mixed_whole.new.runs c.args.len (subst (λ (k : Kept). IsSound k c.args.len) c.in-Whole.is c.requires.sound) e))
    c.mixed_whole.ensures.err
