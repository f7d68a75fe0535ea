use Rattle.mr_runs.proofs.Common.{sym, subst, arith, Kept, Whole, IsChanged, IsSame, IsSound}
use Rattle.mr_runs.proofs.KeptLaws.{same_here, whole_changed, whole_same}
use Rattle.mr_runs.proofs.kept.bytes_in_place.Goals as goal

pub write_in_place-requires-clause-tiled : goal.write_in_place-requires-clause-tiled
write_in_place-requires-clause-tiled c = (subst (λ (k : Kept). IsSound k c.args.len) c.in-Whole.is c.requires.sound).0

pub write_in_place-requires-clause-inside : goal.write_in_place-requires-clause-inside
write_in_place-requires-clause-inside c = let whole = (subst (λ (k : Kept). IsSound k c.args.len) c.in-Whole.is c.requires.sound).1 in omega (arith, whole, c.requires.inside)

pub returns-in-Whole-clause-done : goal.returns-in-Whole-clause-done
returns-in-Whole-clause-done c = λ yes.
    subst (λ (k : Kept). IsChanged k (Whole c.write_in_place.new.runs) c.args.len c.args.from c.args.bytes.now) (sym c.in-Whole.is)
    (whole_changed c.in-Whole.runs c.write_in_place.new.runs c.args.len c.args.from c.args.bytes.now (subst (λ (k : Kept). IsSound k c.args.len) c.in-Whole.is c.requires.sound) (c.write_in_place.ensures.done yes))

pub returns-in-Whole-clause-not_done : goal.returns-in-Whole-clause-not_done
returns-in-Whole-clause-not_done c = λ no.
    subst (λ (k : Kept). IsSame k (Whole c.write_in_place.new.runs) c.args.len) (sym c.in-Whole.is)
    (whole_same c.in-Whole.runs c.write_in_place.new.runs c.args.len (subst (λ (k : Kept). IsSound k c.args.len) c.in-Whole.is c.requires.sound) (c.write_in_place.ensures.not_done no))

pub returns-in-Split-clause-not_done : goal.returns-in-Split-clause-not_done
returns-in-Split-clause-not_done c = λ no. same_here c.args.kept.now c.args.len c.requires.sound
