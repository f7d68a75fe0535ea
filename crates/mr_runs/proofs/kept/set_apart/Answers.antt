use Rattle.mr_runs.proofs.Common.{◌∙◌, sym, ap, subst, Kept, IsSame, IsSound, entries_of, bytes_in}
use Rattle.mr_runs.proofs.KeptLaws.{same_here}
use Rattle.mr_runs.proofs.kept.set_apart.Goals as goal

pub apart_of-requires-clause-tiled : goal.apart_of-requires-clause-tiled
apart_of-requires-clause-tiled c = (subst (λ (k : Kept). IsSound k c.args.len) c.in-Whole.is c.requires).0

pub apart_of-requires-clause-whole : goal.apart_of-requires-clause-whole
apart_of-requires-clause-whole c = (subst (λ (k : Kept). IsSound k c.args.len) c.in-Whole.is c.requires).1

pub returns-in_ok-apart-in-Whole-clause-same : goal.returns-in_ok-apart-in-Whole-clause-same
returns-in_ok-apart-in-Whole-clause-same c = record {
  sound = c.in_ok-apart-in-Whole.ensures.sound;
  bytes_are = c.in_ok-apart-in-Whole.ensures.bytes_are ∙ ap (λ (k : Kept). bytes_in (entries_of k)) (sym c.in-Whole.is);
}

pub returns-in_err-apart-in-Whole-clause-same : goal.returns-in_err-apart-in-Whole-clause-same
returns-in_err-apart-in-Whole-clause-same c = subst (λ (k : Kept). IsSame c.args.kept.now k c.args.len) c.in-Whole.is (same_here c.args.kept.now c.args.len c.requires)

pub returns-in-Split-clause-same : goal.returns-in-Split-clause-same
returns-in-Split-clause-same c = same_here c.args.kept.now c.args.len c.requires
