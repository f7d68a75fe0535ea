use Rattle.mr_witness.proofs.Common.{◌∙◌, sym, subst, AreEnds}
use Rattle.mr_witness.proofs.Needed.{ends_within, marks_told}
use Rattle.mr_witness.proofs.shortening.marks_of.Goals as goal

pub needed-requires-clause-steps : goal.needed-requires-clause-steps
needed-requires-clause-steps c =
    ends_within c.args.run.now c.args.j c.as_slice.result.now (subst (AreEnds c.args.run.now c.args.j) (sym c.as_slice.ensures.value) c.in_ok-ends.ensures) c.requires

pub returns : goal.returns
returns c =
    marks_told c.args.run.now c.args.j c.as_slice.result.now c.in_ok-marks.marks.items (subst (AreEnds c.args.run.now c.args.j) (sym c.as_slice.ensures.value) c.in_ok-ends.ensures) (sym c.in_ok-marks.marks.ok.0 ∙ c.in_ok-marks.ensures.length) c.in_ok-marks.ensures.each
