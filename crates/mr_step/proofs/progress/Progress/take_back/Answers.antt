use Rattle.mr_step.proofs.Common.{◌∙◌, ap, arith, map, refl, sym, printed_of}
use Rattle.std.proofs.lemmas.List.{take-map}
use Rattle.mr_step.proofs.progress.Progress.take_back.Goals as goal

pub returns : goal.returns
returns c = record {
  output = ap (map printed_of) c.truncate.ensures.items ∙ sym (take-map printed_of c.args.prints c.args.self.now.output.items);
  completed = omega (arith, c.requires);
  verdict = refl;
}
