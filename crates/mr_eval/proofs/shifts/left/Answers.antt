use Rattle.mr_eval.proofs.Common.{◌∙◌, sym}
use Rattle.mr_eval.proofs.IntegerLaws.{bits_for-times_pow}
use Rattle.mr_eval.proofs.Widths.{mod-128}
use Rattle.mr_eval.proofs.shifts.left.Goals as goal

pub returns : goal.returns
returns c = c.truncated.ensures ∙ mod-128 c.args.t _ ∙ sym (bits_for-times_pow c.args.t c.args.a c.args.amount)
