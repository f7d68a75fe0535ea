use Rattle.mr_eval.proofs.Common.{◌∙◌, sym, ap₂, not}
use Rattle.mr_eval.proofs.IntegerLaws.{bits_for-product}
use Rattle.mr_eval.proofs.Widths.{mod-128}
use Rattle.mr_eval.proofs.arithmetic.product.Goals as goal

pub returns : goal.returns
returns c =
    ap₂ (λ bits fits. (bits, not fits)) (c.truncated-bits.ensures ∙ mod-128 c.args.t _ ∙ sym (bits_for-product c.args.t c.args.a c.args.b)) c.product_fits.ensures
