use Rattle.mr_value.proofs.Common.{sym, ap, ◌∙◌, is_ok}
use Rattle.mr_value.proofs.RefParts.{ref_align}
use Rattle.mr_value.proofs.scalars.scalar_at.Goals as goal

pub ref_at-requires-clause-some : goal.ref_at-requires-clause-some
ref_at-requires-clause-some c = ref_align c.in-Ref.size c.in-Ref.align c.in-Ref.never (sym (ap is_ok c.in-Ref.is) ∙ c.requires.ok)
