use Rattle.mr_wf.proofs.Common.{ℕ, sym, ap, ◌∙◌, nat_le, ty_of}
use Rattle.mr_wf.proofs.IntrinsicLaws.{atomic_told}
use Rattle.mr_wf.proofs.intrinsics.is_atomic.Goals as goal

pub returns-in-Some : goal.returns-in-Some
returns-in-Some c = ap (λ (n : ℕ). nat_le n 8) c.int_bytes.ensures ∙ sym (atomic_told (ty_of c.args.t) c.in-Some.i (sym c.integer.ensures ∙ c.in-Some.is))
