use Rattle.mr_eval.proofs.Common.{sym, ap, ◌∙◌, read, bytes_of_pieces}
use Rattle.mr_layout.specs.declared.cache.Layout.{Layout}
use Rattle.mr_eval.proofs.ScalarRuns.{scalar_lent, scalar_refused}
use Rattle.mr_eval.proofs.loading.load_sized.Goals as goal

pub returns-in-Ok-clause-given : goal.returns-in-Ok-clause-given
returns-in-Ok-clause-given c = λ s.
    scalar_lent c.args.m.now c.args.t.now c.args.p s (bytes_of_pieces c.in-Ok.view) c.scalar_in.result
    (ap (λ (l : Layout). read c.args.m.now c.args.p l.size l.align) (sym c.requires.layout) ∙ sym c.in-Ok.ensures.lent)
    c.scalar_in.ensures.given

pub returns-in-Err-clause-given : goal.returns-in-Err-clause-given
returns-in-Err-clause-given c = λ s.
    scalar_refused c.args.m.now c.args.t.now c.args.p s c.in-Err.reason
    (ap (λ (l : Layout). read c.args.m.now c.args.p l.size l.align) (sym c.requires.layout) ∙ sym c.in-Err.ensures.lent)
