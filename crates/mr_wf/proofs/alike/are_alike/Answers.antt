use Rattle.mr_wf.proofs.Common.{sym, subst, Value, AlikeValues}
use Rattle.mr_wf.proofs.ListedLaws.{loads_alike}
use Rattle.mr_wf.proofs.alike.are_alike.Goals as goal

pub returns-in-Load : goal.returns-in-Load
returns-in-Load c told =
    subst (λ (v : Value). AlikeValues c.args.list.now v c.args.other.now) (sym c.in-Load.is) (loads_alike c.args.list.now c.in-Load.from c.args.other.now (c.is_alike.ensures told))
