use Rattle.mr_wf.proofs.Common.{sym, subst, Value, AlikeValue}
use Rattle.mr_wf.proofs.ListedLaws.{load_alike}
use Rattle.mr_wf.proofs.alike.is_alike.Goals as goal

pub returns-in-Load : goal.returns-in-Load
returns-in-Load c told =
    subst (λ (v : Value). AlikeValue c.args.list.now c.args.place.now v) (sym c.in-Load.is) (load_alike c.args.list.now c.args.place.now c.in-Load.from (c.are_alike.ensures told))
