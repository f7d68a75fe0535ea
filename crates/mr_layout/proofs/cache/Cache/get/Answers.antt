use Rattle.mr_layout.proofs.Common.{◌≡◌, Contains, List, subst, Ty, layout_of}
use Rattle.mr_layout.proofs.CacheLaws.{kept_at}
use Rattle.mr_layout.proofs.cache.Cache.get.Goals as goal

pub returns-clause-found : goal.returns-clause-found
returns-clause-found c =
    let t = c.args.t.now in
    let kept = kept_at c.self.inside.entries.entries t c.in_ok-at.at c.index.result.now c.self.invariant c.in_ok-at.ensures.found c.index.ensures in
    subst (λ (held : List Ty). Contains held t × (c.index.result.now ≡ layout_of t)) c.self.view_is kept
