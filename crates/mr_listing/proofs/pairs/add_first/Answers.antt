use Rattle.mr_listing.proofs.Common.{◌≡◌, ◌++◌, ◌∙◌, ap, append-nil, subst, sym, OnOk, Option, Pair, first_group, seen}
use Rattle.mr_listing.proofs.pairs.add_first.Goals as goal

pub returns-in-Some : goal.returns-in-Some
returns-in-Some c =
    subst (λ (o : Option Pair). OnOk c.add_group.result
    (c.add_group.new.groups.items
    ≡ c.args.groups.now.items ++ first_group (seen c.args.shown.now) c.args.number o))
    c.in-Some.ensures c.add_group.ensures

pub returns-in-None : goal.returns-in-None
returns-in-None c =
    sym (append-nil c.args.groups.now.items)
    ∙ ap (λ (o : Option Pair). c.args.groups.now.items ++ first_group (seen c.args.shown.now) c.args.number o)
    c.in-None.ensures
