use Rattle.mr_listing.proofs.Common.{◌∙◌, refl, sym, seen}
use Rattle.mr_listing.proofs.AlikeLaws.{none_added, none_begun, one_added}
use Rattle.mr_listing.proofs.pairs.add_group.Goals as goal

pub returns-then-follows_alike : goal.returns-then-follows_alike
returns-then-follows_alike c =
    none_begun (seen c.args.shown.now) c.args.pair c.args.number (c.follows_alike.ensures c.if-follows_alike.true)
    c.args.groups.now.items

pub returns-then-begins_before : goal.returns-then-begins_before
returns-then-begins_before c =
    none_added (seen c.args.shown.now) c.args.pair c.args.number _ c.alike_races-alike.ensures
    (sym c.begins_before.ensures ∙ c.if-begins_before.true) c.args.groups.now.items

pub returns : goal.returns
returns c =
    one_added (seen c.args.shown.now) c.args.pair c.args.number _ c.alike_races-alike.ensures
    (sym c.begins_before.ensures ∙ c.if-begins_before.false) c.args.groups.now.items _ _ refl
    c.in_ok-push.ensures.items
