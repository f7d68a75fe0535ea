use Rattle.mr_traced.proofs.Common.{◌∙◌, ap, get, both_cmp, both_of, count_of, is_at, seen}
use Rattle.mr_traced.proofs.CountLaws.{count_grouped}
use Rattle.mr_traced.proofs.count.count_at.Goals as goal

pub returns : goal.returns
returns c =
    let s = seen c.args.shown.now in
    let both = both_of s c.args.pair in
    c.count_of.ensures
    ∙ ap count_of (c.group_for.ensures ∙ ap (get both_cmp c.args.counts.now) c.both_of.ensures ∙ c.requires both)
    ∙ count_grouped (is_at s both) s.races
