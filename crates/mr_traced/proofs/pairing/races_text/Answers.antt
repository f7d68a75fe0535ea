use Rattle.mr_traced.proofs.Common.{List, ℕ, ◌++◌, ◌∙◌, ap, ap₂, length, subst, flat_map, Group, AreGroups, group_text, seen}
use Rattle.mr_listing.specs.ReportReport.{count_line}
use Rattle.mr_listing.specs.Races.{by_count}
use Rattle.mr_traced.proofs.GroupLaws.{few_groups}
use Rattle.mr_traced.proofs.pairing.races_text.Goals as goal

pub returns : goal.returns
returns c =
    let s = seen c.args.shown.now in
    let found = c.in_ok-groups.groups.items in
    let ranked = c.in_ok-rank_by_count.ensures (length s.races) (few_groups s found c.in_ok-groups.ensures.are) in (
      subst (AreGroups s) c.in_ok-groups.ensures.groups c.in_ok-groups.ensures.are,
      c.in_ok-push_races_count.ensures
          ∙ ap (λ xs. xs ++ count_line s.races)
          (c.in_ok-push_each_group.ensures
          ∙ ap₂ (λ (xs : List ℕ) (gs : List Group). xs ++ flat_map (group_text s) gs) c.new-out.ensures.items
          (c.as_slice.ensures.value ∙ ranked ∙ ap (by_count (length s.races)) c.in_ok-groups.ensures.groups)),
    )
