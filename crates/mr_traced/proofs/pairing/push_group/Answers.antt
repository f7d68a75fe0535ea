use Rattle.mr_traced.proofs.Common.{◌++◌, ◌∙◌, Option, ap, codes, slice_get, behind, last_behind, seen}
use Rattle.mr_listing.specs.Races.{times_text}
use Rattle.mr_traced.specs.declared.form.Site.{Site}
use Rattle.mr_traced.specs.Names.{place_text}
use Rattle.mr_traced.specs.Races.{side_text}
use Rattle.mr_traced.proofs.pairing.push_group.Goals as goal

pub returns : goal.returns
returns c =
    let s = seen c.args.shown.now in
    let g = c.args.group in
    let old = c.args.out.now.items in
    let first = place_text s (slice_get s.sites g.first.first) in
    let gap = codes "  /  " in
    let second = place_text s (slice_get s.sites g.first.second) in
    let colon = codes ": " in
    let times = times_text g in
    let side = side_text s g.first.first in
    last_behind c.push_side-2.result old (first ++ gap ++ second ++ colon ++ times ++ side)
    (side_text s g.first.second) _ _
    (behind old (first ++ gap ++ second ++ colon ++ times) side _ _
    (behind old (first ++ gap ++ second ++ colon) times _ _
    (behind old (first ++ gap ++ second) colon _ _
    (behind old (first ++ gap) second _ _
    (behind old first gap _ _
    (c.in_ok-push_place.ensures ∙ ap (λ (o : Option Site). old ++ place_text s o) c.site_at.ensures)
    c.in_ok-extend_from_slice.ensures.items)
    (c.in_ok-push_place-2.ensures
    ∙ ap (λ (o : Option Site). c.extend_from_slice.new.self.items ++ place_text s o) c.site_at-2.ensures))
    c.in_ok-extend_from_slice-2.ensures.items)
    c.in_ok-push_times.ensures)
    c.in_ok-push_side.ensures)
    c.push_side-2.ensures
