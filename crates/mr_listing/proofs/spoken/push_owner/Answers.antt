use Rattle.mr_listing.proofs.Common.{◌∙◌, List, ℕ, ap, ◌++◌, None, codes, bytes_text, seen}
use Rattle.mr_listing.specs.Spoken.{freed_from, freed_text, held_bytes}
use Rattle.mr_labels.specs.Words.{name_text}
use Rattle.mr_listing.proofs.Appended.{behind}
use Rattle.mr_listing.proofs.spoken.push_owner.Goals as goal

pub returns : goal.returns
returns c =
    let old : List ℕ = c.args.out.now.items in
    let name : List ℕ = name_text (seen c.args.shown.now).program None 0 c.args.row.now.name in
    let has : List ℕ = codes ", which has " in
    let size : List ℕ = bytes_text (held_bytes c.args.row.now c.args.row.now.name) in
    let freed : List ℕ = freed_text (freed_from 0 c.args.row.now.id (seen c.args.shown.now).feet) in
    behind old (name ++ has ++ size) freed _ _
    (behind old (name ++ has) size _ _
    (behind old name has _ _ c.in_ok-push_name.ensures c.in_ok-extend_from_slice.ensures.items)
    (c.in_ok-push_bytes.ensures ∙ ap (λ n. c.extend_from_slice.new.self.items ++ bytes_text n) c.held_bytes.ensures))
    (c.in_ok-push_freed.ensures ∙ ap (λ k. c.push_bytes.new.out.items ++ freed_text k) c.freed_at.ensures)
