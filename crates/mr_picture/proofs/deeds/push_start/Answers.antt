use Rattle.mr_picture.proofs.Common.{◌≡◌, ◌++◌, subst, sym, OnOk, Option, codes, seen}
use Rattle.mr_labels.specs.declared.step.Stand.{Stand}
use Rattle.mr_listing.proofs.Appended.{last_behind}
use Rattle.mr_picture.specs.Deeds.{in_text, numbered, start_deed}
use Rattle.mr_picture.proofs.deeds.push_start.Goals as goal

pub returns-in-Some : goal.returns-in-Some
returns-in-Some c =
    subst (λ (o : Option Stand). OnOk c.push_in.result
    (c.push_in.new.out.items
    ≡ c.args.out.now.items ++ start_deed (seen c.args.shown.now) c.args.thread o))
    (sym c.in-Some.is)
    (last_behind c.push_in.result c.args.out.now.items
    (numbered (codes "starts thread ") c.args.thread)
    (in_text (seen c.args.shown.now) c.in-Some.stand.function) _ _ c.in_ok-push_numbered.ensures c.push_in.ensures)
