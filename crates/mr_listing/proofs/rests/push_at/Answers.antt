use Rattle.mr_listing.proofs.Common.{Some, codes, seen}
use Rattle.mr_listing.specs.Spots.{stand_text}
use Rattle.mr_listing.proofs.Appended.{last_behind}
use Rattle.mr_listing.proofs.rests.push_at.Goals as goal

pub returns-in_ok-extend_from_slice-in-Some : goal.returns-in_ok-extend_from_slice-in-Some
returns-in_ok-extend_from_slice-in-Some c =
    rw c.in-Some.is
    (last_behind c.push_stand.result c.args.out.now.items (codes "; its next step is ")
    (stand_text (seen c.args.shown.now) (Some c.in-Some.stand)) _ _
    c.in_ok-extend_from_slice-in-Some.ensures.items c.push_stand.ensures)
