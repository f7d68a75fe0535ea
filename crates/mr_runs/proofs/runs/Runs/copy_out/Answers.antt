use Rattle.mr_runs.proofs.Common.{◌≡◌, get_or, take_more, bytes_of_pieces}
use Rattle.std.proofs.lemmas.Option.{slice_get_within, get_or_from_slice_get}
use Rattle.mr_runs.proofs.runs.Runs.copy_out.Goals as goal

pub loop-at-preserved : goal.loop-at-preserved
loop-at-preserved c =
    let at = c.loop-at.at in
    let byte = c.byte.result in
    let lent = bytes_of_pieces c.view-view.result in
    let inside = slice_get_within lent at byte c.byte.ensures in
    let is_byte : get_or lent at byte ≡ byte = get_or_from_slice_get lent at byte byte c.byte.ensures in
    let more = take_more lent at byte inside in
    let pushed = c.in_ok-push.ensures.items in
    cc (c.loop-at.invariant)
