use Rattle.mr_runs.proofs.Common.{◌+◌, arith, get_or, Uninit, one_piece, get_or_default}
use Rattle.mr_runs.proofs.RowLaws.{begun_byte, piece_len-one_piece, total_pushed}
use Rattle.mr_runs.proofs.row.push_each.Goals as goal

pub loop-index-preserved : goal.loop-index-preserved
loop-index-preserved c =
    let i = c.loop-index.index in
    let bytes = c.args.bytes.now in
    let b = get_or bytes i Uninit in
    let now = c.loop-index.row.items in
    let new = c.push_byte.new.row.items in
    let room = c.loop-index.invariant.0 in (
      omega (arith, room, total_pushed now (c.args.at + i) (one_piece b) new c.in_ok-push_byte.ensures, piece_len-one_piece b),
      λ es. begun_byte es c.args.row.now.items now new c.args.at i bytes b c.in_ok-push_byte.ensures c.loop-index-test.true (get_or_default bytes i Uninit b c.loop-index-test.true) (c.loop-index.invariant.1 es),
    )
