use Rattle.mr_runs.proofs.Common.{◌≡◌, ◌+◌, ◌<◌, List, ◌++◌, length, map, sym, subst, arith, get_or, length-map, AbstractByte, Uninit, one_piece, IsBegun, IsPushed, SeenPiece, without_number}
use Rattle.std.proofs.lemmas.List.{get_or-map, take_all}
use Rattle.mr_runs.proofs.RowLaws.{begun_byte, piece_len-one_piece, total_pushed}
use Rattle.mr_runs.proofs.marks.push_marks.Goals as goal

pub loop-index-preserved : goal.loop-index-preserved
loop-index-preserved c =
    let i = c.loop-index.index in
    let bytes = c.args.bytes.now in
    let marks = map without_number bytes in
    let b = without_number (get_or bytes i Uninit) in
    let now = c.loop-index.row.items in
    let new = c.push_mark.new.row.items in
    let room = c.loop-index.invariant.0 in
    let inside : i < length marks = omega (arith, c.loop-index-test.true, length-map bytes without_number) in
    let is : b ≡ get_or marks i b = sym (get_or-map without_number bytes i Uninit b c.loop-index-test.true) in
    let pushed : IsPushed now (c.args.at + i) (one_piece b) new = subst (λ (p : SeenPiece). IsPushed now (c.args.at + i) p new) c.mark_of_byte.ensures c.in_ok-push_mark.ensures in (
      omega (arith, room, total_pushed now (c.args.at + i) (one_piece b) new pushed, piece_len-one_piece b),
      λ es. begun_byte es c.args.row.now.items now new c.args.at i marks b pushed inside is (c.loop-index.invariant.1 es),
    )

pub returns : goal.returns
returns c = λ es done begun ends.
    let marks = map without_number c.args.bytes.now in
    subst (λ (bs : List AbstractByte). IsBegun es c.loop-index.row.items (done ++ bs)) (take_all c.loop-index.index marks (omega (arith, c.loop-index-test.false, length-map c.args.bytes.now without_number)))
    (c.loop-index.invariant.1 es done begun ends)
