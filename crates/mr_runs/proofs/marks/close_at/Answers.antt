use Rattle.mr_runs.proofs.Common.{◌≡◌, ◌∙◌, ◌+◌, ◌-◌, sym, ap, arith, marked_piece, SeenPiece, piece_len, first_piece, piece_past}
use Rattle.mr_runs.proofs.FindLaws.{holds_end}
use Rattle.mr_runs.proofs.RowLaws.{ended_at_end, ended_within}
use Rattle.mr_runs.proofs.StampLaws.{part_marked, piece_len-marked}
use Rattle.mr_runs.proofs.marks.close_at.Goals as goal

pub returns-then-to-len : goal.returns-then-to-len
returns-then-to-len c = ended_at_end c.args.marks.now.entries c.args.row.now.items c.args.to (c.requires.whole ∙ sym c.if-to-len.true)

pub overflow_add-end : goal.overflow_add-end
overflow_add-end c =
    let p = c.run_at-begin.result.1.now in
    let end = holds_end c.args.marks.now.entries c.args.to c.run_at-begin.result.0 p c.requires.tiled c.run_at-begin.ensures in
    let whole : piece_len p ≡ c.told-count.result.0 = ap piece_len c.told-count.ensures ∙ piece_len-marked c.told-count.result.0 c.told-count.result.1 in
    omega (arith, end, whole, c.requires.whole)

pub overflow_sub-end : goal.overflow_sub-end
overflow_sub-end c =
    let p = c.run_at-begin.result.1.now in
    let high = c.run_at-begin.ensures.to in
    let whole : piece_len p ≡ c.told-count.result.0 = ap piece_len c.told-count.ensures ∙ piece_len-marked c.told-count.result.0 c.told-count.result.1 in
    omega (arith, high, whole)

pub push_mark-requires-clause-fits : goal.push_mark-requires-clause-fits
push_mark-requires-clause-fits c =
    let p = c.run_at-begin.result.1.now in
    let high = c.run_at-begin.ensures.to in
    let whole : piece_len p ≡ c.told-count.result.0 = ap piece_len c.told-count.ensures ∙ piece_len-marked c.told-count.result.0 c.told-count.result.1 in
    let end = holds_end c.args.marks.now.entries c.args.to c.run_at-begin.result.0 p c.requires.tiled c.run_at-begin.ensures in
    omega (arith, high, whole, end, c.requires.whole)

pub returns : goal.returns
returns c =
    let to = c.args.to in
    let begin = c.run_at-begin.result.0 in
    let p = c.run_at-begin.result.1.now in
    let count = c.told-count.result.0 in
    let mark = c.told-count.result.1 in
    let low = c.run_at-begin.ensures.from in
    let high = c.run_at-begin.ensures.to in
    let whole : piece_len p ≡ count = ap piece_len c.told-count.ensures ∙ piece_len-marked count mark in
    ended_within c.args.marks.now.entries c.args.row.now.items c.push_mark.new.row.items to begin (begin + count) p (marked_piece (begin + count - to) mark)
    c.requires.tiled c.run_at-begin.ensures (ap (λ n. begin + n) (sym whole))
    (part_marked count (to - begin) (begin + count - to) mark (omega (arith, low, high, whole)) ∙ ap (λ (q : SeenPiece). first_piece (piece_past q (to - begin)) (begin + count - to)) (sym c.told-count.ensures))
    c.in_ok-push_mark.ensures
