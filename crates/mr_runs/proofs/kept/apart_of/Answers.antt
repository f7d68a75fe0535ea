use Rattle.mr_runs.proofs.Common.{◌≡◌, ◌∙◌, ◌+◌, ℕ, length, sym, ap, subst, arith, length-replicate, SeenPiece, bytes_of_piece, piece_len, seen_piece, IsStampedAnew}
use Rattle.mr_runs.proofs.FindLaws.{holds_end}
use Rattle.mr_runs.proofs.StampLaws.{IsCopied, copied_all, copied_more, copied_none, part_whole}
use Rattle.mr_runs.proofs.kept.apart_of.Goals as goal

pub loop-at-init : goal.loop-at-init
loop-at-init c =
    let all = ap length (c.in_ok-numbers.ensures.items_if_clones_equal (λ y same. same)) ∙ length-replicate c.args.len 0 in
    copied_none c.args.runs.now.entries c.in_ok-marks.marks.entries c.in_ok-numbers.numbers.items c.args.len c.in_ok-marks.ensures.tiled c.in_ok-marks.ensures.whole all c.in_ok-marks.ensures.bytes

pub run_at-begin-requires-clause-inside : goal.run_at-begin-requires-clause-inside
run_at-begin-requires-clause-inside c = omega (arith, c.requires.whole, c.loop-at-test.true)

pub part-piece-requires : goal.part-piece-requires
part-piece-requires c = omega (arith, c.len.ensures)

pub put_apart-requires-clause-sound : goal.put_apart-requires-clause-sound
put_apart-requires-clause-sound c = c.loop-at.invariant.sound

pub put_apart-requires-clause-inside : goal.put_apart-requires-clause-inside
put_apart-requires-clause-inside c =
    let p = c.run_at-begin.result.1.now in
    let end = holds_end c.args.runs.now.entries c.loop-at.at c.run_at-begin.result.0 p c.requires.tiled c.run_at-begin.ensures in
    let len : piece_len (seen_piece c.part-piece.result) ≡ piece_len p = ap piece_len (part_whole p (seen_piece c.part-piece.result) c.len.result c.len.ensures c.part-piece.ensures) in
    omega (arith, end, len, c.requires.whole)

pub put_apart-requires-clause-some : goal.put_apart-requires-clause-some
put_apart-requires-clause-some c =
    let p = c.run_at-begin.result.1.now in
    let low = c.run_at-begin.ensures.from in
    let high = c.run_at-begin.ensures.to in
    let len : piece_len (seen_piece c.part-piece.result) ≡ piece_len p = ap piece_len (part_whole p (seen_piece c.part-piece.result) c.len.result c.len.ensures c.part-piece.ensures) in
    omega (arith, low, high, len)

pub overflow_add-at : goal.overflow_add-at
overflow_add-at c =
    let end = holds_end c.args.runs.now.entries c.loop-at.at c.run_at-begin.result.0 c.run_at-begin.result.1.now c.requires.tiled c.run_at-begin.ensures in
    omega (arith, end, c.requires.whole, c.len-in-loop-at.ensures)

pub loop-at-preserved : goal.loop-at-preserved
loop-at-preserved c =
    let es = c.args.runs.now.entries in
    let begin = c.run_at-begin.result.0 in
    let p = c.run_at-begin.result.1.now in
    let is : seen_piece c.part-piece.result ≡ p = part_whole p (seen_piece c.part-piece.result) c.len.result c.len.ensures c.part-piece.ensures in
    let anew = subst (λ (q : SeenPiece). IsStampedAnew c.loop-at.marks.entries c.put_apart.new.marks.entries c.loop-at.numbers.items c.put_apart.new.numbers.items c.args.len begin (bytes_of_piece q)) is c.in_ok-put_apart.ensures.ok in
    subst (λ (n : ℕ). IsCopied es c.put_apart.new.marks.entries c.put_apart.new.numbers.items c.args.len (begin + n)) (sym c.len-in-loop-at.ensures)
    (copied_more es c.loop-at.marks.entries c.put_apart.new.marks.entries c.loop-at.numbers.items c.put_apart.new.numbers.items c.args.len c.loop-at.at begin p
    c.requires.tiled c.requires.whole c.run_at-begin.ensures c.loop-at.invariant anew)

pub returns-clause-sound : goal.returns-clause-sound
returns-clause-sound c = c.loop-at.invariant.sound

pub returns-clause-bytes_are : goal.returns-clause-bytes_are
returns-clause-bytes_are c = copied_all c.args.runs.now.entries c.loop-at.marks.entries c.loop-at.numbers.items c.args.len c.loop-at.at c.requires.whole (omega (arith, c.loop-at-test.false)) c.loop-at.invariant
