use Rattle.mr_runs.proofs.Common.{◌≡◌, ◌∙◌, ◌+◌, ◌-◌, ◌<◌, ℕ, length, sym, ap, subst, arith, both_ways, SeenPiece, UninitPiece, mark_of, piece_len, Holds}
use Rattle.mr_runs.proofs.GrowLaws.{ends_at, same_begin, same_holder, uninit_is}
use Rattle.mr_runs.proofs.grow.growing.Goals as goal

pub returns-clause-some : goal.returns-clause-some
returns-clause-some c =
    let es = c.args.runs.now.entries in
    let from = c.args.from in
    let numbers = c.args.numbers.now in
    let rest = c.len-2.result - length numbers in
    let begin = c.run_at-begin.result.0 in
    let p = c.run_at-begin.result.1.now in
    let gap = c.run_at-gap.result.1.now in
    let here : c.run_at-gap.result.0 ≡ from = omega (arith, c.if-gap-from.false) in
    let uninit : gap ≡ UninitPiece (piece_len gap) = uninit_is gap (sym c.mark.ensures ∙ c.is_same.ensures.0 c.if-not-is_same.false) in
    let more : length numbers < piece_len gap = omega (arith, c.if-len.false, c.len.ensures) in
    let len : piece_len gap ≡ length numbers + rest = omega (arith, more, c.len-2.ensures) in
    let P : ℕ → Type 0 = λ n. Holds es from n gap in
    let Q : SeenPiece → Type 0 = λ q. Holds es from from q in
    let holds : Holds es from from gap = subst P here c.run_at-gap.ensures in
    record {
      piece = p;
      some = omega arith;
      holds = c.run_at-begin.ensures;
      ends = ends_at es from begin p gap c.requires.tiled (omega arith) c.run_at-begin.ensures holds;
      like = sym c.mark-2.ensures ∙ c.is_same-2.ensures.0 c.if-not-is_same-2.false;
      gap = subst Q (uninit ∙ ap UninitPiece len) holds;
      left = omega (arith, more, c.len-2.ensures);
    }

pub returns-then-gap-from-clause-none : goal.returns-then-gap-from-clause-none
returns-then-gap-from-clause-none c = λ begin rest g.
    let same : c.run_at-gap.result.0 ≡ c.args.from =
    same_begin c.args.runs.now.entries c.args.from c.run_at-gap.result.0 c.args.from c.run_at-gap.result.1.now (UninitPiece (length c.args.numbers.now + rest)) c.requires.tiled c.run_at-gap.ensures g.gap in
    omega (arith, same, c.if-gap-from.true)

pub returns-then-not-is_same-clause-none : goal.returns-then-not-is_same-clause-none
returns-then-not-is_same-clause-none c = λ begin rest g.
    let gap = c.run_at-gap.result.1.now in
    let piece : gap ≡ UninitPiece (length c.args.numbers.now + rest) =
    same_holder c.args.runs.now.entries c.args.from c.run_at-gap.result.0 c.args.from gap (UninitPiece (length c.args.numbers.now + rest)) c.requires.tiled c.run_at-gap.ensures g.gap in
    both_ways c.is_same.result c.if-not-is_same.true (c.is_same.ensures.1 (c.mark.ensures ∙ ap mark_of piece))

pub returns-then-len-clause-none : goal.returns-then-len-clause-none
returns-then-len-clause-none c = λ begin rest g.
    let gap = c.run_at-gap.result.1.now in
    let left : 0 < rest = g.left in
    let piece : gap ≡ UninitPiece (length c.args.numbers.now + rest) =
    same_holder c.args.runs.now.entries c.args.from c.run_at-gap.result.0 c.args.from gap (UninitPiece (length c.args.numbers.now + rest)) c.requires.tiled c.run_at-gap.ensures g.gap in
    omega (arith, left, ap piece_len piece, c.len.ensures, c.if-len.true)

pub returns-then-not-is_same-2-clause-none : goal.returns-then-not-is_same-2-clause-none
returns-then-not-is_same-2-clause-none c = λ begin rest g.
    let p = c.run_at-begin.result.1.now in
    let piece : g.piece ≡ p = same_holder c.args.runs.now.entries (c.args.from - 1) begin c.run_at-begin.result.0 g.piece p c.requires.tiled g.holds c.run_at-begin.ensures in
    both_ways c.is_same-2.result c.if-not-is_same-2.true (c.is_same-2.ensures.1 (c.mark-2.ensures ∙ ap mark_of (sym piece) ∙ g.like))
