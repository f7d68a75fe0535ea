use Rattle.mr_runs.proofs.Common.{◌∙◌, ◌+◌, ◌-◌, sym, ap, arith, piece_len, piece_past, seen_piece}
use Rattle.mr_runs.proofs.FindLaws.{holds_end}
use Rattle.mr_runs.proofs.RowLaws.{ended_at_end, ended_within}
use Rattle.mr_runs.proofs.WindowLaws.{piece_len-first, piece_len-past}
use Rattle.mr_runs.proofs.replace.close.Goals as goal

pub returns-then-to-len : goal.returns-then-to-len
returns-then-to-len c = ended_at_end c.args.runs.now.entries c.args.row.now.items c.args.to (c.requires.whole ∙ sym c.if-to-len.true)

pub overflow_add-end : goal.overflow_add-end
overflow_add-end c =
    let end = holds_end c.args.runs.now.entries c.args.to c.run_at-begin.result.0 c.run_at-begin.result.1.now c.requires.tiled c.run_at-begin.ensures in
    omega (arith, end, c.len.ensures, c.requires.whole)

pub push-requires-clause-fits : goal.push-requires-clause-fits
push-requires-clause-fits c =
    let begin = c.run_at-begin.result.0 in
    let p = c.run_at-begin.result.1.now in
    let end = holds_end c.args.runs.now.entries c.args.to begin p c.requires.tiled c.run_at-begin.ensures in
    let low = c.run_at-begin.ensures.from in
    let high = c.run_at-begin.ensures.to in
    omega (
      arith,
      end,
      low,
      high,
      c.len.ensures,
      c.requires.whole,
      ap piece_len c.part.ensures,
      piece_len-first (piece_past p (c.args.to - begin)) (begin + c.len.result - c.args.to),
      piece_len-past p (c.args.to - begin),
    )

pub returns : goal.returns
returns c =
    let begin = c.run_at-begin.result.0 in
    let p = c.run_at-begin.result.1.now in
    ended_within c.args.runs.now.entries c.args.row.now.items c.push.new.row.items c.args.to begin (begin + c.len.result) p (seen_piece c.part.result)
    c.requires.tiled c.run_at-begin.ensures (ap (λ n. begin + n) c.len.ensures) c.part.ensures c.in_ok-push.ensures
