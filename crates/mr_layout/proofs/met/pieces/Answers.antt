use Rattle.mr_layout.proofs.Common.{◌≡◌, ◌+◌, ◌-◌, ◌%◌, ap, sym, ◌∙◌, arith}
use Rattle.mr_layout.proofs.RowLaws.{row_none, row_whole, row_inside, row_around, met_none}
use Rattle.mr_layout.proofs.met.pieces.Goals as goal

pub returns-then-last-from-clause-same : goal.returns-then-last-from-clause-same
returns-then-last-from-clause-same c = λ part.
    row_none part c.args.len (c.args.range.0 - c.args.start) ((c.args.range.0 + c.args.range.1) - c.args.start) (c.args.stop - c.args.start) (omega arith)
    ∙ sym (met_none part 0 c.args.len)

pub returns-then-len-bytes-clause-same : goal.returns-then-len-bytes-clause-same
returns-then-len-bytes-clause-same c = λ part.
    row_whole part c.args.len (c.args.range.0 - c.args.start) ((c.args.range.0 + c.args.range.1) - c.args.start) (c.args.stop - c.args.start) (omega arith) (omega arith)

pub returns-then-bytes-len-clause-same : goal.returns-then-bytes-len-clause-same
returns-then-bytes-len-clause-same c =
    let from : c.saturating_sub-from.result ≡ c.args.range.0 - c.args.start = omega arith in
    let first = ap (λ n. n % c.args.len) from in
    λ part.
    row_inside part c.args.len (c.args.range.0 - c.args.start) ((c.args.range.0 + c.args.range.1) - c.args.start) (c.args.stop - c.args.start)
    (c.saturating_sub-from.result % c.args.len) (c.saturating_sub-last.result - c.saturating_sub-from.result) first (omega arith) (omega arith) (omega arith) (omega arith)

pub returns-else-bytes-len-clause-same : goal.returns-else-bytes-len-clause-same
returns-else-bytes-len-clause-same c =
    let from : c.saturating_sub-from.result ≡ c.args.range.0 - c.args.start = omega arith in
    let first = ap (λ n. n % c.args.len) from in
    λ part.
    row_around part c.args.len (c.args.range.0 - c.args.start) ((c.args.range.0 + c.args.range.1) - c.args.start) (c.args.stop - c.args.start)
    (c.saturating_sub-from.result % c.args.len) (c.saturating_sub-last.result - c.saturating_sub-from.result) first (omega arith) (omega arith) (omega arith) (omega arith)
