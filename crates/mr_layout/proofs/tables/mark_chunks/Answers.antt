use Rattle.mr_layout.proofs.Common.{ℕ, ◌+◌, List, get_or, drop, ap, arith, drop_more, drop_all, is_in, is_in_chunk}
use Rattle.mr_layout.proofs.TableLaws.{marks_chunk, owes_whole, owes_next, owes_none}
use Rattle.mr_layout.proofs.tables.mark_chunks.Goals as goal

pub loop-chunk-init : goal.loop-chunk-init
loop-chunk-init c = owes_whole (is_in_chunk c.args.chunks.now) c.args.start c.args.table.now

pub loop-chunk-preserved : goal.loop-chunk-preserved
loop-chunk-preserved c =
    let i = c.loop-chunk.chunk-index in
    let chunks = c.args.chunks.now in
    let one = get_or chunks i (0, 0) in
    owes_next (is_in one.0 one.1) (is_in_chunk (drop i chunks)) (is_in_chunk (drop (i + 1) chunks)) (is_in_chunk chunks) c.args.start c.args.table.now c.loop-chunk.table c.mark_first.new.table
    (λ at. ap (λ (list : List (ℕ × ℕ)). is_in_chunk list at) (drop_more chunks i (0, 0) c.loop-chunk-test.true))
    c.loop-chunk.invariant
    (marks_chunk c.args.start one.0 one.1 c.saturating_add.result c.loop-chunk.table c.mark_first.new.table c.saturating_add.ensures (omega (arith, c.loop-chunk.invariant.long, c.requires)) c.mark_first.ensures)

pub returns : goal.returns
returns c =
    let i = c.loop-chunk.chunk-index in
    let chunks = c.args.chunks.now in
    owes_none (is_in_chunk (drop i chunks)) (is_in_chunk chunks) c.args.start c.args.table.now c.loop-chunk.table
    (λ at. ap (λ (list : List (ℕ × ℕ)). is_in_chunk list at) (drop_all i chunks c.loop-chunk-test.false))
    c.loop-chunk.invariant
