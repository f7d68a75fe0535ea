use Rattle.mr_runs.proofs.Common.{◌≡◌, ◌∙◌, ◌-◌, ℕ, drop, min, sym, ap, arith, marked_piece, SeenPiece, piece_len, stamped_piece, clipped_piece}
use Rattle.mr_runs.proofs.StampLaws.{piece_len-marked}
use Rattle.mr_runs.proofs.ViewLaws.{clipped_marked_init, clipped_marked_uninit, clipped_none}
use Rattle.mr_runs.proofs.views.clipped_marks.Goals as goal

pub returns-then-begin-to : goal.returns-then-begin-to
returns-then-begin-to c = sym (clipped_none (stamped_piece (drop c.args.begin c.args.numbers.now) c.args.run.now) c.args.begin c.args.from c.args.to (omega arith))

pub overflow_sub-whole : goal.overflow_sub-whole
overflow_sub-whole c =
    let whole : piece_len c.args.run.now ≡ c.told-whole.result.0 = ap piece_len c.told-whole.ensures ∙ piece_len-marked c.told-whole.result.0 c.told-whole.result.1 in
    omega (arith, whole, c.requires.inside, c.saturating_sub-skipped.ensures)

pub slice_of-requires : goal.slice_of-requires
slice_of-requires c =
    let whole : piece_len c.args.run.now ≡ c.told-whole.result.0 = ap piece_len c.told-whole.ensures ∙ piece_len-marked c.told-whole.result.0 c.told-whole.result.1 in
    omega (arith, whole, c.requires.inside, c.requires.all, c.saturating_sub-skipped.ensures, c.min-count.ensures)

pub returns-in-Uninit : goal.returns-in-Uninit
returns-in-Uninit c =
    let begin = c.args.begin in
    let from = c.args.from in
    let ns = c.args.numbers.now in
    let count = c.told-whole.result.0 in
    sym (
    ap (λ (p : SeenPiece). clipped_piece (stamped_piece (drop begin ns) p) begin from c.args.to) (c.told-whole.ensures ∙ ap (marked_piece count) c.in-Uninit.is)
    ∙ clipped_marked_uninit count begin from c.args.to c.min-count.result (omega arith)
    (c.min-count.ensures ∙ ap (λ (s : ℕ). min (c.args.to - begin - s) (count - s)) c.saturating_sub-skipped.ensures)
    )

pub returns-in-Init : goal.returns-in-Init
returns-in-Init c =
    let begin = c.args.begin in
    let from = c.args.from in
    let ns = c.args.numbers.now in
    let count = c.told-whole.result.0 in
    let whole : piece_len c.args.run.now ≡ count = ap piece_len c.told-whole.ensures ∙ piece_len-marked count c.told-whole.result.1 in
    sym (
    ap (λ (p : SeenPiece). clipped_piece (stamped_piece (drop begin ns) p) begin from c.args.to) (c.told-whole.ensures ∙ ap (marked_piece count) c.in-Init.is)
    ∙ clipped_marked_init ns c.slice_of.result.now count c.in-Init.provenance begin from c.args.to c.saturating_sub-skipped.result c.min-count.result (omega arith) c.requires.forward
    (omega (arith, whole, c.requires.inside)) (omega (arith, whole, c.requires.all)) c.saturating_sub-skipped.ensures c.min-count.ensures c.slice_of.ensures
    )
