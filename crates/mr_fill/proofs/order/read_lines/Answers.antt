use Rattle.mr_fill.proofs.Common.{ap, arith, length, option_copied}
use Rattle.std.proofs.lemmas.Result.{err_from_is_err_and}
use Rattle.mr_fill.proofs.OrderLaws.{after_small, lines_end, lines_go_on, lines_stop, size_of}
use Rattle.mr_fill.proofs.order.read_lines.Goals as goal

pub returns-in_err-turns-clause-given : goal.returns-in_err-turns-clause-given
returns-in_err-turns-clause-given c =
    let p = err_from_is_err_and c.from_residual.result c.from_residual.ensures.1 in
    rw (p.1, p.2)
    (lines_stop c.loop-rest.turns c.loop-rest.line (option_copied c.loop-rest.rest) c.in-Some.left.now c.cut.result.0.now (option_copied c.cut.result.1) c.in_err-turns.field-0.0 _
    (ap option_copied c.in-Some.is) c.cut.ensures.parts c.in_err-turns.ensures.given c.loop-rest.invariant.so_far)

pub loop-rest-preserved : goal.loop-rest-preserved
loop-rest-preserved c = record {
  so_far = lines_go_on c.loop-rest.turns c.in_ok-turns.turns c.loop-rest.line (option_copied c.loop-rest.rest) c.in-Some.left.now c.cut.result.0.now (option_copied c.cut.result.1) _
      (ap option_copied c.in-Some.is) c.cut.ensures.parts c.in_ok-turns.ensures.given c.loop-rest.invariant.so_far;
  room = c.in_ok-turns.ensures.few;
  line = omega (
    arith,
    after_small (length c.in-Some.left.now) c.cut.result.1 c.cut.ensures.shorter,
    ap (λ o. size_of (option_copied o)) c.in-Some.is,
    c.loop-rest.invariant.line,
  );
}

pub returns-clause-given : goal.returns-clause-given
returns-clause-given c = lines_end c.loop-rest.turns c.loop-rest.line (option_copied c.loop-rest.rest) _ (ap option_copied c.in_default.is) c.loop-rest.invariant.so_far
