use Rattle.mr_fill.proofs.Common.{ap, option_copied}
use Rattle.std.proofs.lemmas.Result.{err_from_is_err_and}
use Rattle.mr_fill.proofs.OrderLaws.{words_end, words_go_on, words_stop}
use Rattle.mr_fill.proofs.order.read_words.Goals as goal

pub returns-in_err-turns-clause-given : goal.returns-in_err-turns-clause-given
returns-in_err-turns-clause-given c =
    let p = err_from_is_err_and c.from_residual.result c.from_residual.ensures.1 in
    rw (p.1, p.2)
    (words_stop c.loop-rest.turns c.args.line (option_copied c.loop-rest.rest) c.in-Some.left.now c.cut_at_blank.result.0.now (option_copied c.cut_at_blank.result.1) c.in_err-turns.field-0.0 _
    (ap option_copied c.in-Some.is) c.cut_at_blank.ensures.parts c.in_err-turns.ensures.given c.loop-rest.invariant.so_far)

pub loop-rest-preserved : goal.loop-rest-preserved
loop-rest-preserved c = record {
  so_far = words_go_on c.loop-rest.turns c.in_ok-turns.turns c.args.line (option_copied c.loop-rest.rest) c.in-Some.left.now c.cut_at_blank.result.0.now (option_copied c.cut_at_blank.result.1) _
      (ap option_copied c.in-Some.is) c.cut_at_blank.ensures.parts c.in_ok-turns.ensures.given c.loop-rest.invariant.so_far;
  room = c.in_ok-turns.ensures.few;
}

pub returns-clause-given : goal.returns-clause-given
returns-clause-given c = words_end c.loop-rest.turns c.args.line (option_copied c.loop-rest.rest) _ (ap option_copied c.in_default.is) c.loop-rest.invariant.so_far
