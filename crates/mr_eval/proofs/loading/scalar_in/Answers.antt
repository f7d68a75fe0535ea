use Rattle.mr_eval.proofs.Common.{sym, bytes_of_pieces, meaningless}
use Rattle.mr_eval.specs.Noted.{listed}
use Rattle.mr_eval.proofs.ScalarRuns.{scalar_dangling, scalar_passed}
use Rattle.mr_eval.proofs.loading.scalar_in.Goals as goal

pub returns-in-Ok-clause-given : goal.returns-in-Ok-clause-given
returns-in-Ok-clause-given c = λ p s.
    scalar_passed c.args.m.now c.args.t.now (bytes_of_pieces c.args.view.now) c.in-Some.v (listed c.target_of.result) (meaningless c.args.t.now p) s
    (sym c.in-Some.ensures.value) c.target_of.ensures c.in-Ok.ensures

pub returns-in-Err-clause-given : goal.returns-in-Err-clause-given
returns-in-Err-clause-given c = λ p s.
    scalar_dangling c.args.m.now c.args.t.now (bytes_of_pieces c.args.view.now) c.in-Some.v (listed c.target_of.result) (meaningless c.args.t.now p) s
    (sym c.in-Some.ensures.value) c.target_of.ensures c.in-Err.reason c.in-Err.ensures
