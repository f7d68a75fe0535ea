use Rattle.mr_eval.proofs.Common.{sym, out-Val}
use Rattle.mr_eval.proofs.OwnReasons.{arith_stops}
use Rattle.mr_eval.proofs.operators.arith_bits.Goals as goal

pub returns-in-Err : goal.returns-in-Err
returns-in-Err c = arith_stops c.args.op c.args.int c.args.x c.args.y (out-Val c.args.a.now) c.in-Err.reason (sym c.in-Err.ensures)
