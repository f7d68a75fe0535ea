use Rattle.mr_eval.proofs.Common.{sym}
use Rattle.mr_eval.proofs.OwnReasons.{shift_stops}
use Rattle.mr_eval.proofs.operators.shift_bits.Goals as goal

pub returns-in-Err : goal.returns-in-Err
returns-in-Err c = shift_stops c.args.op c.args.int c.args.x c.args.by c.args.y c.in-Err.reason (sym c.in-Err.ensures)
