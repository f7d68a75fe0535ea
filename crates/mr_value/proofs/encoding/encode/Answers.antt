use Rattle.mr_value.proofs.Common.{is_ok_of}
use Rattle.mr_value.proofs.encoding.encode.Goals as goal

pub append-answer-requires-clause-ok : goal.append-answer-requires-clause-ok
append-answer-requires-clause-ok c = is_ok_of c.args.t.now c.requires.ok
