use Rattle.mr_show.proofs.Common.{seek_of}
use Rattle.mr_show.proofs.HuntLaws.{hunt_parsed, hunt_refused}
use Rattle.mr_show.proofs.ShownLaws.{was_parsed}
use Rattle.mr_show.proofs.hunted.hunted_text.Goals as goal

pub hunted_program-requires-clause-parsed : goal.hunted_program-requires-clause-parsed
hunted_program-requires-clause-parsed c = was_parsed _ c.in-Ok.p c.in-Ok.ensures.given

pub returns-in-Ok-clause-answer : goal.returns-in-Ok-clause-answer
returns-in-Ok-clause-answer c =
    hunt_parsed c.args.range (seek_of c.args.seek) c.args.name.now c.args.text.now c.in-Ok.p
    c.hunted_program.result (was_parsed _ c.in-Ok.p c.in-Ok.ensures.given) c.hunted_program.ensures.answer

pub returns-in-Err-clause-answer : goal.returns-in-Err-clause-answer
returns-in-Err-clause-answer c =
    hunt_refused c.args.range (seek_of c.args.seek) c.args.name.now c.args.text.now c.in-Err.refusal
    c.in-Err.ensures.given
