use Rattle.mr_show.proofs.Common.{IfOk-weaker, aim_of}
use Rattle.mr_show.proofs.hunted.found_in.Goals as goal

pub returns-in-None-clause-answer : goal.returns-in-None-clause-answer
returns-in-None-clause-answer c =
    rw c.in-None.is
    (IfOk-weaker c.none_found.result _ _ (λ a h. h (aim_of c.args.aim) c.args.name.now c.args.text.now c.args.p.now)
    c.none_found.ensures.answer)
