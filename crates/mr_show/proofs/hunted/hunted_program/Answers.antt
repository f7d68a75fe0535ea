use Rattle.mr_show.proofs.Common.{ap, sym, ◌∙◌, Ok, seek_of, hunt_answer}
use Rattle.mr_show.proofs.HuntLaws.{hunt_checked}
use Rattle.mr_show.proofs.hunted.hunted_program.Goals as goal

pub hunted-requires : goal.hunted-requires
hunted-requires c = c.requires.parsed ∙ ap Ok (sym c.in-Ok.ensures.0)

pub returns-in-Ok-clause-answer : goal.returns-in-Ok-clause-answer
returns-in-Ok-clause-answer c =
    let seek = seek_of c.args.seek in
    let name = c.args.name.now in
    let text = c.args.text.now in
    hunt_checked c.args.range seek name text c.args.p c.in-Ok.checked c.answered.result c.in-Ok.ensures
    (c.answered.ensures.answer (hunt_answer c.args.range seek name text c.in-Ok.checked) c.hunted.ensures.answer)
