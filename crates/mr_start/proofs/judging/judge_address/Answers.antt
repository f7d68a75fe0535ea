use Rattle.mr_start.proofs.Common.{Some, sym, ap, ◌∙◌, reused, address_fault}
use Rattle.mr_start.proofs.PickLaws.{bad_among, known_among}
use Rattle.mr_start.proofs.judging.judge_address.Goals as goal
use Rattle.mr_start.proofs.judging.judge_address.Goals.{in-Err-Reused, in-Ok}

pub returns-in-Err-BadAddress : goal.returns-in-Err-BadAddress
returns-in-Err-BadAddress c = bad_among c.args.memory.now c.args.earlier c.args.addr c.args.size c.args.align (c.in-Err-BadAddress.ensures ∙ ap Some c.in-Err-BadAddress.field-0-is) ∙ ap Some (sym c.of.ensures)

pub returns-in-Some : goal.returns-in-Some
returns-in-Some c =
    known_among c.args.memory.now c.args.earlier c.args.addr c.args.size c.args.align c.match-lawful.known
    (elim c.match-lawful.branch [
      | in-Err-Reused w ↦ w.in-Err-Reused.ensures ∙ ap Some w.in-Err-Reused.field-0-is ∙ ap reused (sym w.known-is)
      | in-Ok w ↦ w.in-Ok.ensures ∙ ap reused (sym w.known-is)
    ])
    ∙ ap (λ o. address_fault (reused o)) (sym c.least.ensures ∙ c.in-Some.is) ∙ ap Some (sym c.reused.ensures)

pub returns-in-None : goal.returns-in-None
returns-in-None c =
    known_among c.args.memory.now c.args.earlier c.args.addr c.args.size c.args.align c.match-lawful.known
    (elim c.match-lawful.branch [
      | in-Err-Reused w ↦ w.in-Err-Reused.ensures ∙ ap Some w.in-Err-Reused.field-0-is ∙ ap reused (sym w.known-is)
      | in-Ok w ↦ w.in-Ok.ensures ∙ ap reused (sym w.known-is)
    ])
    ∙ ap (λ o. address_fault (reused o)) (sym c.least.ensures ∙ c.in-None.is)
