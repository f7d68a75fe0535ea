use Rattle.mr_show.proofs.Common.{◌≤◌, ◌^◌, ◌∙◌, ap, ap₂, arith, length, subst, sym, Bool, IfOk-weaker, Schedule}
use Rattle.mr_show.specs.Witness.{found_text, reports_race}
use Rattle.mr_run.proofs.ExchangeFirst.{partner_of_predicted, within_predicted}
use Rattle.mr_show.proofs.WitnessLaws.{witness_few}
use Rattle.mr_show.proofs.witness.race_text.Goals as goal

pub reports_race-requires : goal.reports_race-requires
reports_race-requires c =
    let steps = c.args.steps.now in
    let pair = c.args.pair in
    let few = witness_few c.args.selection steps c.args.read.now.schedule pair.first pair.second (length steps)
    (partner_of_predicted steps pair c.requires.listed).pair.before (within_predicted steps pair c.requires.listed) in
    subst (λ (v : Schedule). length v.entries ≤ 2 ^ 22) (sym c.in_ok-found.ensures)
    (omega (arith, few, c.requires.many, c.requires.few))

pub found_text-requires-clause-first : goal.found_text-requires-clause-first
found_text-requires-clause-first c =
    let before = (partner_of_predicted c.args.steps.now c.args.pair c.requires.listed).pair.before in
    let within = within_predicted c.args.steps.now c.args.pair c.requires.listed in
    omega (arith, before, within, c.requires.many, c.requires.few)

pub found_text-requires-clause-second : goal.found_text-requires-clause-second
found_text-requires-clause-second c =
    let within = within_predicted c.args.steps.now c.args.pair c.requires.listed in
    omega (arith, within, c.requires.many, c.requires.few)

pub returns : goal.returns
returns c =
    let v = c.args.read.now.version in
    IfOk-weaker c.found_text.result _ _
    (λ text h. h
    ∙ ap₂ (λ (found : Schedule) (reported : Bool). found_text v c.args.pair found reported) c.in_ok-found.ensures
    (c.in_ok-reported.ensures ∙ ap (reports_race c.args.p.now) c.in_ok-found.ensures))
    c.found_text.ensures
