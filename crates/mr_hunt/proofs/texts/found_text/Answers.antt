use Rattle.mr_hunt.proofs.Common.{◌≡◌, ℕ, ◌≤◌, ◌^◌, ◌∙◌, List, arith, ap, ap₂, length, subst, sym, IfOk-weaker, Schedule, drawn_schedule, steps_of, aim_of, stands_of}
use Rattle.mr_base.specs.declared.reason.Verdict.{Verdict}
use Rattle.mr_hunt.specs.Texts.{both_races, run_races, told_text}
use Rattle.mr_hunt.proofs.RunFaults.{drawn_few}
use Rattle.mr_hunt.proofs.SeenLaws.{races_are, verdict_is}
use Rattle.mr_hunt.proofs.texts.found_text.Goals as goal

pub stood-requires-clause-few : goal.stood-requires-clause-few
stood-requires-clause-few c =
    let few = drawn_few c.args.p.now c.args.number c.args.most in
    subst (λ (w : Schedule). length w.entries ≤ 2 ^ 22) (sym c.in_ok-drawn.ensures.schedule)
    (omega (arith, few, c.requires))

pub stood-requires-clause-legal : goal.stood-requires-clause-legal
stood-requires-clause-legal c = c.in_ok-drawn.ensures.run.legal

pub returns : goal.returns
returns c =
    let p = c.args.p.now in
    let text = c.args.text.now in
    let laid = c.args.places.now in
    let aim = aim_of c.args.aim in
    let number = c.args.number in
    let most = c.args.most in
    let w = c.in_ok-drawn.drawn.schedule in
    let m = c.in_ok-drawn.drawn.machine in
    let same = c.in_ok-drawn.ensures.schedule in
    let run = c.in_ok-drawn.ensures.run in
    let verdict = verdict_is p number most w m same run c.verdict-verdict.result c.verdict-verdict.ensures in
    let pairs = races_are p number most w m same run c.draw.new.kept c.races.result.now c.in_ok-drawn.ensures.kept c.races.ensures in
    let stands : c.as_slice.result.now ≡ stands_of p (drawn_schedule p number most) =
    c.as_slice.ensures.value ∙ c.in_ok-stands.ensures ∙ ap (λ (u : Schedule). stands_of p u) same in
    let feet : c.steps.result.now ≡ steps_of p (drawn_schedule p number most) =
    c.steps.ensures ∙ c.in_ok-drawn.ensures.kept ∙ ap (λ (u : Schedule). steps_of p u) same in
    let races : c.as_slice-2.result.now ≡ run_races text p laid aim (drawn_schedule p number most) =
    c.as_slice-2.ensures.value ∙ c.in_ok-races.ensures
    ∙ (λ i. both_races text p laid aim (stands i) (pairs i) (feet i)) in
    IfOk-weaker c.told_text.result _ _
    (λ out h. h ∙ ap₂ (λ (v : Verdict) (rs : List ℕ). told_text c.args.name.now most number v rs) verdict races)
    c.told_text.ensures
