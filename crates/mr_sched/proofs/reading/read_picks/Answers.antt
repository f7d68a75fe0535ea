use Rattle.mr_sched.proofs.Common.{◌≡◌, None, option_copied, ap, sym, ◌∙◌, refl, parts_after, picks_of}
use Rattle.mr_sched.proofs.Loops.{picks_go_on, picks_stop, picks_end}
use Rattle.mr_sched.proofs.reading.read_picks.Goals as goal

pub returns-in_default-read_number : goal.returns-in_default-read_number
returns-in_default-read_number c =
    let none : picks_of (parts_after 32 (option_copied c.args.words)) ≡ None =
    picks_stop c.loop-rest.picks (option_copied c.loop-rest.rest) c.in-Some.text.now c.cut.result.0.now (option_copied c.cut.result.1) _
    (ap option_copied c.in-Some.is) c.cut.ensures.parts (sym c.read_number.ensures ∙ c.in_default-read_number.is) c.loop-rest.invariant in
    rw (c.bad_line.ensures, none) refl

pub loop-rest-preserved : goal.loop-rest-preserved
loop-rest-preserved c =
    rw c.in_ok-push.ensures.ok (picks_go_on c.loop-rest.picks (option_copied c.loop-rest.rest) c.in-Some.text.now c.cut.result.0.now (option_copied c.cut.result.1) c.in-Some-read_number.pick _
    (ap option_copied c.in-Some.is) c.cut.ensures.parts (sym c.read_number.ensures ∙ c.in-Some-read_number.is) c.loop-rest.invariant)

pub returns : goal.returns
returns c = rw (picks_end c.loop-rest.picks (option_copied c.loop-rest.rest) _ (ap option_copied c.in_default.is) c.loop-rest.invariant) refl
