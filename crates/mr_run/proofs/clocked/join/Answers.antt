use Rattle.mr_run.proofs.Common.{◌∙◌, List, arith, refl, subst, sym, Tracks, Footprint}
use Rattle.mr_run.specs.Records.{AreAnalysed}
use Rattle.mr_run.proofs.Analysed.{before_it, known_more, known_still, longer, taken_back}
use Rattle.mr_run.proofs.clocked.join.Goals as goal

pub returns-in_err-reserve-clause-analysed : goal.returns-in_err-reserve-clause-analysed
returns-in_err-reserve-clause-analysed c =
    known_still c.args.steps.now.items c.args.steps.now.items c.args.order.now c.args.order.now c.args.races.now.items c.reserve.new.self.items refl refl c.in_err-reserve.ensures.items
    c.requires.analysed

pub returns-in_err-push_to-clause-analysed : goal.returns-in_err-push_to-clause-analysed
returns-in_err-push_to-clause-analysed c =
    known_still c.args.steps.now.items c.push_to.new.steps.items c.args.order.now c.args.order.now c.args.races.now.items c.reserve.new.self.items c.in_err-push_to.ensures.err refl
    c.in_ok-reserve.ensures.items c.requires.analysed

pub add-requires-clause-some : goal.add-requires-clause-some
add-requires-clause-some c = omega (arith, longer c.args.steps.now.items c.as_slice.result.now c.args.foot.now (c.as_slice.ensures.value ∙ c.in_ok-push_to.ensures.ok))

pub add-requires-clause-few : goal.add-requires-clause-few
add-requires-clause-few c =
    omega (arith, longer c.args.steps.now.items c.as_slice.result.now c.args.foot.now (c.as_slice.ensures.value ∙ c.in_ok-push_to.ensures.ok), c.requires.few)

pub add-requires-clause-tracks : goal.add-requires-clause-tracks
add-requires-clause-tracks c =
    subst (λ (l : List Footprint). Tracks c.args.order.now l) (sym (before_it c.args.steps.now.items c.as_slice.result.now c.args.foot.now (c.as_slice.ensures.value ∙ c.in_ok-push_to.ensures.ok)))
    c.requires.analysed.tracks

pub returns-in-Ok-clause-analysed : goal.returns-in-Ok-clause-analysed
returns-in-Ok-clause-analysed c =
    subst (λ (l : List Footprint). AreAnalysed l c.add.new.self c.note.new.races.items) c.as_slice.ensures.value
    (known_more c.args.steps.now.items c.as_slice.result.now c.args.foot.now (c.as_slice.ensures.value ∙ c.in_ok-push_to.ensures.ok) c.add.new.self c.reserve.new.self.items
    c.note.new.races.items c.in-Ok.partner c.len-last.result (c.in_ok-reserve.ensures.items ∙ c.requires.analysed.races) (c.len-last.ensures ∙ sym c.as_slice.ensures.len)
    c.in-Ok.ensures.partner c.note.ensures c.in-Ok.ensures.tracks)

pub returns-in-Err-clause-analysed : goal.returns-in-Err-clause-analysed
returns-in-Err-clause-analysed c =
    known_still c.args.steps.now.items c.pop.new.self.items c.args.order.now c.add.new.self c.args.races.now.items c.reserve.new.self.items
    (taken_back c.args.steps.now.items c.push_to.new.steps.items c.args.foot.now c.in_ok-push_to.ensures.ok c.pop.new.self.items c.push_to.new.steps.len c.push_to.new.steps.ok.0
    c.pop.ensures.rest)
    c.in-Err.ensures.err c.in_ok-reserve.ensures.items c.requires.analysed

pub returns-in-Err-clause-err : goal.returns-in-Err-clause-err
returns-in-Err-clause-err c =
    taken_back c.args.steps.now.items c.push_to.new.steps.items c.args.foot.now c.in_ok-push_to.ensures.ok c.pop.new.self.items c.push_to.new.steps.len c.push_to.new.steps.ok.0
    c.pop.ensures.rest
