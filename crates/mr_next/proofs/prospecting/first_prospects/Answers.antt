use Rattle.mr_next.proofs.Common.{◌≡◌, ap, arith, ◌++◌, ◌∷◌, [], ◌∙◌, ap₂, map, range_with_len, prospect_in}
use Rattle.mr_next.proofs.ProspectLaws.{thread_more}
use Rattle.mr_next.proofs.prospecting.first_prospects.Goals as goal

pub loop-thread-preserved : goal.loop-thread-preserved
loop-thread-preserved c = λ s here.
    let f = prospect_in c.args.machine.now.look s in
    c.in_ok-push.ensures.items
    ∙ ap₂ (λ ps p. ps ++ p ∷ []) (c.loop-thread.invariant s here) (c.in_ok-prospect.ensures s here)
    ∙ thread_more f c.loop-thread.thread

pub returns : goal.returns
returns c = λ s here.
    let above = c.loop-thread.auto.thread-end in
    let over = c.loop-thread-test.false in
    let all : c.loop-thread.thread ≡ c.args.count = omega arith in
    c.loop-thread.invariant s here ∙ ap (λ n. map (prospect_in c.args.machine.now.look s) (range_with_len 0 n)) all
