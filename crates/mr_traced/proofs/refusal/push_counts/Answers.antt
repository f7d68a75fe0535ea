use Rattle.mr_traced.proofs.Common.{[], ◌∷◌, ◌++◌, codes, decimal, behind}
use Rattle.mr_traced.proofs.refusal.push_counts.Goals as goal

pub returns : goal.returns
returns c =
    let old = c.args.out.now.items in
    let sites = decimal c.args.sites in
    let words = codes " steps, and the trace has " in
    let steps = decimal c.args.steps in
    behind old (sites ++ words ++ steps) (10 ∷ []) _ _
    (behind old (sites ++ words) steps _ _
    (behind old sites words _ _ c.in_ok-push_number.ensures c.in_ok-extend_from_slice.ensures.items)
    c.in_ok-push_number-2.ensures)
    c.in_ok-push.ensures.items
