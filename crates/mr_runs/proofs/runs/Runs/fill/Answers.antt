use Rattle.mr_runs.proofs.Common.{◌≡◌, ◌∙◌, List, replicate, sym, ap, on_ok_weaker, AbstractByte, Init, with_provenance, with_range_replaced}
use Rattle.mr_runs.proofs.RangeLaws.{map_repeated}
use Rattle.mr_runs.proofs.runs.Runs.fill.Goals as goal

pub returns-in_ok-numbers-in-Init-clause-ok : goal.returns-in_ok-numbers-in-Init-clause-ok
returns-in_ok-numbers-in-Init-clause-ok c =
    let len = c.args.len in
    let provenance = c.in-Init.provenance in
    let same : with_provenance provenance c.as_slice.result.now ≡ replicate len c.args.byte =
    ap (with_provenance provenance) (c.as_slice.ensures.value ∙ c.in_ok-numbers-in-Init.ensures.items_if_clones_equal (λ y same. same))
    ∙ map_repeated (λ n. Init n provenance) len c.in-Init.number
    ∙ ap (λ (b : AbstractByte). replicate len b) (sym c.in-Init.is) in
    on_ok_weaker c.write_numbers.result
    (λ is. is ∙ ap (λ (bs : List AbstractByte). with_range_replaced c.args.self.now c.args.from bs) same)
    c.write_numbers.ensures.ok
