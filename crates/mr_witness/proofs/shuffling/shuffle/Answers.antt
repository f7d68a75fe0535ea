use Rattle.mr_witness.proofs.Common.{◌∙◌, ap, length, arith}
use Rattle.mr_witness.proofs.Copied.{all_copied, places_within, shuffled_same}
use Rattle.mr_witness.proofs.Drawn.{shuffled_rearranged}
use Rattle.mr_witness.proofs.shuffling.shuffle.Goals as goal

pub reordered-requires-clause-places : goal.reordered-requires-clause-places
reordered-requires-clause-places c =
    let same = ap length c.as_slice-recorded.ensures in
    places_within c.args.run.now c.args.number c.as_slice.result.now c.as_slice-recorded.result.now (c.as_slice.ensures.value ∙ c.in_ok-order.ensures) (let few = c.requires.few in omega (arith, few, same))

pub returns-clause-shuffled : goal.returns-clause-shuffled
returns-clause-shuffled c =
    all_copied c.args.run.now c.args.s.now c.args.number c.in_ok-order.order.items c.as_slice.result.now c.as_slice-recorded.result.now c.in_ok-entries.entries c.in_ok-start.start
    c.as_slice-recorded.ensures c.in_ok-order.ensures c.as_slice.ensures.value c.in_ok-entries.ensures (c.in_ok-start.ensures ∙ c.as_slice-2.ensures)

pub returns-clause-rearranged : goal.returns-clause-rearranged
returns-clause-rearranged c = shuffled_rearranged c.args.run.now c.args.number

pub returns-clause-same : goal.returns-clause-same
returns-clause-same c = shuffled_same c.args.run.now c.args.s.now _ c.args.number (returns-clause-shuffled c)
