use Rattle.mr_start.proofs.Common.{List, ap, sym, ◌∙◌, map, Memory, id_cmp, ranges_of, Ask, picks_fault, piece_of}
use Rattle.std.specs.FinMap as fin
use Rattle.mr_start.proofs.PlacedLaws.{over_empty}
use Rattle.mr_start.proofs.beginning.judge_start.Goals as goal

pub judge-requires-clause-uncounted : goal.judge-requires-clause-uncounted
judge-requires-clause-uncounted c = λ id thread count. ap (λ (m : Memory). fin.get m id) c.new-memory.ensures ∙ fin.get-empty id_cmp id

pub returns-in-Ok : goal.returns-in-Ok
returns-in-Ok c =
    let asks : List Ask = c.as_slice.result.now in
    let same = c.as_slice.ensures.value ∙ c.in_ok-asks.ensures in
    over_empty c.new-memory.result (map piece_of c.args.pieces.now) c.args.picks.now c.new-memory.ensures
    ∙ (λ i. picks_fault (sym c.in_ok-sync.ensures i).statuses (ranges_of c.new-memory.result) 0 0 (sym same i) c.args.picks.now)
    ∙ c.in-Ok.ensures

pub returns : goal.returns
returns c =
    let asks : List Ask = c.as_slice.result.now in
    let same = c.as_slice.ensures.value ∙ c.in_ok-asks.ensures in
    over_empty c.new-memory.result (map piece_of c.args.pieces.now) c.args.picks.now c.new-memory.ensures
    ∙ (λ i. picks_fault (sym c.in_ok-sync.ensures i).statuses (ranges_of c.new-memory.result) 0 0 (sym same i) c.args.picks.now)
    ∙ c.in-Err.ensures
