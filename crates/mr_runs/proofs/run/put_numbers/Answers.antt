use Rattle.mr_runs.proofs.Common.{◌≡◌, ◌∙◌, [], ◌∷◌, ◌++◌, refl, sym, ap, arith, map, take, length, length-take, length-map, Uninit, number_of, with_range_replaced}
use Rattle.std.proofs.lemmas.List.{map_more}
use Rattle.mr_runs.proofs.RangeLaws.{range_grows}
use Rattle.mr_runs.proofs.run.put_numbers.Goals as goal

pub loop-index-preserved : goal.loop-index-preserved
loop-index-preserved c =
    let i = c.loop-index.index in
    let bytes = c.args.bytes.now in
    let done = map number_of (take i bytes) in
    let done_len : length (map number_of (take i bytes)) ≡ i = omega (arith, length-map (take i bytes) number_of, length-take i bytes) in
    range_grows c.args.numbers.now c.loop-index.numbers _ c.args.at done i c.number.result c.loop-index.invariant refl done_len (omega arith)
    ∙ ap (λ n. with_range_replaced c.args.numbers.now c.args.at (map number_of (take i bytes) ++ n ∷ [])) c.number.ensures
    ∙ ap (with_range_replaced c.args.numbers.now c.args.at) (sym (map_more number_of bytes i Uninit c.loop-index-test.true))
