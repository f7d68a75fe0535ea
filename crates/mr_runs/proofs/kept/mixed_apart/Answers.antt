use Rattle.mr_runs.proofs.Common.{◌≡◌, ◌∙◌, ◌+◌, ◌≤◌, ℕ, List, length, map, ap, arith, length-map, with_items_is, number_of, with_range_replaced}
use Rattle.mr_runs.proofs.StampLaws.{mixed_anew}
use Rattle.mr_runs.proofs.RangeLaws.{length-with_range_replaced}
use Rattle.mr_runs.proofs.kept.mixed_apart.Goals as goal

pub put_numbers-requires : goal.put_numbers-requires
put_numbers-requires c = let all = c.requires.sound.all in omega (arith, all, c.requires.inside, ap length c.as_mut_slice.ensures.value)

pub returns-clause-ok : goal.returns-clause-ok
returns-clause-ok c =
    let es = c.args.marks.now.entries in
    let ns = c.args.numbers.now.items in
    let bytes = c.args.bytes.now in
    let all = c.requires.sound.all in
    let new : c.put_numbers.new.numbers ≡ with_range_replaced ns c.args.from (map number_of bytes) =
    c.put_numbers.ensures ∙ ap (λ (xs : List ℕ). with_range_replaced xs c.args.from (map number_of bytes)) c.as_mut_slice.ensures.value in
    let fits : c.args.from + length (map number_of bytes) ≤ length ns = omega (arith, all, c.requires.inside, length-map bytes number_of) in
    let len : length c.put_numbers.new.numbers ≡ c.args.numbers.now.len = omega (arith, ap length new, length-with_range_replaced ns c.args.from (map number_of bytes) fits, c.args.numbers.now.ok.0) in
    let is = with_items_is c.args.numbers.now c.put_numbers.new.numbers len ∙ new in
    mixed_anew es c.set_marks.new.marks.entries ns _ c.args.len c.args.from bytes c.requires.sound c.requires.inside c.in_ok-set_marks.ensures.ok is
