use Rattle.mr_runs.proofs.Common.{◌≡◌, ◌∙◌, ◌+◌, ◌≤◌, ℕ, List, length, ap, subst, arith, with_items_is, marked_piece, numbers_of, bytes_of_piece, mark_of, piece_len, IsReplaced, with_range_replaced, seen_piece}
use Rattle.mr_runs.proofs.StampLaws.{numbers_within, put_anew}
use Rattle.mr_runs.proofs.RangeLaws.{length-with_range_replaced}
use Rattle.mr_runs.proofs.kept.put_apart.Goals as goal

pub replace_numbers-requires : goal.replace_numbers-requires
replace_numbers-requires c =
    let within = numbers_within (seen_piece c.args.piece) in
    let all = c.requires.sound.all in
    omega (arith, within, all, c.requires.inside, ap length c.numbers.ensures, ap length c.as_mut_slice.ensures.value)

pub returns-clause-ok : goal.returns-clause-ok
returns-clause-ok c =
    let es = c.args.marks.now.entries in
    let ns = c.args.numbers.now.items in
    let p = seen_piece c.args.piece in
    let within = numbers_within p in
    let all = c.requires.sound.all in
    let new : c.replace_numbers.new.numbers ≡ with_range_replaced ns c.args.from (numbers_of p) =
    c.replace_numbers.ensures ∙ ap (λ (xs : List ℕ). with_range_replaced xs c.args.from c.numbers.result.now) c.as_mut_slice.ensures.value ∙ ap (with_range_replaced ns c.args.from) c.numbers.ensures in
    let fits : c.args.from + length (numbers_of p) ≤ length ns = omega (arith, within, all, c.requires.inside) in
    let len : length c.replace_numbers.new.numbers ≡ c.args.numbers.now.len = omega (arith, ap length new, length-with_range_replaced ns c.args.from (numbers_of p) fits, c.args.numbers.now.ok.0) in
    let is = with_items_is c.args.numbers.now c.replace_numbers.new.numbers len ∙ new in
    let marks : IsReplaced es c.set_mark.new.marks.entries c.args.from (bytes_of_piece (marked_piece (piece_len p) (mark_of p))) =
    subst (λ m. IsReplaced es c.set_mark.new.marks.entries c.args.from (bytes_of_piece (marked_piece (piece_len p) m))) c.mark.ensures
    (subst (λ n. IsReplaced es c.set_mark.new.marks.entries c.args.from (bytes_of_piece (marked_piece n c.mark.result))) c.len.ensures c.in_ok-set_mark.ensures.ok) in
    put_anew es c.set_mark.new.marks.entries ns _ c.args.len c.args.from p c.requires.sound c.requires.inside marks is
