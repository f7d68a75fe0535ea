use Rattle.mr_runs.proofs.Common.{◌≡◌, ◌∙◌, ◌+◌, ◌-◌, ◌≤◌, Some, None, length, sym, refl, ap, subst, arith, same_Some, with_numbers_at, with_provenance, TakesNumbers, SeenPiece, bytes_of_piece, mark_of, piece_len}
use Rattle.mr_runs.proofs.FindLaws.{holds_found}
use Rattle.mr_runs.proofs.InPlaceLaws.{numbers_fit, numbers_put, replaced_in_place}
use Rattle.mr_runs.proofs.replace.put_in_place.Goals as goal

pub put_numbers-requires : goal.put_numbers-requires
put_numbers-requires c =
    let begin = c.run_at-begin.result.0 in
    let p = c.run_at-begin.result.1.now in
    let same : c.in-Some.run'.now ≡ p = same_Some c.in-Some.run'.now p (c.in-Some.ensures.value ∙ holds_found c.args.runs.now.entries c.args.from begin p c.requires.tiled c.run_at-begin.ensures) in
    let P : SeenPiece → Type 0 = λ q. TakesNumbers q (c.args.from - begin) (length c.args.numbers.now) c.args.provenance in
    (c.args.provenance, subst P (sym same) (c.if-not-takes_numbers.ensures.0 refl))

pub unreachable-requires : goal.unreachable-requires
unreachable-requires c =
    let begin = c.run_at-begin.result.0 in
    let p = c.run_at-begin.result.1.now in
    let none : None ≡ Some p = c.in-None.ensures.value ∙ holds_found c.args.runs.now.entries c.args.from begin p c.requires.tiled c.run_at-begin.ensures in
    cc

pub returns-clause-done : goal.returns-clause-done
returns-clause-done c =
    let es = c.args.runs.now.entries in
    let from = c.args.from in
    let numbers = c.args.numbers.now in
    let begin = c.run_at-begin.result.0 in
    let p = c.run_at-begin.result.1.now in
    let w = c.put_numbers.new.self in
    let same : c.in-Some.run'.now ≡ p = same_Some c.in-Some.run'.now p (c.in-Some.ensures.value ∙ holds_found es from begin p c.requires.tiled c.run_at-begin.ensures) in
    let taken : TakesNumbers p (from - begin) (length numbers) c.args.provenance = c.if-not-takes_numbers.ensures.0 refl in
    let fits : from - begin + length numbers ≤ piece_len p = numbers_fit p (from - begin) (length numbers) c.args.provenance taken in
    let is : w ≡ with_numbers_at p (from - begin) numbers = c.put_numbers.ensures ∙ ap (λ (q : SeenPiece). with_numbers_at q (from - begin) numbers) same in
    let put = numbers_put p (from - begin) numbers c.args.provenance taken in
    let low : begin ≤ from = c.run_at-begin.ensures.from in
    λ yes. replaced_in_place es from begin p w (with_provenance c.args.provenance numbers) c.requires.tiled c.run_at-begin.ensures
    (omega (arith, put.count)) (omega (arith, put.count, c.requires.some))
    (ap bytes_of_piece is ∙ put.bytes_are) (ap mark_of is ∙ put.marks) (ap piece_len is ∙ put.lens)
    (c.get_mut.follows.lender w).entries (c.get_mut.follows.holds w).0
