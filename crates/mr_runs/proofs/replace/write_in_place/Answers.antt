use Rattle.mr_runs.proofs.Common.{◌≡◌, ◌∙◌, ℕ, ◌+◌, ◌-◌, ◌≤◌, Some, None, length, sym, refl, ap, subst, arith, both_ways, same_Some, IsInPlace, SeenPiece, bytes_of_piece, mark_of, piece_len, with_range_replaced}
use Rattle.mr_runs.proofs.FindLaws.{holds_found}
use Rattle.mr_runs.proofs.GrowLaws.{same_begin, same_holder}
use Rattle.mr_runs.proofs.InPlaceLaws.{in_place_fits, replaced_in_place}
use Rattle.mr_runs.proofs.replace.write_in_place.Goals as goal

pub put-requires : goal.put-requires
put-requires c =
    let begin = c.run_at-begin.result.0 in
    let p = c.run_at-begin.result.1.now in
    let same : c.in-Some.run'.now ≡ p = same_Some c.in-Some.run'.now p (c.in-Some.ensures.value ∙ holds_found c.args.runs.now.entries c.args.from begin p c.requires.tiled c.run_at-begin.ensures) in
    let P : SeenPiece → Type 0 = λ q. IsInPlace q (c.args.from - begin) c.args.bytes.now in
    subst P (sym same) (c.if-not-takes.ensures.0 refl)

pub unreachable-requires : goal.unreachable-requires
unreachable-requires c =
    let begin = c.run_at-begin.result.0 in
    let p = c.run_at-begin.result.1.now in
    let none : None ≡ Some p = c.in-None.ensures.value ∙ holds_found c.args.runs.now.entries c.args.from begin p c.requires.tiled c.run_at-begin.ensures in
    cc

pub returns-clause-done : goal.returns-clause-done
returns-clause-done c =
    let es = c.args.runs.now.entries in
    let from = c.args.from in
    let bytes = c.args.bytes.now in
    let begin = c.run_at-begin.result.0 in
    let p = c.run_at-begin.result.1.now in
    let w = c.put.new.self in
    let same : c.in-Some.run'.now ≡ p = same_Some c.in-Some.run'.now p (c.in-Some.ensures.value ∙ holds_found es from begin p c.requires.tiled c.run_at-begin.ensures) in
    let inside : from - begin + length bytes ≤ piece_len p = in_place_fits p (from - begin) bytes (c.if-not-takes.ensures.0 refl) in
    let low : begin ≤ from = c.run_at-begin.ensures.from in
    λ yes. replaced_in_place es from begin p w bytes c.requires.tiled c.run_at-begin.ensures (omega arith) c.requires.some
    (c.put.ensures.bytes_are ∙ ap (λ (q : SeenPiece). with_range_replaced (bytes_of_piece q) (from - begin) bytes) same)
    (c.put.ensures.same ∙ ap mark_of same) (c.put.ensures.len ∙ ap piece_len same)
    (c.get_mut.follows.lender w).entries (c.get_mut.follows.holds w).0

pub returns-then-not-takes-clause-never : goal.returns-then-not-takes-clause-never
returns-then-not-takes-clause-never c = λ no begin piece h inside.
    let es = c.args.runs.now.entries in
    let from = c.args.from in
    let p = c.run_at-begin.result.1.now in
    let begins : begin ≡ c.run_at-begin.result.0 = same_begin es from begin c.run_at-begin.result.0 piece p c.requires.tiled h c.run_at-begin.ensures in
    let pieces : piece ≡ p = same_holder es from begin c.run_at-begin.result.0 piece p c.requires.tiled h c.run_at-begin.ensures in
    let P : SeenPiece → Type 0 = λ q. IsInPlace q (from - begin) c.args.bytes.now in
    let Q : ℕ → Type 0 = λ n. IsInPlace p (from - n) c.args.bytes.now in
    both_ways c.takes.result c.if-not-takes.true (c.takes.ensures.1 (subst Q begins (subst P pieces inside)))
