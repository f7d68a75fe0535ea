use Rattle.mr_rust_order.proofs.Common.{List, inl, inr, refl, subst, sym, Shelf, AreKept}
use Rattle.mr_rust_order.proofs.MarkLaws.{all_kept}
use Rattle.mr_rust_order.proofs.taking.place_for.Goals as goal

pub returns-in-Some-clause-place : goal.returns-in-Some-clause-place
returns-in-Some-clause-place c = inl c.in-Some.ensures

pub returns-clause-marked : goal.returns-clause-marked
returns-clause-marked c =
    let e = c.in_ok-mark_row.ensures in
    all_kept c.args.index.now.shelves.items c.mark_row.new.index.shelves.items c.args.index.now.marks.keys c.mark_row.new.index.marks.keys c.args.rows.now
    (subst (λ (l : List Shelf). AreKept c.args.index.now.shelves.items l) (sym e.shelves) c.in_ok-shelf.ensures.kept) e.kept c.requires

pub returns-clause-place : goal.returns-clause-place
returns-clause-place c = inr (refl, c.in_ok-mark_row.ensures.marked)
