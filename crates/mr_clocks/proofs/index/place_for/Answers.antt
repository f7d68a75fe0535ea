use Rattle.mr_clocks.proofs.Common.{List, ℕ, refl, subst, ◌∙◌, sym, Shelf, Row, AreKept, AreMarked, IsMarked, IsGrown, IsRowFor}
use Rattle.mr_clocks.proofs.MarkLaws.{all_kept, grown_push, grown_same, marked_push, row_pushed}
use Rattle.mr_clocks.proofs.index.place_for.Goals as goal

pub returns-in_err-shelf-clause-marked : goal.returns-in_err-shelf-clause-marked
returns-in_err-shelf-clause-marked c =
    let marks = c.args.index.now.marks.keys in
    all_kept c.args.index.now.shelves.items c.use_shelf.new.shelves.items marks marks c.args.rows.now.items c.in_err-shelf.ensures.kept (λ m h. h) c.requires

pub returns-in_err-shelf-clause-grown : goal.returns-in_err-shelf-clause-grown
returns-in_err-shelf-clause-grown c = grown_same c.args.rows.now.items

pub returns-in-Some-clause-marked : goal.returns-in-Some-clause-marked
returns-in-Some-clause-marked c =
    let marks = c.args.index.now.marks.keys in
    all_kept c.args.index.now.shelves.items c.use_shelf.new.shelves.items marks marks c.args.rows.now.items c.in_ok-shelf.ensures.kept (λ m h. h) c.requires

pub returns-in-Some-clause-grown : goal.returns-in-Some-clause-grown
returns-in-Some-clause-grown c = grown_same c.args.rows.now.items

pub returns-in-Some-clause-row : goal.returns-in-Some-clause-row
returns-in-Some-clause-row c = subst (λ (l : List Row). IsRowFor l c.in-Some.x c.args.key c.args.thread) c.as_slice.ensures.value c.in-Some.ensures

pub returns-in_err-mark_row-clause-marked : goal.returns-in_err-mark_row-clause-marked
returns-in_err-mark_row-clause-marked c =
    let e = c.in_err-mark_row.ensures in
    all_kept c.args.index.now.shelves.items c.mark_row.new.index.shelves.items c.args.index.now.marks.keys c.mark_row.new.index.marks.keys c.args.rows.now.items
    (subst (λ (l : List Shelf). AreKept c.args.index.now.shelves.items l) (sym e.shelves) c.in_ok-shelf.ensures.kept) e.kept c.requires

pub returns-in_err-mark_row-clause-grown : goal.returns-in_err-mark_row-clause-grown
returns-in_err-mark_row-clause-grown c = grown_same c.args.rows.now.items

pub returns-in_err-push-clause-marked : goal.returns-in_err-push-clause-marked
returns-in_err-push-clause-marked c =
    let e = c.in_ok-mark_row.ensures in
    subst (λ (l : List Row). AreMarked c.mark_row.new.index.shelves.items c.mark_row.new.index.marks.keys l) (sym c.in_err-push.ensures.items)
    (all_kept c.args.index.now.shelves.items c.mark_row.new.index.shelves.items c.args.index.now.marks.keys c.mark_row.new.index.marks.keys c.args.rows.now.items
    (subst (λ (l : List Shelf). AreKept c.args.index.now.shelves.items l) (sym e.shelves) c.in_ok-shelf.ensures.kept) e.kept c.requires)

pub returns-in_err-push-clause-grown : goal.returns-in_err-push-clause-grown
returns-in_err-push-clause-grown c = subst (λ (l : List Row). IsGrown c.args.rows.now.items l) (sym c.in_err-push.ensures.items) (grown_same c.args.rows.now.items)

pub returns-clause-marked : goal.returns-clause-marked
returns-clause-marked c =
    let e = c.in_ok-mark_row.ensures in
    let rows = c.args.rows.now.items in
    let shelves = c.mark_row.new.index.shelves.items in
    let marks = c.mark_row.new.index.marks.keys in
    let row : Row = record { key = c.args.key; thread = c.args.thread; last = 0 } in
    marked_push shelves marks rows c.push.new.self.items row
    (all_kept c.args.index.now.shelves.items shelves c.args.index.now.marks.keys marks rows
    (subst (λ (l : List Shelf). AreKept c.args.index.now.shelves.items l) (sym e.shelves) c.in_ok-shelf.ensures.kept) e.kept c.requires)
    (subst (λ (x : ℕ). IsMarked shelves marks c.args.key x) (c.len-row.ensures ∙ c.args.rows.now.ok.0) e.marked) c.in_ok-push.ensures.items

pub returns-clause-grown : goal.returns-clause-grown
returns-clause-grown c =
    let rows = c.args.rows.now.items in
    grown_push rows rows c.push.new.self.items (record { key = c.args.key; thread = c.args.thread; last = 0 }) (grown_same rows) refl c.in_ok-push.ensures.items

pub returns-clause-row : goal.returns-clause-row
returns-clause-row c =
    row_pushed c.args.rows.now.items c.push.new.self.items (record { key = c.args.key; thread = c.args.thread; last = 0 }) c.len-row.result (c.len-row.ensures ∙ c.args.rows.now.ok.0) c.in_ok-push.ensures.items
