use Rattle.mr_clocks.proofs.Common.{ap, sym, ◌∙◌, arith, has_mark, mark_of}
use Rattle.mr_clocks.proofs.MarkLaws.{marked_new, marks_kept}
use Rattle.mr_clocks.proofs.index.mark_row.Goals as goal

pub returns-clause-kept : goal.returns-clause-kept
returns-clause-kept c = marks_kept c.args.index.now.marks.keys c.insert.new.self.keys (mark_of c.args.shelf c.key_place-place.result c.args.thread c.args.row) c.in_ok-insert.ensures.updates.0

pub returns-clause-marked : goal.returns-clause-marked
returns-clause-marked c =
    let marks = c.insert.new.self.keys in
    marked_new c.args.index.now.shelves.items marks c.args.key c.args.row c.args.thread c.args.shelf (omega arith) (omega arith) c.requires
    (ap (λ p. has_mark marks (mark_of c.args.shelf p c.args.thread c.args.row)) (sym c.key_place-place.ensures) ∙ c.in_ok-insert.ensures.updates.1)
