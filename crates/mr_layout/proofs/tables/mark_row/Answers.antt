use Rattle.mr_layout.proofs.Common.{ℕ, List, subst, Marks, is_first, is_row_mark}
use Rattle.mr_layout.proofs.TableLaws.{full_row, marks_alike, marks_row, marks_wide}
use Rattle.mr_layout.proofs.tables.mark_row.Goals as goal

pub returns-then-row-ge-WIDE-clause-marks : goal.returns-then-row-ge-WIDE-clause-marks
returns-then-row-ge-WIDE-clause-marks c = λ _.
    marks_row c.args.start c.args.count c.row_bytes-bytes.result c.args.row.now c.args.table.now c.mark_rows.new.table c.row_bytes-bytes.ensures c.mark_rows.ensures

pub returns-then-is_full-clause-marks : goal.returns-then-is_full-clause-marks
returns-then-is_full-clause-marks c = λ _.
    let row = c.args.row.now in
    let bytes = c.row_bytes-bytes.result in
    marks_row c.args.start c.args.count bytes row c.args.table.now c.mark_first.new.table c.row_bytes-bytes.ensures
    (marks_alike (is_first bytes) (is_row_mark row bytes) c.args.start c.args.table.now c.mark_first.new.table (full_row row bytes c.requires.some (c.is_full.ensures c.if-is_full.true)) c.mark_first.ensures)

pub returns-in-Ok-clause-marks : goal.returns-in-Ok-clause-marks
returns-in-Ok-clause-marks c = λ _.
    marks_row c.args.start c.args.count c.row_bytes-bytes.result c.args.row.now c.args.table.now c.mark_rows-in-Ok.new.table c.row_bytes-bytes.ensures
    (marks_wide c.args.start c.row_bytes-bytes.result c.args.row.now c.in-Ok.wide.items c.args.table.now c.mark_rows-in-Ok.new.table c.in-Ok.ensures.some c.in-Ok.ensures.whole c.in-Ok.ensures.same
    (subst (λ (w : List ℕ). Marks (is_row_mark w c.row_bytes-bytes.result) c.args.start c.args.table.now c.mark_rows-in-Ok.new.table) c.as_slice.ensures.value c.mark_rows-in-Ok.ensures))
