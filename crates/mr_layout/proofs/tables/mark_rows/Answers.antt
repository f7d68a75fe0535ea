use Rattle.mr_layout.proofs.Common.{◌+◌, length, mod-eq_of_lt}
use Rattle.mr_layout.proofs.TableLaws.{marks_max, rows_none, rows_next, rows_all, whole_next}
use Rattle.mr_layout.proofs.tables.mark_rows.Goals as goal

pub loop-done-init : goal.loop-done-init
loop-done-init c = record {
  whole = mod-eq_of_lt c.requires.some;
  marks = rows_none c.args.start c.args.bytes c.args.row.now c.args.table.now;
}

pub loop-done-preserved : goal.loop-done-preserved
loop-done-preserved c = record {
  whole = whole_next (length c.args.row.now) c.loop-done.done c.loop-done.invariant.whole;
  marks =
      rows_next c.args.start c.args.bytes c.loop-done.done c.args.row.now c.first.result.now c.args.table.now c.loop-done.table c.mark.new.table
      c.requires.some c.loop-done.invariant.whole c.first.ensures.bytes c.loop-done.invariant.marks
      (marks_max (c.args.start + c.loop-done.done) c.first.result.now c.loop-done.table c.mark.new.table c.mark.ensures.long c.mark.ensures.before c.mark.ensures.inside c.mark.ensures.after);
}

pub returns : goal.returns
returns c = rows_all c.args.start c.args.bytes c.loop-done.done c.args.row.now c.args.table.now c.loop-done.table c.loop-done-test.false c.loop-done.invariant.marks
