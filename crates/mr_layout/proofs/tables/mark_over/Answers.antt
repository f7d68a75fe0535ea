use Rattle.mr_layout.proofs.Common.{arith, is_mark}
use Rattle.mr_layout.proofs.TableLaws.{marks_nothing, marks_max, marks_over}
use Rattle.mr_layout.proofs.tables.mark_over.Goals as goal

pub returns-then-bytes-start : goal.returns-then-bytes-start
returns-then-bytes-start c = marks_nothing (is_mark c.args.other.now) c.args.start c.args.table.now (omega arith)

pub returns : goal.returns
returns c =
    marks_over c.args.start c.args.other.now c.first.result.now c.args.table.now c.mark.new.table c.first.ensures.bytes
    (marks_max c.args.start c.first.result.now c.args.table.now c.mark.new.table c.mark.ensures.long c.mark.ensures.before c.mark.ensures.inside c.mark.ensures.after)
