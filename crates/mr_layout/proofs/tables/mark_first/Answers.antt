use Rattle.mr_layout.proofs.TableLaws.{marks_put}
use Rattle.mr_layout.proofs.tables.mark_first.Goals as goal

pub returns : goal.returns
returns c = marks_put c.args.start c.args.len c.args.table.now c.put.new.table c.put.ensures.long c.put.ensures.before c.put.ensures.inside c.put.ensures.after
