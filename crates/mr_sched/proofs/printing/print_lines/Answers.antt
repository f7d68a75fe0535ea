use Rattle.mr_sched.proofs.Common.{ap, ◌∙◌, ◌++◌, List, ℕ}
use Rattle.std.proofs.lemmas.Result.{on_ok_weaker}
use Rattle.mr_sched.proofs.VersionLaws.{text_by_pieces}
use Rattle.mr_sched.proofs.printing.print_lines.Goals as goal

pub returns-clause-ok : goal.returns-clause-ok
returns-clause-ok c =
    let picks = rw c.as_slice.ensures at c.in_ok-print_picks.ensures.ok in
    let groups = rw c.as_slice-2.ensures at c.print_groups.ensures.ok in
    let head = c.in_ok-extend_from_slice.ensures.items ∙ ap (λ (h : List ℕ). c.args.out.now.items ++ h) c.header.ensures in
    on_ok_weaker c.print_groups.result
    (text_by_pieces c.args.v c.args.out.now.items c.extend_from_slice.new.self.items c.extend_from_slice-2.new.self.items c.print_picks.new.out.items c.extend_from_slice-3.new.self.items c.print_groups.new.out.items c.args.s.now
    head c.in_ok-extend_from_slice-2.ensures.items picks c.in_ok-extend_from_slice-3.ensures.items)
    groups
