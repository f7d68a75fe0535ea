use Rattle.mr_parse.proofs.Common.{◌≡◌, ◌+◌, ◌-◌, ◌*◌, codes, other_than, case_form, cases_form, read, many_at}
use Rattle.mr_parse.proofs.Walk.LoopLaws.{with_front}
use Rattle.mr_parse.proofs.reader.Reader.+trees.Given as goal

abbrev pub decreases-tree : goal.decreases-tree
decreases-tree l = 5 * l.room + 1

abbrev pub decreases-branch : goal.decreases-branch
decreases-branch l = 5 * l.room

abbrev pub decreases-all_cases : goal.decreases-all_cases
decreases-all_cases l = 5 * l.room + 4

abbrev pub decreases-other_tree : goal.decreases-other_tree
decreases-other_tree l = 5 * l.room + 2

abbrev pub decreases-cases : goal.decreases-cases
decreases-cases l = 5 * l.room + 3

abbrev pub decreases-case : goal.decreases-case
decreases-case l = 5 * l.room + 2

abbrev pub invariant-cases-loop : goal.invariant-cases-loop
invariant-cases-loop l =
    with_front l.cases (many_at (λ k. read l.room l.scope case_form) (other_than (codes "_")) (l.most - l.counter) l.counter l.self)
    ≡ read l.room l.scope cases_form l.fn.self
