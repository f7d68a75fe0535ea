use Rattle.mr_parse.proofs.Common.{◌≡◌, ◌-◌, codes, switch_case_form, switch_cases_form, other_than, read, many_at}
use Rattle.mr_parse.proofs.Walk.LoopLaws.{with_front}
use Rattle.mr_parse.proofs.statements.switch_cases.Given as goal

abbrev pub invariant-loop : goal.invariant-loop
invariant-loop l =
    with_front l.cases (many_at (λ k. read l.room l.scope (switch_case_form)) (other_than (codes "_")) (l.most - l.counter) l.counter l.reader)
    ≡ read l.room l.scope switch_cases_form l.fn.reader
