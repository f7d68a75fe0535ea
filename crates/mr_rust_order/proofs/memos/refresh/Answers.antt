use Rattle.mr_rust_order.proofs.Common.{◌∙◌, arith, row_at}
use Rattle.mr_rust_order.proofs.MemoLaws.{memo_serves}
use Rattle.mr_rust_order.proofs.memos.refresh.Goals as goal

pub returns-then-same_access-clause-met : goal.returns-then-same_access-clause-met
returns-then-same_access-clause-met c =
    let e = c.in_ok-catch_up.ensures in
    memo_serves c.args.rows.now c.catch_up.new.memo c.args.access e.memo e.all (e.access ∙ c.same_access.ensures c.if-same_access.true)

pub returns-clause-met : goal.returns-clause-met
returns-clause-met c = λ x lt con. c.in_ok-find_rows.ensures (row_at c.args.rows.now x).range x con (c.requires.marked x lt)

pub returns-clause-memo : goal.returns-clause-memo
returns-clause-memo c = record {
  within = omega arith;
  met = λ x lt con. c.in_ok-find_rows.ensures (row_at c.args.rows.now x).range x con (c.requires.marked x lt);
}
