use Rattle.mr_rust_order.proofs.Common.{sym, ap, ◌∙◌, subst, arith, ℕ_discrete, conflicts, Row, IsListed, row_at}
use Rattle.mr_rust_order.proofs.memos.count_one.Goals as goal

pub returns-clause-memo : goal.returns-clause-memo
returns-clause-memo c =
    let rows = c.args.rows.now in
    let old = c.args.memo.now in
    let more = c.requires.within in
    record {
      within = omega (arith, more);
      met = λ y lt con. elim (ℕ_discrete y old.count) [
        | no ne ↦ c.in_ok-push_if.ensures.kept y (c.requires.memo.met y (omega (arith, lt, ne)) con)
        | yes is ↦
            subst (IsListed c.push_if.new.found.items) (sym is)
            (c.in_ok-push_if.ensures.here
            (c.conflict-wanted.ensures ∙ ap (λ (r : Row). conflicts r.range old.access) (c.row_at-row.ensures ∙ ap (row_at rows) (sym is)) ∙ con))
      ];
    }
