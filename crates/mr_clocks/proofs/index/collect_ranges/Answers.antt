use Rattle.mr_clocks.proofs.Common.{◌≡◌, ℕ, false, get_or, ap, sym, ◌∙◌, arith, get_or_default, Any-from_list_any, ℕ_discrete, Access, conflicts}
use Rattle.mr_clocks.proofs.index.collect_ranges.Goals as goal

pub loop-i-preserved : goal.loop-i-preserved
loop-i-preserved c =
    let none : Access = record { store = false; atomic = false; addr = 0; len = 0 } in
    let accesses = c.args.accesses.now in
    record {
      kept = λ x t. c.in_ok-collect_range.ensures.kept x (c.loop-i.invariant.kept x t);
      all = λ d z r x lt con m asked.
          elim (ℕ_discrete z c.loop-i.i) [
            | no ne ↦ c.in_ok-collect_range.ensures.kept x (c.loop-i.invariant.all d z r x (omega (arith, lt, ne)) con m asked)
            | yes is ↦
                let same : get_or accesses z d ≡ get_or accesses c.loop-i.i none = ap (λ (q : ℕ). get_or accesses q d) is ∙ get_or_default accesses c.loop-i.i d none c.loop-i-test.true in
                c.in_ok-collect_range.ensures.all r x (ap (conflicts r) (sym same) ∙ con) m asked
          ];
    }

pub returns-clause-all : goal.returns-clause-all
returns-clause-all c = λ r x con m asked.
    let a = Any-from_list_any (conflicts r) c.args.accesses.now con in
    let inside = a.2 in
    c.loop-i.invariant.all a.1 a.0 r x (omega (arith, inside)) (ap (conflicts r) a.3 ∙ a.4) m asked
