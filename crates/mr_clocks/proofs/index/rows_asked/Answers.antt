use Rattle.mr_clocks.proofs.Common.{inl, inr, List, sym, ap, ◌∙◌, subst, Contains, Key, asks, IsMarked, IsAsked, row_at}
use Rattle.mr_clocks.proofs.KeyLists.{asked_listed, exact_or_range}
use Rattle.mr_clocks.proofs.index.rows_asked.Goals as goal

pub returns : goal.returns
returns c = λ x within apart asked.
    let g = c.args.step.now in
    let rows = c.args.rows.now in
    let key = (row_at rows x).key in
    let marked = c.requires x within in
    let is : IsAsked g rows x = record { within = within; apart = apart; asked = asked } in
    elim (exact_or_range key) [
      | inl exact ↦
          c.in_ok-find_ranges.ensures.kept x
          (c.in_ok-collect_keys.ensures.all key x exact (subst (λ (l : List Key). Contains l key) (sym (c.as_slice.ensures.value ∙ c.in_ok-keys.ensures)) (asked_listed g key exact asked)) marked is)
      | inr t ↦
          c.in_ok-find_ranges.ensures.all t.0 x (ap (asks g) (sym t.1) ∙ asked)
          (subst (λ (k : Key). IsMarked c.args.index.now.shelves.items c.args.index.now.marks.keys k x) t.1 marked) is
    ]
