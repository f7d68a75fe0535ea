use Rattle.mr_labels.proofs.Common.{◌∙◌, ap, sym, subst, List, filter, Allocation, has_bytes, is_apart}
use Rattle.std.specs.List.Sorted.{IsPermutation}
use Rattle.mr_labels.proofs.allocations.Allocations.new.Goals as goal

pub invariant_of-result : goal.invariant_of-result
invariant_of-result c = λ on. record {
  moved =
      subst (λ (xs : List Allocation). IsPermutation xs c.put_in_order.new.rows.items)
      (c.in_ok-index.ensures ∙ ap (filter has_bytes) c.as_slice.ensures.value) c.in_ok-put_in_order.ensures;
  apart = ap (is_apart 0) (sym c.as_slice-2.ensures.value) ∙ sym c.are_apart-apart.ensures ∙ on;
}
