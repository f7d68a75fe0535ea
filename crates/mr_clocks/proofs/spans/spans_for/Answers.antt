use Rattle.mr_clocks.proofs.Common.{List, sym, subst, rules, Contains, Span, span_of}
use Rattle.std.specs.List.Sorted.{IsNonDecreasingBy}
use Rattle.std.proofs.lemmas.List.Sorted.{Contains-permutation, IsNonDecreasingBy-from_sort_by_key}
use Rattle.mr_clocks.proofs.spans.spans_for.Goals as goal

pub risen-requires : goal.risen-requires
risen-requires c =
    subst (λ (l : List Span). IsNonDecreasingBy (λ (s : Span). s.first) l) (sym c.as_slice.ensures.value)
    (IsNonDecreasingBy-from_sort_by_key (λ (s : Span). s.first) _ c.sort_unstable_by_key.ensures.sorted (λ a r q k. search rules))

pub returns : goal.returns
returns c = record {
  rising = c.in_ok-all.ensures.rising;
  each = λ a among some wanted.
      c.in_ok-all.ensures.each (span_of a)
      (subst (λ (l : List Span). Contains l (span_of a)) (sym c.as_slice.ensures.value)
      (Contains-permutation c.in_ok-spans.spans.items c.sort_unstable_by_key.new.self.items (span_of a) c.sort_unstable_by_key.ensures.permutation (c.in_ok-spans.ensures a among some wanted)));
}
