use Rattle.mr_clocks.proofs.Common.{◌≡◌, ◌∷◌, [], ℕ, List, sym, ap, subst, arith, Contains, Contains-append_left, Contains-append_right, Span, span_of}
use Rattle.mr_clocks.proofs.spans.add_span.Goals as goal

pub returns-clause-kept : goal.returns-clause-kept
returns-clause-kept c = λ s t.
    let made : Span = record { first = c.args.access.addr; last = c.last_of.result } in
    subst (λ (l : List Span). Contains l s) (sym c.in_ok-push.ensures.items) (Contains-append_left c.args.spans.now.items (made ∷ []) s t)

pub returns-clause-here : goal.returns-clause-here
returns-clause-here c = λ _ _.
    let made : Span = record { first = c.args.access.addr; last = c.last_of.result } in
    let is : made ≡ span_of c.args.access = ap (λ (n : ℕ). record { first = c.args.access.addr; last = n }) c.last_of.ensures in
    subst (λ (l : List Span). Contains l (span_of c.args.access)) (sym c.in_ok-push.ensures.items)
    (Contains-append_right c.args.spans.now.items (made ∷ []) (span_of c.args.access) (0, omega arith, is))
