use Rattle.mr_clocks.proofs.Common.{ℕ, subst, arith, Option, Edge, Edge-before}
use Rattle.std.specs.Prelude.{IfSome}
use Rattle.mr_clocks.proofs.hints.follow_hint.Goals as goal

pub is_under-requires : goal.is_under-requires
is_under-requires c =
    let leads : Edge c.args.run.now c.in-Some.i c.args.j =
    subst (λ (o : Option ℕ). IfSome o (λ i. Edge c.args.run.now i c.args.j)) c.in-Some.is c.requires.hint in
    let before = Edge-before leads in
    omega (arith, before, c.requires.within)

pub follow_edge-requires-clause-order : goal.follow_edge-requires-clause-order
follow_edge-requires-clause-order c =
    let leads : Edge c.args.run.now c.in-Some.i c.args.j =
    subst (λ (o : Option ℕ). IfSome o (λ i. Edge c.args.run.now i c.args.j)) c.in-Some.is c.requires.hint in
    Edge-before leads

pub follow_edge-requires-clause-edge : goal.follow_edge-requires-clause-edge
follow_edge-requires-clause-edge c = subst (λ (o : Option ℕ). IfSome o (λ i. Edge c.args.run.now i c.args.j)) c.in-Some.is c.requires.hint
