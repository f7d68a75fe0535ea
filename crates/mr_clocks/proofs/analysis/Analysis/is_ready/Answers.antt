use Rattle.mr_clocks.proofs.Common.{◌≡◌, List, ℕ, sym, ◌∙◌, ap, subst, arith, IsClockOf, clock_at}
use Rattle.std.proofs.lemmas.Bool.{leb-true}
use Rattle.mr_clocks.proofs.Wholes.{ready_own, ready_within, within_ready}
use Rattle.mr_clocks.proofs.analysis.Analysis.is_ready.Goals as goal

pub returns-then-k-front_at : goal.returns-then-k-front_at
returns-then-k-front_at c =
    let run = c.args.run.now in
    let clock = c.lent.result.now in
    let fronts = c.args.fronts.now in
    let is : clock ≡ clock_at c.args.self.now.0 c.args.self.now.1 c.args.k =
    c.lent.ensures
    ∙ ap (λ (l : List (List ℕ)). clock_at l c.as_slice-then-k-front_at.result.now c.args.k) (c.as_slice.ensures.value ∙ ap (λ w. w.0) c.self.view_is)
    ∙ ap (λ (l : List ℕ). clock_at c.args.self.now.0 l c.args.k) (c.as_slice-then-k-front_at.ensures.value ∙ ap (λ w. w.1) c.self.view_is) in
    let here : IsClockOf run clock c.args.k = subst (λ l. IsClockOf run l c.args.k) (sym is) (c.requires.tracks.clocks.each c.args.k c.requires.step) in
    let le = c.if-k-front_at.true in
    let front = c.front_at.ensures in (
      λ e. within_ready run clock fronts c.args.k c.requires.step here (c.is_within.ensures.0 e) (omega (arith, le, front)),
      λ r. c.is_within.ensures.1 (ready_within run clock fronts c.args.k c.requires.step here c.requires.fronts r),
    )

pub returns-else-k-front_at : goal.returns-else-k-front_at
returns-else-k-front_at c =
    let over = c.if-k-front_at.false in (
      λ e. absurd (let le = leb-true _ _ e in omega (arith, le, over)),
      λ r. absurd (let le = ready_own c.args.run.now c.args.fronts.now c.args.k c.requires.step c.requires.fronts r in let front = c.front_at.ensures in omega (arith, le, front, over)),
    )
