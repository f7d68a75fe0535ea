use Rattle.mr_picture.proofs.Common.{◌≡◌, ◌∙◌, ◌++◌, ◌<◌, ◌-◌, List, [], ◌∷◌, ℕ, suc, append-nil, append_assoc, ap, arith, length, subst, sym, All, way_within}
use Rattle.std.proofs.lemmas.List.Elements.{All-push}
use Rattle.mr_picture.proofs.WayLaws.{way_ends, way_goes}
use Rattle.mr_picture.proofs.way.way_to.Goals as goal

pub loop-left-preserved : goal.loop-left-preserved
loop-left-preserved c =
    let run = c.args.run.now in
    let j = c.args.j in
    let at = c.loop-left.at in
    let left = c.loop-left.left in
    let next = c.in-Some.next in
    let steps = c.loop-left.steps.items in
    let rest = way_within (left - 1) run next j in
    let one_less : left ≡ suc (left - 1) = omega (arith, c.loop-left-test.true) in
    let goes : way_within left run at j ≡ next ∷ rest =
    ap (λ n. way_within n run at j) one_less
    ∙ way_goes (left - 1) run at j next c.if-at-j.false (sym c.next_step.ensures.is ∙ c.in-Some.is) in
    record {
      on =
          ap (λ xs. xs ++ rest) c.in_ok-push-in-Some.ensures.items ∙ append_assoc steps (next ∷ []) rest
          ∙ ap (λ xs. steps ++ xs) (sym goes) ∙ c.loop-left.invariant.on;
      within =
          subst (λ (xs : List ℕ). All (λ k. k < length run) xs) (sym c.in_ok-push-in-Some.ensures.items)
          (All-push (λ k. k < length run) steps next c.loop-left.invariant.within c.in-Some.ensures.within);
      here = c.in-Some.ensures.within;
    }

pub returns-then-at-j-clause-way : goal.returns-then-at-j-clause-way
returns-then-at-j-clause-way c =
    let run = c.args.run.now in
    let j = c.args.j in
    let left = c.loop-left.left in
    let steps = c.loop-left.steps.items in
    sym (append-nil steps)
    ∙ ap (λ xs. steps ++ xs) (sym (ap (λ k. way_within left run k j) c.if-at-j.true ∙ way_ends left run j))
    ∙ c.loop-left.invariant.on
