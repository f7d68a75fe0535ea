use Rattle.mr_show.proofs.Common.{◌≡◌, ◌∙◌, ◌++◌, ℕ, List, subst, OnOk}
use Rattle.mr_show.specs.Next.{prospects_told}
use Rattle.mr_show.proofs.next.push_threads.Goals as goal

pub returns : goal.returns
returns c =
    let positions = c.as_slice.ensures.value ∙ c.in_ok-positions.ensures in
    let prospects = c.as_slice-2.ensures.value ∙ c.in_ok-prospects.ensures in
    subst (λ (xs : List ℕ). OnOk c.push_each.result (c.push_each.new.out.items ≡ c.args.out.now.items ++ xs))
    (λ i. prospects_told (c.verdict.ensures i) (c.program.ensures.same i) (positions i) (prospects i))
    c.push_each.ensures
