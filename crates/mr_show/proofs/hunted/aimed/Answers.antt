use Rattle.mr_show.proofs.Common.{◌≡◌, ℕ, ◌∙◌, ap, IfOk-weaker, Option, lexed, aim_of, first_met, laid_in, found_answer, most_in}
use Rattle.mr_show.proofs.hunted.aimed.Goals as goal

pub returns-clause-answer : goal.returns-clause-answer
returns-clause-answer c =
    let text = c.args.text.now in
    let p = c.args.p.now in
    let range = c.args.range in
    let aim = aim_of c.args.aim in
    let found : c.in_ok-found.found ≡ first_met aim (laid_in p (lexed text)) p (most_in range) range.from range.to =
    c.in_ok-found.ensures.first
    ∙ (λ i. first_met aim (c.requires i) p (c.most_in.ensures.same i) range.from range.to) in
    IfOk-weaker c.found_in.result _ _
    (λ a h. h ∙ ap (λ (o : Option ℕ). found_answer range aim c.args.name.now text p o) found) c.found_in.ensures.answer
