use Rattle.mr_show.proofs.Common.{◌≡◌, ℕ, List, ◌∙◌, ap, lexed, Answer, aim_of, laid_in, most_in}
use Rattle.mr_hunt.specs.Texts.{found_text}
use Rattle.mr_show.proofs.hunted.one_found.Goals as goal

pub returns-clause-answer : goal.returns-clause-answer
returns-clause-answer c =
    let said : List ℕ → Answer = λ lines. record { text = lines; status = 1 } in
    let text = c.args.text.now in
    let p = c.args.p.now in
    let name = c.args.name.now in
    let aim = aim_of c.args.aim in
    let same : c.in_ok-text.text.items
    ≡ found_text text p (laid_in p (lexed text)) aim name (most_in c.args.range) c.args.number =
    c.in_ok-text.ensures ∙ (λ i. found_text text p (c.requires i) aim name (c.most_in.ensures.same i) c.args.number) in
    ap said same
