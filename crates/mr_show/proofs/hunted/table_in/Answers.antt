use Rattle.mr_show.proofs.Common.{◌≡◌, ℕ, ◌+◌, ◌-◌, List, [], ◌∙◌, ap, lexed, Answer, laid_in, most_in}
use Rattle.mr_hunt.specs.declared.counting.Row.{Row}
use Rattle.mr_hunt.specs.Ends.{ends_of}
use Rattle.mr_hunt.specs.Table.{numbers, table_of}
use Rattle.mr_hunt.specs.Texts.{seen_with, table_text}
use Rattle.mr_show.proofs.hunted.table_in.Goals as goal

pub returns-clause-answer : goal.returns-clause-answer
returns-clause-answer c =
    let said : List ℕ → Answer = λ lines. record { text = lines; status = 0 } in
    let text = c.args.text.now in
    let p = c.args.p.now in
    let range = c.args.range in
    let wanted : List Row = table_of (ends_of p (most_in range)) (numbers range.from range.to) in
    let rows : c.as_slice.result.now ≡ wanted =
    c.as_slice.ensures.value ∙ c.in_ok-rows.ensures.rows
    ∙ ap (λ (most : ℕ). table_of (ends_of p most) (numbers range.from range.to)) c.most_in.ensures.same in
    let same : c.in_ok-text.text.items
    ≡ table_text (seen_with text p (laid_in p (lexed text)) [] []) (range.to + 1 - range.from) wanted =
    c.in_ok-text.ensures
    ∙ (λ i. table_text (seen_with text p (c.requires i) [] []) (c.how_many-count.ensures i) (rows i)) in
    ap said same
