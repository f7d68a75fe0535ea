use Rattle.mr_picture.proofs.Common.{◌≡◌, ◌++◌, ◌∙◌, List, ℕ, ap, drop, subst, OnOk}
use Rattle.std.specs.Prelude.{count_by}
use Rattle.mr_listing.proofs.Appended.{last_behind}
use Rattle.mr_picture.specs.Partners.{lead, partner_texts, takes_part}
use Rattle.mr_picture.proofs.partners.push_partners.Goals as goal

pub returns : goal.returns
returns c =
    let old = c.args.out.now.items in
    let front = lead (count_by (takes_part c.args.step) c.args.races.now) in
    last_behind c.push_behind_two.result old front (drop 2 (partner_texts c.args.races.now c.args.step)) _ _
    (c.in_ok-push.ensures ∙ ap (λ (xs : List ℕ). old ++ xs) (c.lead.ensures ∙ ap lead c.race_count.ensures))
    (subst (λ (xs : List ℕ). OnOk c.push_behind_two.result
    (c.push_behind_two.new.out.items ≡ c.push.new.out.items ++ drop 2 xs))
    (c.as_slice.ensures.value ∙ c.in_ok-texts.ensures) c.push_behind_two.ensures)
