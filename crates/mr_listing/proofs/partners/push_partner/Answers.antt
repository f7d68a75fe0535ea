use Rattle.mr_listing.proofs.Common.{◌+◌, ◌++◌, ◌∷◌, [], ◌∙◌, ap, append_assoc, codes, decimal}
use Rattle.mr_listing.proofs.partners.push_partner.Goals as goal

pub returns : goal.returns
returns c =
    let number = decimal (c.args.partner.other + 1) in
    let words = codes "        races with step " in
    let old = c.args.out.now.items in
    c.in_ok-push.ensures.items
    ∙ ap (λ xs. xs ++ 10 ∷ [])
    (c.in_ok-push_count.ensures ∙ ap (λ xs. xs ++ number) c.in_ok-extend_from_slice.ensures.items
    ∙ append_assoc old words number)
    ∙ append_assoc old (words ++ number) (10 ∷ [])
