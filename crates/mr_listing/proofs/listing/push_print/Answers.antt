use Rattle.mr_listing.proofs.Common.{◌++◌, ◌∷◌, [], ◌∙◌, ap, append_assoc, codes}
use Rattle.mr_listing.proofs.listing.push_print.Goals as goal

pub returns : goal.returns
returns c =
    let words = codes "        prints > " in
    let old = c.args.out.now.items in
    c.in_ok-push.ensures.items
    ∙ ap (λ xs. xs ++ 10 ∷ [])
    (c.in_ok-extend_from_slice-2.ensures.items
    ∙ ap (λ xs. xs ++ c.as_slice.result.now) c.in_ok-extend_from_slice.ensures.items
    ∙ append_assoc old words c.as_slice.result.now)
    ∙ append_assoc old (words ++ c.as_slice.result.now) (10 ∷ [])
    ∙ ap (λ text. old ++ ((words ++ text) ++ 10 ∷ [])) c.as_slice.ensures
