use Rattle.mr_listing.proofs.Common.{◌≡◌, ◌++◌, ◌∙◌, List, ℕ, ap, subst, OnOk, prefix_len, cut_text, is_inside}
use Rattle.mr_listing.proofs.SpotLaws.{looked_enough, looked_within}
use Rattle.mr_listing.proofs.spots.push_front.Goals as goal

pub push_cut-requires : goal.push_cut-requires
push_cut-requires c = rw (c.stmt_length.ensures, c.front_of.ensures) (looked_within c.args.rest.now)

pub returns : goal.returns
returns c =
    let rest = c.args.rest.now in
    let counted = c.stmt_length.ensures ∙ ap (prefix_len is_inside) c.front_of.ensures in
    subst (λ (w : List ℕ). OnOk c.push_cut.result (c.push_cut.new.out.items ≡ c.args.out.now.items ++ w))
    (ap (cut_text rest) counted ∙ looked_enough rest) c.push_cut.ensures
