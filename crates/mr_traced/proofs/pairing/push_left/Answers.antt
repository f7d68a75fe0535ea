use Rattle.mr_traced.proofs.Common.{◌++◌, codes, decimal, behind}
use Rattle.mr_traced.proofs.pairing.push_left.Goals as goal

pub returns : goal.returns
returns c =
    let old = c.args.out.now.items in
    let words = codes "        and " in
    let left = decimal c.args.left in
    behind old (words ++ left) (codes " more\n") _ _
    (behind old words left _ _ c.in_ok-extend_from_slice.ensures.items c.in_ok-push_number.ensures)
    c.in_ok-extend_from_slice-2.ensures.items
