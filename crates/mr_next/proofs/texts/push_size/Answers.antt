use Rattle.mr_next.proofs.Common.{◌++◌, codes, decimal}
use Rattle.mr_next.proofs.Appended.{behind, last_behind}
use Rattle.mr_next.proofs.texts.push_size.Goals as goal

pub returns : goal.returns
returns c =
    let old = c.args.out.now.items in
    let words = codes "address, size " in
    let size = decimal c.args.size in
    let next = codes ", align " in
    let align = decimal c.args.align in
    last_behind c.push_number-2.result old (words ++ size ++ next) align _ _
    (behind old (words ++ size) next _ _
    (behind old words size _ _ c.in_ok-extend_from_slice.ensures.items
    c.in_ok-push_number.ensures)
    c.in_ok-extend_from_slice-2.ensures.items)
    c.push_number-2.ensures
