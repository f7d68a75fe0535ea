use Rattle.mr_traced.proofs.Common.{◌++◌, ◌∙◌, ap, codes, decimal, behind, last_behind}
use Rattle.mr_listing.specs.Accesses.{access_word, bytes_text}
use Rattle.mr_traced.proofs.drawn.push_access.Goals as goal

pub returns : goal.returns
returns c =
    let a = c.args.access in
    let old = c.args.out.now.items in
    let end = codes "\n" in
    let word = access_word a in
    let address = codes "address " in
    let number = decimal a.addr in
    let comma = codes ", " in
    last_behind c.push_bytes.result old (end ++ word ++ address ++ number ++ comma) (bytes_text a.len) _ _
    (behind old (end ++ word ++ address ++ number) comma _ _
    (behind old (end ++ word ++ address) number _ _
    (behind old (end ++ word) address _ _
    (behind old end word _ _ c.in_ok-extend_from_slice.ensures.items
    (c.in_ok-extend_from_slice-2.ensures.items
    ∙ ap (λ xs. c.extend_from_slice.new.self.items ++ xs) (c.as_bytes.ensures.value ∙ c.access_word.ensures)))
    c.in_ok-extend_from_slice-3.ensures.items)
    c.in_ok-push_number.ensures)
    c.in_ok-extend_from_slice-4.ensures.items)
    c.push_bytes.ensures
