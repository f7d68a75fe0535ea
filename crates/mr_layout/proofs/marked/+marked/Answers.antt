use Rattle.mr_layout.proofs.Common.{◌≡◌, sym, ap, subst, ◌∙◌, IfSome, Ty, is_used, size_of}
use Rattle.mr_ast.specs.declared.types.Ty.TheVariants as ty
use Rattle.mr_layout.proofs.FoldLaws.{one_elem, folded_elem, known_size}
use Rattle.mr_layout.proofs.MarkLaws.{row_marked, rows_marked}
use Rattle.mr_layout.proofs.marked.+marked.Goals as goal

pub is_elem_marked-returns-then-bytes-len : goal.is_elem_marked-returns-then-bytes-len
is_elem_marked-returns-then-bytes-len t c =
    let elem = c.args.elem.now in
    let size = known_size (size_of elem) c.in-Some.len (sym c.in-Some.is ∙ c.size.ensures) in
    subst (λ v. IfSome c.is_marked.result (λ b. b ≡ v))
    (one_elem (is_used elem) c.in-Some.len c.args.count c.args.table.now c.row-elems.result.now c.row-elems.ensures c.if-bytes-len.true
    ∙ row_marked c.args.count c.in-Some.len elem c.args.table.now size)
    c.is_marked.ensures

pub is_elem_marked-returns-in-Ok : goal.is_elem_marked-returns-in-Ok
is_elem_marked-returns-in-Ok t c =
    let elem = c.args.elem.now in
    let size = known_size (size_of elem) c.in-Some.len (sym c.in-Some.is ∙ c.size.ensures) in
    subst (λ v. IfSome c.is_marked-in-Ok.result (λ b. b ≡ v))
    (folded_elem (is_used elem) c.in-Some.len c.args.count c.args.table.now c.row-elems.result.now c.in-Ok.one.items c.as_slice.result.now
    c.row-elems.ensures c.as_slice.ensures.value (c.in-Ok.ensures (is_used elem))
    ∙ row_marked c.args.count c.in-Some.len elem c.args.table.now size)
    c.is_marked-in-Ok.ensures

pub is_row_marked-returns-in-Some : goal.is_row_marked-returns-in-Some
is_row_marked-returns-in-Some t c =
    let array = c.in-Array.is ∙ sym (ap (λ (part : Ty). ty.Array c.in-Array.each part) c.get.ensures) in
    subst (λ v. IfSome c.is_row_marked.result (λ b. b ≡ v))
    (rows_marked c.args.count c.in-Array.each c.in-Some.all c.args.elem.now c.get.result.now c.args.table.now array c.in-Some.ensures.1)
    c.is_row_marked.ensures
