use Rattle.mr_value.proofs.Common.{◌≡◌, ◌+◌, ◌<◌, true, List, Some, None, subst, sym, ap, ◌∙◌, arith, option_and_then, Num, Tree, int_size, is_tree, are_tree_cases, bytes_of_pieces, part, number_of, number_of_bits, walk, walk_case}
use Rattle.mr_value.proofs.WalkSteps.{branch_parts, case_ok, branch_reads}
use Rattle.mr_value.proofs.Weights.{tree_weight, cases_weight, weight_branch, weight_case}
use Rattle.mr_value.proofs.walking.+walk.Goals as goal

pub overflow_add-at : goal.overflow_add-at
overflow_add-at t c =
    let i = c.in-Branch in
    let p = branch_parts c.args.size c.requires.ok.0 i.offset i.int i.cases i.rest (sym (ap (is_tree c.args.size c.requires.ok.0) i.is) ∙ c.requires.ok.1) in
    omega (arith, p.inside)

pub number_at-requires-clause-inside : goal.number_at-requires-clause-inside
number_at-requires-clause-inside t c =
    let i = c.in-Branch in
    let p = branch_parts c.args.size c.requires.ok.0 i.offset i.int i.cases i.rest (sym (ap (is_tree c.args.size c.requires.ok.0) i.is) ∙ c.requires.ok.1) in
    let same : c.int_bytes.result ≡ int_size i.int = c.int_bytes.ensures in
    omega (arith, p.inside)

pub loop-case-init : goal.loop-case-init
loop-case-init t c =
    let i = c.in-Branch in
    let b = bytes_of_pieces c.args.v.now in
    let all = part c.args.at c.args.size b in
    let p = branch_parts c.args.size c.requires.ok.0 i.offset i.int i.cases i.rest (sym (ap (is_tree c.args.size c.requires.ok.0) i.is) ∙ c.requires.ok.1) in
    let read : number_of (part (c.args.at + i.offset) (int_size i.int) b) ≡ Some c.in-Some.bits =
    ap (λ n. number_of (part (c.args.at + i.offset) n b)) (sym c.int_bytes.ensures) ∙ sym c.in-Some.ensures.value in
    record {
      all = ap (λ x. walk x all) i.is
          ∙ branch_reads b c.args.at c.args.size i.offset i.int i.cases i.rest p.inside
          ∙ ap (option_and_then (λ bits. walk_case (number_of_bits i.int bits) i.cases i.rest all)) read
          ∙ ap (λ n. walk_case n i.cases i.rest all) (sym c.number_of_bits-number.ensures)
          ∙ ap (λ (x : List (Num × Tree)). walk_case c.number_of_bits-number.result x i.rest all) (sym c.as_slice-case-items.ensures);
    }

pub walk_at-requires : goal.walk_at-requires
walk_at-requires t c =
    let i = c.in-Branch in
    let l = c.loop-case in
    let r = c.case-item.result in
    let items = c.as_slice-case-items.result.now in
    let p = branch_parts c.args.size c.requires.ok.0 i.offset i.int i.cases i.rest (sym (ap (is_tree c.args.size c.requires.ok.0) i.is) ∙ c.requires.ok.1) in
    let cases : are_tree_cases c.args.size c.requires.ok.0 i.int items ≡ true = ap (are_tree_cases c.args.size c.requires.ok.0 i.int) c.as_slice-case-items.ensures ∙ p.cases_ok in
    let ok : is_tree c.args.size c.requires.ok.0 r.1 ≡ true =
    ap (λ (x : Num × Tree). is_tree c.args.size c.requires.ok.0 x.1) c.case-item.is ∙ case_ok c.args.size c.requires.ok.0 i.int items l.case-index r (omega arith) cases in
    let falls : tree_weight r.1 < cases_weight items = subst (λ (x : Num × Tree). tree_weight x.1 < cases_weight items) (sym c.case-item.is) (weight_case items l.case-index r (omega arith)) in
    let whole : tree_weight c.args.tree.now ≡ 1 + cases_weight items + tree_weight i.rest =
    ap tree_weight i.is ∙ weight_branch i.offset i.int i.cases i.rest ∙ ap (λ x. 1 + cases_weight x + tree_weight i.rest) (sym c.as_slice-case-items.ensures) in
    (omega (arith, c.decreases), ((c.requires.ok.0, ok), c.requires.inside))

pub walk_at-requires-in-Some : goal.walk_at-requires-in-Some
walk_at-requires-in-Some t c =
    let i = c.in-Branch in
    let p = branch_parts c.args.size c.requires.ok.0 i.offset i.int i.cases i.rest (sym (ap (is_tree c.args.size c.requires.ok.0) i.is) ∙ c.requires.ok.1) in
    let ok : is_tree c.args.size c.requires.ok.0 c.get.result.now ≡ true = ap (is_tree c.args.size c.requires.ok.0) c.get.ensures ∙ p.rest_ok in
    let whole : tree_weight c.args.tree.now ≡ 1 + cases_weight i.cases + tree_weight c.get.result.now =
    ap tree_weight i.is ∙ weight_branch i.offset i.int i.cases i.rest ∙ ap (λ x. 1 + cases_weight i.cases + tree_weight x) (sym c.get.ensures) in
    (omega (arith, c.decreases), ((c.requires.ok.0, ok), c.requires.inside))

pub returns-in-None : goal.returns-in-None
returns-in-None t c =
    let i = c.in-Branch in
    let b = bytes_of_pieces c.args.v.now in
    let all = part c.args.at c.args.size b in
    let p = branch_parts c.args.size c.requires.ok.0 i.offset i.int i.cases i.rest (sym (ap (is_tree c.args.size c.requires.ok.0) i.is) ∙ c.requires.ok.1) in
    let read : number_of (part (c.args.at + i.offset) (int_size i.int) b) ≡ None =
    ap (λ n. number_of (part (c.args.at + i.offset) n b)) (sym c.int_bytes.ensures) ∙ sym c.in-None.ensures.value in
    sym
    (ap (λ x. walk x all) i.is
    ∙ branch_reads b c.args.at c.args.size i.offset i.int i.cases i.rest p.inside
    ∙ ap (option_and_then (λ bits. walk_case (number_of_bits i.int bits) i.cases i.rest all)) read)
