use Rattle.mr_listing.proofs.Common.{ℕ, [], ◌∷◌, ◌++◌, ◌∙◌, ap, codes, decimal}
use Rattle.mr_listing.proofs.Appended.{behind}
use Rattle.mr_listing.proofs.events.push_start.Goals as goal

pub returns : goal.returns
returns c =
    let old = c.args.out.now.items in
    let words = codes "        starts thread " in
    let number = decimal c.args.number in
    let inside = codes " in " in
    let name = c.function_word.result.now in
    let named = behind old (words ++ number ++ inside) name _ _
    (behind old (words ++ number) inside _ _
    (behind old words number _ _ c.in_ok-extend_from_slice.ensures.items
    (c.in_ok-push_number.ensures ∙ ap (λ (n : ℕ). c.extend_from_slice.new.self.items ++ decimal n) c.into.ensures))
    c.in_ok-extend_from_slice-2.ensures.items)
    (c.in_ok-extend_from_slice-3.ensures.items
    ∙ ap (λ xs. c.extend_from_slice-2.new.self.items ++ xs) c.as_bytes.ensures.value) in
    behind old (words ++ number ++ inside ++ name) (10 ∷ []) _ _ named c.in_ok-push.ensures.items
    ∙ ap (λ xs. old ++ (words ++ number ++ inside ++ xs ++ 10 ∷ [])) c.function_word.ensures
