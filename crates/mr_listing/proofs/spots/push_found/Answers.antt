use Rattle.mr_listing.proofs.Common.{[], ◌∷◌, ◌++◌, ◌∙◌, ap, codes, slice_get, seen, spot_text, statement_text}
use Rattle.mr_labels.specs.Words.{block_word, function_word}
use Rattle.mr_listing.proofs.Appended.{behind, last_behind}
use Rattle.mr_listing.proofs.spots.push_found.Goals as goal

pub returns : goal.returns
returns c =
    let s = seen c.args.shown.now in
    let old = c.args.out.now.items in
    let spot = spot_text c.args.spot in
    let gap = codes "  " in
    let function = function_word s.program c.args.stand.function in
    let block = block_word s.program c.args.stand.block (slice_get s.program.functions c.args.stand.function) in
    last_behind c.push_statement.result old (spot ++ gap ++ function ++ 32 ∷ [] ++ block ++ gap)
    (statement_text s.text c.args.spot.at) _ _
    (behind old (spot ++ gap ++ function ++ 32 ∷ [] ++ block) gap _ _
    (behind old (spot ++ gap ++ function ++ 32 ∷ []) block _ _
    (behind old (spot ++ gap ++ function) (32 ∷ []) _ _
    (behind old (spot ++ gap) function _ _
    (behind old spot gap _ _ c.in_ok-push_spot.ensures c.in_ok-extend_from_slice.ensures.items)
    (c.in_ok-extend_from_slice-2.ensures.items
    ∙ ap (λ xs. c.extend_from_slice.new.self.items ++ xs) (c.as_bytes.ensures.value ∙ c.function_word.ensures)))
    c.in_ok-push.ensures.items)
    (c.in_ok-extend_from_slice-3.ensures.items
    ∙ ap (λ xs. c.push.new.self.items ++ xs) (c.as_bytes-2.ensures.value ∙ c.block_word.ensures)))
    c.in_ok-extend_from_slice-4.ensures.items)
    c.push_statement.ensures
