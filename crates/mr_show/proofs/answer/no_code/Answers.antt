use Rattle.mr_show.proofs.Common.{◌++◌, ◌∷◌, [], ◌∙◌, ap}
use Rattle.std.specs.Prelude.{decimal}
use Rattle.mr_show.proofs.answer.no_code.Goals as goal

pub returns : goal.returns
returns c =
    c.in_ok-push.ensures.items
    ∙ ap (λ xs. xs ++ 10 ∷ [])
    (c.in_ok-push_number.ensures ∙ ap (λ n. c.in_ok-text.text.items ++ decimal n) c.from.ensures
    ∙ ap (λ xs. xs ++ decimal c.args.code) c.in_ok-text.ensures.items)
