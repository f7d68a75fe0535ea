use Rattle.mr_step.proofs.Common.{◌++◌, ◌∷◌, [], sym, ap, ◌∙◌, arith, false, length, option_map, started_threads, own_of, numbered}
use Rattle.mr_frame.specs.declared.stack.Stack.{Stack as KeptStack}
use Rattle.mr_step.proofs.Numbered.{numbered_append}
use Rattle.mr_step.proofs.settle.join.Goals as goal

pub returns-in_ok-push : goal.returns-in_ok-push
returns-in_ok-push c =
    let all = c.args.threads.now.items in
    ap (numbered 0) c.in_ok-push.ensures.items
    ∙ ap (λ (s : KeptStack). numbered 0 (all ++ record { stack = s; ended = false; count = 0 } ∷ [])) c.into_inner.ensures
    ∙ numbered_append 0 (length all) all (record { stack = c.in-Some.stack; ended = false; count = 0 } ∷ []) (omega arith)
    ∙ ap (λ o. numbered 0 all ++ started_threads (option_map (own_of (length all)) o)) (sym c.in-Some.is)
