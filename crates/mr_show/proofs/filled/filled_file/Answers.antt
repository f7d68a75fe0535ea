use Rattle.mr_show.proofs.Common.{◌∙◌, ◌++◌, List, ap, inl, refl, subst, sym, ℕ, Err, Option, Some, Tells, told, order_answer, order_in}
use Rattle.mr_show.proofs.FillLaws.{long_told, some_long_order}
use Rattle.mr_show.proofs.filled.filled_file.Goals as goal

pub returns-in-Ok-clause-answer : goal.returns-in-Ok-clause-answer
returns-in-Ok-clause-answer g c = λ contents told_them.
    let (bytes, there, limit, is) = c.in-Ok.ensures.whole contents told_them in
    let made = c.as_slice.ensures.value ∙ is ∙ ap (λ (xs : List ℕ). xs ++ bytes) c.new-text.ensures.items in
    inl (subst (λ (f : Option (List ℕ)).
    Tells (told (order_answer c.args.filling c.args.p.now) (order_in f)) c.filled.result)
    (sym (there ∙ ap Some (sym made))) c.filled.ensures.answer)

pub returns-in-Ok-clause-texts : goal.returns-in-Ok-clause-texts
returns-in-Ok-clause-texts g c = λ untold. (c.as_slice.result.now, inl c.filled.ensures.answer)

pub returns-in-Err-Long-clause-answer : goal.returns-in-Err-Long-clause-answer
returns-in-Err-Long-clause-answer g c = λ contents told_them.
    let long = c.in-Err-Long.ensures.long contents told_them (ap Err c.in-Err-Long.field-0-is) in
    inl (rw c.broken.ensures
    (long_told c.args.filling c.args.p.now (contents c.args.order.now) long.0 long.1 long.2))

pub returns-in-Err-Long-clause-texts : goal.returns-in-Err-Long-clause-texts
returns-in-Err-Long-clause-texts g c = λ untold.
    let long = some_long_order in
    (long.0, inl (rw c.broken.ensures (long_told c.args.filling c.args.p.now (Some long.0) long.0 refl long.1)))
