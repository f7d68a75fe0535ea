use Rattle.mr_show.proofs.Common.{◌∙◌, ◌++◌, ◌^◌, ap, inl, refl, subst, sym, List, ℕ, Err, Option, Some, Answer, Tells, longer, placed_answer}
use Rattle.mr_show.proofs.TracedLaws.{long_places}
use Rattle.mr_show.proofs.traced.placed_file.Goals as goal

pub returns-in-Ok-clause-answer : goal.returns-in-Ok-clause-answer
returns-in-Ok-clause-answer g c = λ contents told.
    let (bytes, there, limit, is) = c.in-Ok.ensures.whole contents told in
    let made = c.as_slice.ensures.value ∙ is ∙ ap (λ (xs : List ℕ). xs ++ bytes) c.new-text.ensures.items in
    let file = there ∙ ap Some (sym made) in
    inl (
    subst (λ (f : Option (List ℕ)). Tells (placed_answer c.args.what c.args.trace.now f) c.placed.result)
    (sym file) c.placed.ensures.answer
    )

pub returns-in-Ok-clause-texts : goal.returns-in-Ok-clause-texts
returns-in-Ok-clause-texts g c = λ untold. (c.as_slice.result.now, inl c.placed.ensures.answer)

pub returns-in-Err-Long-clause-answer : goal.returns-in-Err-Long-clause-answer
returns-in-Err-Long-clause-answer g c = λ contents told.
    let long = c.in-Err-Long.ensures.long contents told (ap Err c.in-Err-Long.field-0-is) in
    inl (subst (λ (a : Answer). Tells a c.wrong_places.result)
    (sym (long_places c.args.what c.args.trace.now (contents c.args.places.now) long.0 long.1 long.2))
    c.wrong_places.ensures.answer)

pub returns-in-Err-Long-clause-texts : goal.returns-in-Err-Long-clause-texts
returns-in-Err-Long-clause-texts g c = λ untold.
    let long = longer (2 ^ 28) in (
      long.0,
      inl (subst (λ (a : Answer). Tells a c.wrong_places.result)
          (sym (long_places c.args.what c.args.trace.now (Some long.0) long.0 refl long.1))
          c.wrong_places.ensures.answer),
    )
