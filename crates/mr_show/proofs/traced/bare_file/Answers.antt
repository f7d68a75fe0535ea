use Rattle.mr_show.proofs.Common.{◌∙◌, ◌++◌, ◌^◌, ap, inl, refl, subst, sym, List, ℕ, Err, Option, Some, Tells, longer, bare_answer}
use Rattle.mr_show.proofs.TracedLaws.{long_bare}
use Rattle.mr_show.proofs.traced.bare_file.Goals as goal

pub returns-in-Ok-clause-answer : goal.returns-in-Ok-clause-answer
returns-in-Ok-clause-answer g c = λ contents told.
    let (bytes, there, limit, is) = c.in-Ok.ensures.whole contents told in
    let made = c.as_slice.ensures.value ∙ is ∙ ap (λ (xs : List ℕ). xs ++ bytes) c.new-bytes.ensures.items in
    let file = there ∙ ap Some (sym made) in
    inl (subst (λ (f : Option (List ℕ)). Tells (bare_answer c.args.what f) c.alone.result) (sym file)
    c.alone.ensures.answer)

pub returns-in-Ok-clause-texts : goal.returns-in-Ok-clause-texts
returns-in-Ok-clause-texts g c = λ untold. (c.as_slice.result.now, inl c.alone.ensures.answer)

pub returns-in-Err-Long-clause-answer : goal.returns-in-Err-Long-clause-answer
returns-in-Err-Long-clause-answer g c = λ contents told.
    let long = c.in-Err-Long.ensures.long contents told (ap Err c.in-Err-Long.field-0-is) in
    inl (long_bare c.args.what (contents c.args.trace.now) long.0 long.1 long.2)

pub returns-in-Err-Long-clause-texts : goal.returns-in-Err-Long-clause-texts
returns-in-Err-Long-clause-texts g c = λ untold.
    let long = longer (2 ^ 28) in (long.0, inl (long_bare c.args.what (Some long.0) long.0 refl long.1))
