use Rattle.mr_show.proofs.Common.{◌∙◌, ◌++◌, ◌^◌, ap, inl, refl, sym, List, ℕ, [], Err, Some, longer, rose_in_all}
use Rattle.mr_show.proofs.TracedLaws.{long_first, of_bytes}
use Rattle.mr_show.proofs.traced.either_file.Goals as goal

pub returns-in-Ok-clause-answer : goal.returns-in-Ok-clause-answer
returns-in-Ok-clause-answer g c = λ contents told.
    let (bytes, there, limit, is) = c.in-Ok.ensures.whole contents told in
    let made = c.as_slice.ensures.value ∙ is ∙ ap (λ (xs : List ℕ). xs ++ bytes) c.new-bytes.ensures.items in
    of_bytes c.args.saying (contents c.args.second.now) c.args.what c.requires _ (contents c.args.first.now)
    c.as_slice.result.now _ c.either_bytes.result
    (rose_in_all (g.F.Files.faults c.args.files.now) (g.F.Files.faults c.read.new.self)
    (g.F.Files.faults c.either_bytes.new.files) c.in-Ok.ensures.faults)
    (there ∙ ap Some (sym made))
    (c.either_bytes.ensures.answer contents (c.in-Ok.ensures.contents ∙ told))

pub returns-in-Ok-clause-texts : goal.returns-in-Ok-clause-texts
returns-in-Ok-clause-texts g c = λ untold.
    let under = c.either_bytes.ensures.texts (c.in-Ok.ensures.contents ∙ untold) in (
      c.as_slice.result.now,
      under.0,
      of_bytes c.args.saying (Some under.0) c.args.what c.requires _ (Some c.as_slice.result.now)
          c.as_slice.result.now _ c.either_bytes.result
          (rose_in_all (g.F.Files.faults c.args.files.now) (g.F.Files.faults c.read.new.self)
          (g.F.Files.faults c.either_bytes.new.files) c.in-Ok.ensures.faults)
          refl under.1,
    )

pub returns-in-Err-Long-clause-answer : goal.returns-in-Err-Long-clause-answer
returns-in-Err-Long-clause-answer g c = λ contents told.
    let long = c.in-Err-Long.ensures.long contents told (ap Err c.in-Err-Long.field-0-is) in
    inl (
    long_first c.args.saying (contents c.args.second.now) c.args.what c.requires (contents c.args.first.now)
    long.0 long.1 long.2
    )

pub returns-in-Err-Long-clause-texts : goal.returns-in-Err-Long-clause-texts
returns-in-Err-Long-clause-texts g c = λ untold.
    let long = longer (2 ^ 28) in
    (long.0, [], inl (long_first c.args.saying (Some []) c.args.what c.requires (Some long.0) long.0 refl long.1))
