use Rattle.std.proofs.Common.{◌∙◌, ◌++◌, inl, ap, sym, List, ℕ}
use Rattle.std.specs.Prelude.{Err, Some}
use Rattle.mr_input.proofs.InputLaws.{long_program, some_long_program}
use Rattle.mr_input.proofs.input.read_text.Goals as goal

pub returns-in-Ok-clause-whole : goal.returns-in-Ok-clause-whole
returns-in-Ok-clause-whole g c = λ contents told.
    let (bytes, there, limit, is) = c.in-Ok.ensures.whole contents told in
    there ∙ ap Some (sym (is ∙ ap (λ (xs : List ℕ). xs ++ bytes) c.new-text.ensures.items))

pub returns-in-Err-Long-clause-refused : goal.returns-in-Err-Long-clause-refused
returns-in-Err-Long-clause-refused g c = λ contents told.
    let long = c.in-Err-Long.ensures.long contents told (ap Err c.in-Err-Long.field-0-is) in
    inl (long_program (contents c.args.name.now) long.0 long.1 long.2)

pub returns-in-Err-Long-clause-texts : goal.returns-in-Err-Long-clause-texts
returns-in-Err-Long-clause-texts g c = λ untold. (some_long_program.0, inl some_long_program.1)
