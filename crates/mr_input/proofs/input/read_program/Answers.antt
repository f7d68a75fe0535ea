use Rattle.std.proofs.Common.{ap, refl}
use Rattle.std.specs.Prelude.{Err, Some}
use Rattle.mr_input.proofs.InputLaws.{of_its_text}
use Rattle.mr_input.proofs.RefusedLaws.{same_refusal}
use Rattle.mr_input.proofs.input.read_program.Goals as goal

pub returns-in-Ok-clause-read : goal.returns-in-Ok-clause-read
returns-in-Ok-clause-read g c = λ contents told.
    of_its_text _ c.program_of.result (contents c.args.name.now) c.in-Ok.text.items c.as_slice.result.now
    (c.in-Ok.ensures.whole contents told) c.as_slice.ensures.value c.program_of.ensures.given

pub returns-in-Ok-clause-texts : goal.returns-in-Ok-clause-texts
returns-in-Ok-clause-texts g c = λ untold.
    let text = c.as_slice.result.now in
    (text, of_its_text _ c.program_of.result (Some text) text text refl refl c.program_of.ensures.given)

pub returns-in-Err-clause-memory : goal.returns-in-Err-clause-memory
returns-in-Err-clause-memory g c = λ e. c.in-Err.ensures.memory (ap Err (same_refusal e))
