use Rattle.mr_show.proofs.Common.{inl, subst, sym, Result, Read, Refusal, Tells, told, was_read}
use Rattle.mr_show.specs.Witness.{witness_under}
use Rattle.mr_show.proofs.shown.witness_file.Goals as goal

pub returns-in-Ok-clause-texts : goal.returns-in-Ok-clause-texts
returns-in-Ok-clause-texts g c = λ untold.
    let texts = c.in-Ok.ensures.texts untold in
    let T : Result Read Refusal → Type 0 = λ read.
    Tells (told (witness_under c.args.step c.args.selection c.args.p.now) read) c.witness_run.result in
    (texts.0, inl (subst T (sym (was_read c.in-Ok.read _ _ _ texts.1)) c.witness_run.ensures.answer))
