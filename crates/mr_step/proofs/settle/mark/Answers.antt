use Rattle.mr_step.proofs.Common.{◌≡◌, ap, ◌∙◌, arith, slice_set, numbered, standing_thread}
use Rattle.std.proofs.lemmas.Option.{get_or_from_slice_get}
use Rattle.mr_step.specs.declared.progress.Thread.{Thread as KeptThread}
use Rattle.mr_step.proofs.Numbered.{numbered_set}
use Rattle.mr_step.proofs.settle.mark.Goals as goal

pub returns : goal.returns
returns c = λ th here.
    let all = c.args.threads.now.items in
    let t = c.args.thread in
    let one = c.index_mut-one.result.now in
    let same : one ≡ th = c.index_mut-one.ensures.value ∙ get_or_from_slice_get all t th one here in
    numbered_set 0 t t all (record { stack = one.stack; ended = c.args.ended; count = c.args.count }) (omega arith)
    ∙ ap (λ (x : KeptThread). slice_set (numbered 0 all) t (standing_thread t c.args.ended c.args.count x.stack)) same
