use Rattle.mr_turn.proofs.Common.{◌∙◌, ap, sym, length}
use Rattle.mr_turn.proofs.ThreadTypes.{other_types}
use Rattle.mr_turn.proofs.spawning.begins_thread.Goals as goal

pub returns-then-args-ne1 : goal.returns-then-args-ne1
returns-then-args-ne1 c = λ types e.
    sym (other_types c.args.f.now types (λ one. c.if-args-ne1.true (ap length c.as_slice-args.ensures ∙ one)) e)
