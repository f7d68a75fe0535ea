use Rattle.mr_runs.proofs.Common.{◌∙◌, List, length, ap, arith, on_err_weaker, on_ok_weaker, AbstractByte, with_range_replaced}
use Rattle.mr_runs.proofs.KeptLaws.{sound_after}
use Rattle.mr_runs.proofs.StampLaws.{sound_length}
use Rattle.mr_runs.proofs.runs.Runs.write.Goals as goal

pub write_bytes-requires-clause-inside : goal.write_bytes-requires-clause-inside
write_bytes-requires-clause-inside c = let all = sound_length c.self.inside.kept c.self.inside.len c.self.invariant in omega (arith, all, c.requires, ap length c.self.view_is)

pub invariant_of-self : goal.invariant_of-self
invariant_of-self c = sound_after c.write_bytes.result c.self.inside.kept c.write_bytes.new.kept c.self.inside.len c.args.from c.args.bytes.now c.write_bytes.ensures.ok c.write_bytes.ensures.err

pub returns-clause-ok : goal.returns-clause-ok
returns-clause-ok c =
    on_ok_weaker c.write_bytes.result
    (λ changed. changed.bytes_are ∙ ap (λ (bs : List AbstractByte). with_range_replaced bs c.args.from c.args.bytes.now) c.self.view_is)
    c.write_bytes.ensures.ok

pub returns-clause-err : goal.returns-clause-err
returns-clause-err c = on_err_weaker c.write_bytes.result (λ same. same.bytes_are ∙ c.self.view_is) c.write_bytes.ensures.err
