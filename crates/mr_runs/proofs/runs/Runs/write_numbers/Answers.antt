use Rattle.mr_runs.proofs.Common.{◌∙◌, List, length, ap, arith, on_err_weaker, on_ok_weaker, AbstractByte, with_provenance, with_range_replaced}
use Rattle.mr_runs.proofs.KeptLaws.{sound_after}
use Rattle.mr_runs.proofs.StampLaws.{sound_length}
use Rattle.mr_runs.proofs.runs.Runs.write_numbers.Goals as goal

pub put_piece-requires-clause-inside : goal.put_piece-requires-clause-inside
put_piece-requires-clause-inside c = let all = sound_length c.self.inside.kept c.self.inside.len c.self.invariant in omega (arith, all, c.requires, ap length c.self.view_is)

pub invariant_of-self : goal.invariant_of-self
invariant_of-self c = sound_after c.put_piece.result c.self.inside.kept c.put_piece.new.kept c.self.inside.len c.args.from (with_provenance c.args.provenance c.args.numbers.now) c.put_piece.ensures.ok c.put_piece.ensures.err

pub returns-clause-ok : goal.returns-clause-ok
returns-clause-ok c =
    on_ok_weaker c.put_piece.result
    (λ changed. changed.bytes_are ∙ ap (λ (bs : List AbstractByte). with_range_replaced bs c.args.from (with_provenance c.args.provenance c.args.numbers.now)) c.self.view_is)
    c.put_piece.ensures.ok

pub returns-clause-err : goal.returns-clause-err
returns-clause-err c = on_err_weaker c.put_piece.result (λ same. same.bytes_are ∙ c.self.view_is) c.put_piece.ensures.err
