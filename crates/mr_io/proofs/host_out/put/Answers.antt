use Rattle.std.proofs.Common.{◌∙◌, sym, inl, inr}
use Rattle.mr_io.proofs.host_out.put.Goals.{in-Ok, in-Err}
use Rattle.mr_io.proofs.host_out.put.Goals as goal

pub returns-clause-lost : goal.returns-clause-lost
returns-clause-lost g c = elim c.match-put.branch [
  | in-Ok w ↦ λ none. rw w.out-is (inr (
    w.in-Ok.n,
    c.put.new.self,
    w.settle.result,
    w.in-Ok.ensures.takes,
    w.settle.ensures.flushes,
    w.flushed.ensures.none (sym w.result-is ∙ none),
  ))
  | in-Err w ↦ λ none. rw w.out-is (inl (w.in-Err.field-0, w.in-Err.ensures.takes))
]
