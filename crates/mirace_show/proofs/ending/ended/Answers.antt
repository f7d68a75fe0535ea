use Rattle.std.proofs.Common.{sym}
use Rattle.mirace_show.proofs.ending.ended.Goals as goal

pub returns-in-Ok-clause-done : goal.returns-in-Ok-clause-done
returns-in-Ok-clause-done g c = rw c.in-Ok.is (rw c.from.ensures (record {
  ends = λ contents told. rw (sym c.as_slice.ensures.value) (c.mirace_show.ensures.ends contents told);
  untold = λ untold. rw (sym c.as_slice.ensures.value) (c.mirace_show.ensures.untold untold);
  usage = rw (sym c.as_slice.ensures.value) c.mirace_show.ensures.usage;
  no_usage = rw (sym c.as_slice.ensures.value) c.mirace_show.ensures.no_usage;
}))
