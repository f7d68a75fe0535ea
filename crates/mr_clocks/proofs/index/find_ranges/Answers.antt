use Rattle.mr_clocks.proofs.Common.{List, ap, ◌∙◌, list_any, Access, conflicts}
use Rattle.std.proofs.lemmas.Result.{on_ok_weaker}
use Rattle.mr_clocks.proofs.index.find_ranges.Goals as goal

pub returns-in-None-clause-all : goal.returns-in-None-clause-all
returns-in-None-clause-all c =
    on_ok_weaker c.collect_ranges.result
    (λ all r x con. all r x (ap (λ (l : List Access). list_any (conflicts r) l) c.accesses-accesses.ensures ∙ con))
    c.collect_ranges.ensures.all
