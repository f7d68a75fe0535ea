use Rattle.mr_traced.proofs.Common.{List, Result, subst, Footprint, Place, trace_again, Tells, named_of, IsRacesText, run_in, seen_in}
use Rattle.mr_traced.proofs.telling.races.Goals as goal

pub returns-clause-spelled : goal.returns-clause-spelled
returns-clause-spelled c = λ run spelled.
    subst (λ (r : Result (List Footprint) Place). Tells IsRacesText c.races_told.result
    (seen_in (run_in r) (named_of c.args.places.now)))
    (trace_again c.args.trace.now run spelled) c.races_told.ensures
