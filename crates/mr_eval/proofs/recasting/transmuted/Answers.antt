use Rattle.mr_eval.proofs.Common.{◌≡◌, Some, None, sym, ◌∙◌, subst, TransmuteInvalid, plainly, Outcome, decoded, encoding_of, Val, ty_of, Gives, same, seen}
use Rattle.mr_eval.proofs.LoadRuns.{meant_none, meant_some, transmuted_run}
use Rattle.mr_eval.proofs.recasting.transmuted.Goals as goal

-- src/recasting.rt:145:20
pub returns-in-Some-clause-given : goal.returns-in-Some-clause-given
returns-in-Some-clause-given c =
    let new = encoding_of (ty_of c.args.from) c.args.v.now in
    let found : decoded c.args.to.now new ≡ Some c.in-Some.v = sym c.in_ok-v.ensures ∙ c.in-Some.is in
    subst (λ (o : Outcome Val _). Gives same c.referred.result o (seen c.referred.new.notes) c.referred.new.notes.refused)
    (sym (transmuted_run c.args.m.now c.args.to.now (ty_of c.args.from) c.args.v.now (seen c.args.notes.now) c.requires.shape
    ∙ meant_some c.args.m.now (plainly TransmuteInvalid) c.args.to.now new c.in-Some.v (seen c.args.notes.now) found)) c.referred.ensures.given

-- src/recasting.rt:128:1
pub returns-in-None-clause-given : goal.returns-in-None-clause-given
returns-in-None-clause-given c =
    let new = encoding_of (ty_of c.args.from) c.args.v.now in
    let found : decoded c.args.to.now new ≡ None = sym c.in_ok-v.ensures ∙ c.in-None.is in
    transmuted_run c.args.m.now c.args.to.now (ty_of c.args.from) c.args.v.now (seen c.args.notes.now) c.requires.shape
    ∙ meant_none c.args.m.now (plainly TransmuteInvalid) c.args.to.now new (seen c.args.notes.now) found
