use Rattle.mr_eval.proofs.Common.{List, sym, subst, Local, seen, env_surround, placed, Surround, SoundPlace, any_result}
use Rattle.mr_eval.specs.Answers.{at_pointer}
use Rattle.mr_eval.proofs.CallLaws.{env_place, place_ruled, ruled, with_locals}
use Rattle.mr_eval.proofs.calls.place.Goals as goal

pub placed-requires : goal.placed-requires
placed-requires c =
    subst (λ (ls : List Local). SoundPlace (with_locals (env_surround c.args.e.now) ls) c.args.p.now) (sym c.function_locals.ensures.locals)
    (env_place c.args.e.now c.function_locals.ensures.well_formed c.args.p.now c.requires)

pub fault_of-requires : goal.fault_of-requires
fault_of-requires c =
    let s : Surround = with_locals (env_surround c.args.e.now) c.function_locals.result.now in
    let sound = subst (λ (ls : List Local). SoundPlace (with_locals (env_surround c.args.e.now) ls) c.args.p.now) (sym c.function_locals.ensures.locals)
    (env_place c.args.e.now c.function_locals.ensures.well_formed c.args.p.now c.requires) in
    ruled at_pointer c.in-Err.h (placed c.args.m.now s c.args.p.now (seen c.args.n.now)) (seen c.placed.new.notes) c.placed.new.notes.refused any_result c.in-Err.ensures.given
    (place_ruled c.args.m.now s c.args.p.now (seen c.args.n.now) sound)
