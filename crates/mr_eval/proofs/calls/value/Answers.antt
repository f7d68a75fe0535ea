use Rattle.mr_eval.proofs.Common.{List, sym, subst, Local, seen, value_in, ShapedAs, env_surround, valued, Surround, SoundValue}
use Rattle.mr_eval.proofs.CallLaws.{env_value, ruled, value_ruled, value_shaped, with_locals}
use Rattle.mr_eval.proofs.calls.value.Goals as goal

pub valued-requires : goal.valued-requires
valued-requires c =
    subst (λ (ls : List Local). SoundValue (with_locals (env_surround c.args.e.now) ls) c.args.v.now) (sym c.function_locals.ensures.locals)
    (env_value c.args.e.now c.function_locals.ensures.well_formed c.args.v.now c.requires)

pub fault_of-requires : goal.fault_of-requires
fault_of-requires c =
    let s : Surround = with_locals (env_surround c.args.e.now) c.function_locals.result.now in
    let sound = subst (λ (ls : List Local). SoundValue (with_locals (env_surround c.args.e.now) ls) c.args.v.now) (sym c.function_locals.ensures.locals)
    (env_value c.args.e.now c.function_locals.ensures.well_formed c.args.v.now c.requires) in
    ruled value_in c.in-Err.h (valued c.args.m.now s c.args.v.now (seen c.args.n.now)) (seen c.valued.new.notes) c.valued.new.notes.refused (ShapedAs s c.args.v.now) c.in-Err.ensures.given
    (value_ruled c.args.m.now s c.args.v.now (seen c.args.n.now) sound)

pub returns-in-Ok-clause-shape : goal.returns-in-Ok-clause-shape
returns-in-Ok-clause-shape c =
    let s : Surround = with_locals (env_surround c.args.e.now) c.function_locals.result.now in
    let sound = subst (λ (ls : List Local). SoundValue (with_locals (env_surround c.args.e.now) ls) c.args.v.now) (sym c.function_locals.ensures.locals)
    (env_value c.args.e.now c.function_locals.ensures.well_formed c.args.v.now c.requires) in
    subst (λ (ls : List Local). ShapedAs (with_locals (env_surround c.args.e.now) ls) c.args.v.now c.in-Ok.v.value) c.function_locals.ensures.locals
    (value_shaped c.args.m.now s c.args.v.now c.in-Ok.v.value (seen c.args.n.now) (seen c.valued.new.notes) sound c.in-Ok.ensures.given)
