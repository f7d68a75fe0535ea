use Rattle.mr_frame.proofs.Common.{◌+◌, Some, drop, sym, ap, ◌∙◌, arith, LocalName, env_surround}
use Rattle.std.proofs.lemmas.Option.{slice_get-get_or}
use Rattle.mr_typing.specs.Known.{ty_of}
use Rattle.mr_frame.proofs.FittingLaws.{cut_both, cut_last, cut_none, fitting_first, fitting_next, fitting_none, fitting_stops}
use Rattle.mr_frame.proofs.fitting.are_fitting.Goals as goal

pub loop-k-init : goal.loop-k-init
loop-k-init c = record { inside = omega arith; fits = fitting_first c.args.e.now c.args.function.now c.args.args.now c.args.names.now c.requires.args c.requires.names }

pub returns-in_default : goal.returns-in_default
returns-in_default c =
    let s = env_surround c.args.e.now in
    let fn = c.args.function.now in
    let args = c.args.args.now in
    let names = c.args.names.now in
    let k = c.loop-k.k in
    let cut = cut_none s fn args names k c.loop-k-test.true c.index-args-k.result c.index-args-k.is c.in_default.ensures.lookup.3 c.loop-k.invariant.fits in
    λ given kept p q. sym (fitting_none s fn c.index-args-k.result (drop (k + 1) args) args names cut given kept p q)

pub returns-then-not-same : goal.returns-then-not-same
returns-then-not-same c =
    let s = env_surround c.args.e.now in
    let fn = c.args.function.now in
    let args = c.args.args.now in
    let names = c.args.names.now in
    let k = c.loop-k.k in
    let x = c.in-Some.x.now in
    let found = c.in-Some.ensures.lookup in
    let there = slice_get-get_or names k x found.3.0 ∙ ap (λ (y : LocalName). Some y) (sym found.1) in
    let cut = cut_both s fn args names k c.loop-k-test.true c.index-args-k.result c.index-args-k.is x there c.loop-k.invariant.fits in
    λ given kept p q.
    sym (fitting_stops s fn c.index-args-k.result (drop (k + 1) args) args names x (drop (k + 1) names) cut (ty_of c.type_with.result) c.type_with.ensures c.local_at.result.now c.local_at.ensures (sym c.same.ensures ∙ c.if-not-same.true) given kept p q)

pub loop-k-preserved : goal.loop-k-preserved
loop-k-preserved c =
    let s = env_surround c.args.e.now in
    let fn = c.args.function.now in
    let args = c.args.args.now in
    let names = c.args.names.now in
    let k = c.loop-k.k in
    let x = c.in-Some.x.now in
    let found = c.in-Some.ensures.lookup in
    let inside = found.3.0 in
    let there = slice_get-get_or names k x inside ∙ ap (λ (y : LocalName). Some y) (sym found.1) in
    let cut = cut_both s fn args names k c.loop-k-test.true c.index-args-k.result c.index-args-k.is x there c.loop-k.invariant.fits in
    record {
      inside = omega (arith, inside);
      fits = fitting_next s fn c.index-args-k.result (drop (k + 1) args) args names x (drop (k + 1) names) cut (ty_of c.type_with.result) c.type_with.ensures c.local_at.result.now c.local_at.ensures (sym c.same.ensures ∙ c.if-not-same.false);
    }

pub returns : goal.returns
returns c =
    λ given kept p q. cut_last (env_surround c.args.e.now) c.args.function.now c.args.args.now c.args.names.now c.loop-k.k c.loop-k-test.false c.loop-k.auto.k-end c.loop-k.invariant.inside c.loop-k.invariant.fits given kept p q
