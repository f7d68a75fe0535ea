use Rattle.mr_frame.proofs.Common.{◌≡◌, ◌+◌, drop, get_or, length, sym, ap, ◌∙◌, subst, arith, length-drop, List, None, true, Local, LocalName, Pointer, TypeOk, Val, has_shape, world_of, stored_each, stored_in, all_at}
use Rattle.mr_frame.proofs.BeginSteps.{Storing, shape_here, storing_cut, storing_end, storing_first, storing_next, storing_stops}
use Rattle.mr_frame.proofs.ToldLaws.{told_stop}
use Rattle.mr_frame.proofs.begins.store_each.Goals as goal

-- what stands for a name and a pointer that aren't there
abbrev no_name : LocalName
no_name = record { 0 = 0 }

abbrev nowhere : Pointer
nowhere = record { addr = 0; prov = None }

pub loop-k-init : goal.loop-k-init
loop-k-init c =
    let fn = c.args.function.now in
    let ps = drop 1 c.args.pointers.now in
    let vs = c.args.args.now in
    let w = world_of c.args.s.now in
    let many : length ps ≡ length fn.args = omega (arith, c.requires.pointers, length-drop 1 c.args.pointers.now) in
    subst (λ (xs : List LocalName). Storing fn xs ps vs ps vs w w) (sym c.as_slice-names.ensures) (storing_first fn c.requires.function ps vs w c.requires.shapes many)

pub store-requires-clause-ok : goal.store-requires-clause-ok
store-requires-clause-ok c = all_at (λ (l : Local). TypeOk l.ty) c.args.function.now.locals _ c.local_at.result.now c.requires.function.ok c.local_at.ensures

pub store-requires-clause-shape : goal.store-requires-clause-shape
store-requires-clause-shape c =
    let k = c.loop-k.k in
    let cut = storing_cut c.args.function.now c.as_slice-names.result.now k no_name c.args.pointers.now nowhere c.args.args.now c.index-args-k.result (world_of c.args.s.now) (world_of c.loop-k.s) c.loop-k-test.true c.loop-k.invariant in
    subst (λ (v : Val). has_shape c.local_at.result.now.ty v ≡ true) (sym c.index-args-k.is)
    (shape_here c.args.function.now _ _ _ _ _ _ _ _ _ _ cut c.local_at.result.now c.local_at.ensures)

pub loop-k-preserved : goal.loop-k-preserved
loop-k-preserved c =
    let fn = c.args.function.now in
    let xs = c.as_slice-names.result.now in
    let ps = c.args.pointers.now in
    let vs = c.args.args.now in
    let k = c.loop-k.k in
    let w = world_of c.loop-k.s in
    let cut = storing_cut fn xs k no_name ps nowhere vs c.index-args-k.result (world_of c.args.s.now) w c.loop-k-test.true c.loop-k.invariant in
    storing_next fn (get_or xs k no_name) _ (get_or ps (k + 1) nowhere) _ _ (get_or vs k c.index-args-k.result) _ _ _ w cut c.local_at.result.now c.local_at.ensures (world_of c.store.new.s)
    (ap (λ (v : Val). stored_in c.local_at.result.now.ty (get_or ps (k + 1) nowhere) v w) (sym c.index-args-k.is) ∙ c.in-Ok.ensures)

pub returns-in-Err : goal.returns-in-Err
returns-in-Err c =
    let fn = c.args.function.now in
    let xs = c.as_slice-names.result.now in
    let ps = c.args.pointers.now in
    let vs = c.args.args.now in
    let k = c.loop-k.k in
    let w = world_of c.loop-k.s in
    let t = c.local_at.result.now.ty in
    let cut = storing_cut fn xs k no_name ps nowhere vs c.index-args-k.result (world_of c.args.s.now) w c.loop-k-test.true c.loop-k.invariant in
    λ types e. told_stop c.in-Err.fault (stored_in t (get_or ps (k + 1) nowhere) c.index-args-k.result w) (stored_each types (drop 1 ps) vs (world_of c.args.s.now)) (world_of c.store.new.s) (world_of c.store.new.s) c.store.new.s.notes.refused c.in-Err.ensures
    (λ r stop. storing_stops fn (get_or xs k no_name) _ (get_or ps (k + 1) nowhere) _ _ (get_or vs k c.index-args-k.result) _ _ _ w cut c.local_at.result.now c.local_at.ensures r
    (ap (λ (v : Val). stored_in t (get_or ps (k + 1) nowhere) v w) (sym c.index-args-k.is) ∙ stop) types e)

pub returns : goal.returns
returns c =
    storing_end c.args.function.now c.as_slice-names.result.now c.loop-k.k c.args.pointers.now c.args.args.now (world_of c.args.s.now) (world_of c.loop-k.s) c.loop-k-test.false c.loop-k.invariant
