use Rattle.mr_frame.proofs.Common.{List, None, length, sym, ap, ◌∙◌, drop, replicate, slice_get, Pointer, world_of, stored_each, behind_first, with_each, entered, kept_locals}
use Rattle.mr_frame.proofs.BeginWhole.{args_typed, begins_many, begins_stop, begins_typed, begins_went}
use Rattle.mr_frame.proofs.ToldLaws.{told_stop}
use Rattle.mr_frame.proofs.begins.begin.Goals as goal

pub allocate_each-requires-clause-function : goal.allocate_each-requires-clause-function
allocate_each-requires-clause-function c = begins_typed c.args.look.now c.args.f.0 c.args.args.now c.args.picks.now (world_of c.args.s.now) c.requires c.function-function.result.now c.function-function.ensures

pub store_each-requires-clause-function : goal.store_each-requires-clause-function
store_each-requires-clause-function c = begins_typed c.args.look.now c.args.f.0 c.args.args.now c.args.picks.now (world_of c.args.s.now) c.requires c.function-function.result.now c.function-function.ensures

pub store_each-requires-clause-pointers : goal.store_each-requires-clause-pointers
store_each-requires-clause-pointers c =
    ap length c.as_slice.ensures.value
    ∙ begins_many c.args.look.now c.args.f.0 c.args.args.now c.args.picks.now (world_of c.args.s.now) c.requires c.function-function.result.now c.function-function.ensures
    c.allocate_each.new.out.items (world_of c.allocate_each.new.s) c.in_ok-allocate_each.ensures

pub returns-in-Err : goal.returns-in-Err
returns-in-Err c =
    let look = c.args.look.now in
    let number = c.args.f.0 in
    let vs = c.args.args.now in
    let picks = c.args.picks.now in
    let w = world_of c.args.s.now in
    let u = world_of c.allocate_each.new.s in
    let fn = c.function-function.result.now in
    let types = behind_first c.requires.types in
    let typed = args_typed look number vs picks w c.requires fn c.function-function.ensures in
    told_stop c.in-Err.fault (stored_each types (drop 1 c.as_slice.result.now) vs u) (entered number (slice_get look.program.now.functions number) vs picks w) (world_of c.store_each.new.s) (world_of c.store_each.new.s) c.store_each.new.s.notes.refused
    (c.in-Err.ensures types typed)
    (λ r e. begins_stop look number vs picks w c.requires fn c.function-function.ensures c.allocate_each.new.out.items u c.in_ok-allocate_each.ensures r
    (ap (λ (ps : List Pointer). stored_each types (drop 1 ps) vs u) (sym c.as_slice.ensures.value) ∙ e))

pub first_locals-requires-clause-pointers : goal.first_locals-requires-clause-pointers
first_locals-requires-clause-pointers c =
    ap length c.as_slice-in-Ok.ensures.value
    ∙ begins_many c.args.look.now c.args.f.0 c.args.args.now c.args.picks.now (world_of c.args.s.now) c.requires c.function-function.result.now c.function-function.ensures
    c.allocate_each.new.out.items (world_of c.allocate_each.new.s) c.in_ok-allocate_each.ensures

pub returns : goal.returns
returns c =
    let look = c.args.look.now in
    let number = c.args.f.0 in
    let vs = c.args.args.now in
    let picks = c.args.picks.now in
    let w = world_of c.args.s.now in
    let u = world_of c.allocate_each.new.s in
    let fn = c.function-function.result.now in
    let pointers = c.allocate_each.new.out.items in
    let types = behind_first c.requires.types in
    let typed = args_typed look number vs picks w c.requires fn c.function-function.ensures in
    let stored = ap (λ (ps : List Pointer). stored_each types (drop 1 ps) vs u) (sym c.as_slice.ensures.value) ∙ c.in-Ok.ensures types typed in
    let locals = c.in_ok-locals-in-Ok.ensures ∙ ap (λ (ps : List Pointer). with_each (replicate (length fn.locals) None) (kept_locals fn) ps) c.as_slice-in-Ok.ensures.value in
    begins_went look number vs picks w c.requires fn c.function-function.ensures pointers u c.in_ok-allocate_each.ensures (world_of c.store_each.new.s) c.in_ok-locals-in-Ok.locals.items stored locals
