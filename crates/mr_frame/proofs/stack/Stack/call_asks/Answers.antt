use Rattle.mr_frame.proofs.Common.{◌≡◌, ◌++◌, List, sym, ap, ◌∙◌, subst, append-nil, same_Some, Result, Ok, Err, OnOk, if◌then◌else◌, Fault, Ask, seen, Seen, nothing_seen, Prepared, Prepares, prepared, kept_types, storage_asks, look_of, stop_with}
use Rattle.std.specs.Result.{is_ok}
use Rattle.mr_frame.proofs.BeginWhole.{function_typed}
use Rattle.mr_frame.proofs.CallStands.{asked_nothing, asked_prepared, scene}
use Rattle.mr_frame.proofs.StandLaws.{at_below}
use Rattle.mr_frame.proofs.stack.Stack.call_asks.Goals as goal

pub function-requires : goal.function-requires
function-requires c =
    let fits = c.requires.due.stands.fits in
    let is = c.in-Ok.ensures fits.function fits.is in
    at_below c.args.look.now.program.now.functions c.in-Ok.prepared.function.0 is.function is.there

pub push_asks-requires : goal.push_asks-requires
push_asks-requires c = function_typed c.args.look.now.program.now c.requires.due.ready.well c.in-Ok.prepared.function.0 c.function.result.now c.function.ensures

pub returns-in-Err-Undefined-clause-ok : goal.returns-in-Err-Undefined-clause-ok
returns-in-Err-Undefined-clause-ok c =
    let look = c.args.look.now in
    let s = c.args.self.now in
    let callee = c.args.callee.now in
    let args = c.args.args.now in
    let to = c.args.place.now in
    let m = c.args.m.now in
    let here = c.in-Err-Undefined in
    let fits = c.requires.due.stands.fits in
    let at = scene look s callee args to c.requires in
    let P : Fault → Type 0 = λ f. Prepares look.program.now (Err f) (prepared m (look_of look) at callee args to (seen c.new-notes.result)) (seen c.prepared.new.notes) c.prepared.new.notes.refused in
    let refused = subst P here.field-0-is (here.ensures fits.function fits.is) in
    let none = ap (λ (q : Seen). prepared m (look_of look) at callee args to q) (sym c.new-notes.ensures) ∙ refused in
    λ thread. sym (ap (λ (asks : List Ask). c.args.out.now.items ++ asks) (asked_nothing look s callee args to c.requires m thread nothing_seen (stop_with c.prepared.new.notes.refused here.field-0-0) none) ∙ append-nil c.args.out.now.items)

-- what a list came to where something was appended
in_ok : {X E : Type 0} (r : Result X E) (new long old : List Ask) → new ≡ (if is_ok r then long else old) → OnOk r (new ≡ long)
in_ok (Ok x) new long old e = e
in_ok (Err x) new long old e = tt

-- what was found in an empty list stands behind what the caller gave
pub returns-in-Ok-clause-ok : goal.returns-in-Ok-clause-ok
returns-in-Ok-clause-ok c =
    let look = c.args.look.now in
    let s = c.args.self.now in
    let callee = c.args.callee.now in
    let args = c.args.args.now in
    let to = c.args.place.now in
    let m = c.args.m.now in
    let fits = c.requires.due.stands.fits in
    let kept = c.in-Ok.prepared in
    let is = c.in-Ok.ensures fits.function fits.is in
    let pr : Prepared = record { place = kept.place; number = kept.function.0; function = is.function; types = is.types; args = kept.args.items } in
    let went = ap (λ (q : Seen). prepared m (look_of look) (scene look s callee args to c.requires) callee args to q) (sym c.new-notes.ensures) ∙ is.is in
    let same : is.function ≡ c.function.result.now = same_Some is.function c.function.result.now (sym is.there ∙ c.function.ensures) in
    let found = c.in_ok-push_asks-in-Ok.ensures is.types (ap kept_types (sym same) ∙ is.typed) in
    let all = c.as_slice.ensures.value ∙ found ∙ ap (λ (asks : List Ask). asks ++ storage_asks is.types) c.new-found.ensures.items in
    let P : List Ask → Type 0 = λ asks. OnOk c.extend_from_slice.result (c.extend_from_slice.new.self.items ≡ c.args.out.now.items ++ asks) in
    λ thread. subst P (sym (asked_prepared look s callee args to c.requires m thread nothing_seen pr (seen c.prepared.new.notes) went)) (subst P all (in_ok c.extend_from_slice.result c.extend_from_slice.new.self.items (c.args.out.now.items ++ c.as_slice.result.now) c.args.out.now.items c.extend_from_slice.ensures.items))
