use Rattle.mr_frame.proofs.Common.{◌<◌, ◌^◌, length, sym, subst, arith, Outcome, seen, seen_of, with_seen, TellsBy, World, world_of, Prepared, prepared, acted, Onward, look_of, onward_of, stack_of}
use Rattle.mr_frame.proofs.CallLaws.{prepared_stop}
use Rattle.mr_frame.proofs.CallStands.{call_begins, call_goes, call_stops, scene}
use Rattle.mr_frame.proofs.stack.Stack.call.Goals as goal

pub returns-in-Err : goal.returns-in-Err
returns-in-Err c =
    let look = c.args.look.now in
    let s = c.args.self.now in
    let w = world_of c.args.s.now in
    let callee = c.args.callee.now in
    let args = c.args.args.now in
    let to = c.args.place.now in
    let h = c.requires.due in
    let fits = h.due.stands.fits in
    prepared_stop {B = Onward} look.program.now c.in-Err.fault (prepared w.0 (look_of look) (scene look s callee args to h) callee args to (seen_of w.1)) (acted (look_of look) c.args.s.now.thread (stack_of s) c.args.picks.now w)
    (seen c.prepared.new.notes) (w.0, with_seen w.1 (seen c.prepared.new.notes)) c.prepared.new.notes.refused (c.in-Err.ensures fits.function fits.is)
    (λ r e. call_stops look s callee args to h c.args.s.now.thread c.args.picks.now w r e)

pub enter_call-requires : goal.enter_call-requires
enter_call-requires c =
    let h = c.requires.due in
    let fits = h.due.stands.fits in
    let kept = c.in-Ok.prepared in
    let is = c.in-Ok.ensures fits.function fits.is in
    let few : length kept.args.items < 2 ^ 63 = omega (arith, kept.args.ok.0, kept.args.ok.1, kept.args.small) in
    let pr : Prepared = record { place = kept.place; number = kept.function.0; function = is.function; types = is.types; args = kept.args.items } in
    call_begins c.args.look.now c.args.self.now c.args.callee.now c.args.args.now c.args.place.now h c.args.s.now c.args.picks.now c.requires.lawful pr few (seen c.prepared.new.notes) is.is kept.function.0 is.there is.typed

pub returns-in-Ok : goal.returns-in-Ok
returns-in-Ok c =
    let look = c.args.look.now in
    let s = c.args.self.now in
    let w = world_of c.args.s.now in
    let h = c.requires.due in
    let fits = h.due.stands.fits in
    let kept = c.in-Ok.prepared in
    let is = c.in-Ok.ensures fits.function fits.is in
    let pr : Prepared = record { place = kept.place; number = kept.function.0; function = is.function; types = is.types; args = kept.args.items } in
    let Q : Outcome Onward World → Type 0 = λ o. TellsBy (λ flow. onward_of flow (stack_of c.enter_call.new.self)) c.enter_call.result o (world_of c.enter_call.new.s) c.enter_call.new.s.notes.refused in
    subst Q (sym (call_goes look s c.args.callee.now c.args.args.now c.args.place.now h c.args.s.now.thread c.args.picks.now w pr (seen c.prepared.new.notes) is.is is.there)) c.enter_call.ensures
