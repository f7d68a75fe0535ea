use Rattle.mr_frame.proofs.Common.{ℕ, ◌+◌, ◌<◌, ◌^◌, refl, sym, ap, ◌∙◌, subst, arith, slice_index_or, world_of, acted, renewed, Frame, behind_stmt, frame_of, look_of, stack_of, AtStatement}
use Rattle.mr_ast.specs.declared.program.Stmt.TheVariants as stmt
use Rattle.mr_frame.proofs.LiveLaws.{live_can, live_goes, live_one_pick, live_stops, only_pick}
use Rattle.mr_frame.proofs.StandLaws.{holds_below, live_holds, room_behind}
use Rattle.mr_frame.proofs.ToldLaws.{told_stop}
use Rattle.mr_frame.proofs.stack.Stack.live.Goals as goal

pub slot-slot-requires : goal.slot-slot-requires
slot-slot-requires c = live_holds c.args.look.now c.args.self.now (AtStatement (stmt.Live c.args.x)) c.requires.due c.args.x refl

pub set_storage-requires : goal.set_storage-requires
set_storage-requires c = holds_below c.args.look.now c.args.self.now c.args.x (live_holds c.args.look.now c.args.self.now (AtStatement (stmt.Live c.args.x)) c.requires.due c.args.x refl)

pub step_on-requires : goal.step_on-requires
step_on-requires c =
    let P : ℕ → Type 0 = λ n. n + 1 < 2 ^ 64 in
    subst P (sym (ap (λ (f : Frame). f.at) c.set_storage.ensures)) (room_behind c.args.look.now c.args.self.now (AtStatement (stmt.Live c.args.x)) c.requires.due (stmt.Live c.args.x) refl)

pub bounds-picks-0 : goal.bounds-picks-0
bounds-picks-0 c =
    let fits = c.requires.due.stands.fits in
    let is = c.slot-slot.ensures fits.function fits.is in
    let one = live_one_pick c.args.look.now c.args.self.now c.args.x c.slot-slot.result c.requires.due is c.args.s.now c.args.picks.now c.requires.lawful in
    omega (arith, one)

pub renew-requires : goal.renew-requires
renew-requires c =
    let fits = c.requires.due.stands.fits in
    let is = c.slot-slot.ensures fits.function fits.is in
    let one = live_one_pick c.args.look.now c.args.self.now c.args.x c.slot-slot.result c.requires.due is c.args.s.now c.args.picks.now c.requires.lawful in
    live_can c.args.look.now c.args.self.now c.args.x c.slot-slot.result c.requires.due is c.args.s.now c.args.picks.now c.requires.lawful (slice_index_or c.args.picks.now 0 0) (only_pick c.args.picks.now one)

pub returns-in-Err : goal.returns-in-Err
returns-in-Err c =
    let s = c.args.self.now in
    let slot = c.slot-slot.result in
    let w = world_of c.args.s.now in
    let fits = c.requires.due.stands.fits in
    let is = c.slot-slot.ensures fits.function fits.is in
    let picks = c.args.picks.now in
    let a = slice_index_or picks 0 0 in
    let one = only_pick picks (live_one_pick c.args.look.now s c.args.x slot c.requires.due is c.args.s.now picks c.requires.lawful) in
    told_stop c.in-Err.fault (renewed slot a w) (acted (look_of c.args.look.now) c.args.s.now.thread (stack_of s) picks w) (world_of c.renew.new.s) (world_of c.renew.new.s) c.renew.new.s.notes.refused c.in-Err.ensures
    (λ r e. live_stops c.args.look.now s c.args.x slot c.requires.due is c.args.s.now picks c.requires.lawful a one r e)

pub returns-in-Ok : goal.returns-in-Ok
returns-in-Ok c =
    let s = c.args.self.now in
    let slot = c.slot-slot.result in
    let fits = c.requires.due.stands.fits in
    let is = c.slot-slot.ensures fits.function fits.is in
    let picks = c.args.picks.now in
    let a = slice_index_or picks 0 0 in
    let one = only_pick picks (live_one_pick c.args.look.now s c.args.x slot c.requires.due is c.args.s.now picks c.requires.lawful) in
    live_goes c.args.look.now s c.args.x slot c.requires.due is c.args.s.now picks c.requires.lawful a one (world_of c.renew.new.s) c.in-Ok.p (frame_of c.step_on.new.self) c.in-Ok.ensures
    (c.step_on.ensures ∙ ap behind_stmt c.set_storage.ensures)
