use Rattle.mr_frame.proofs.Common.{ℕ, ◌+◌, ◌<◌, ◌^◌, refl, sym, ap, ◌∙◌, subst, world_of, acted, unstored, Frame, behind_stmt, frame_of, look_of, stack_of, AtStatement}
use Rattle.mr_ast.specs.declared.program.Stmt.TheVariants as stmt
use Rattle.mr_frame.proofs.LiveLaws.{dead_goes, dead_stops}
use Rattle.mr_frame.proofs.StandLaws.{dead_holds, holds_below, room_behind}
use Rattle.mr_frame.proofs.ToldLaws.{told_stop}
use Rattle.mr_frame.proofs.stack.Stack.dead.Goals as goal

pub slot-slot-requires : goal.slot-slot-requires
slot-slot-requires c = dead_holds c.args.look.now c.args.self.now (AtStatement (stmt.Dead c.args.x)) c.requires c.args.x refl

pub set_storage-requires : goal.set_storage-requires
set_storage-requires c = holds_below c.args.look.now c.args.self.now c.args.x (dead_holds c.args.look.now c.args.self.now (AtStatement (stmt.Dead c.args.x)) c.requires c.args.x refl)

pub step_on-requires : goal.step_on-requires
step_on-requires c =
    let P : ℕ → Type 0 = λ n. n + 1 < 2 ^ 64 in
    subst P (sym (ap (λ (f : Frame). f.at) c.set_storage.ensures)) (room_behind c.args.look.now c.args.self.now (AtStatement (stmt.Dead c.args.x)) c.requires (stmt.Dead c.args.x) refl)

pub returns-in-Err : goal.returns-in-Err
returns-in-Err c =
    let s = c.args.self.now in
    let slot = c.slot-slot.result in
    let w = world_of c.args.s.now in
    let fits = c.requires.stands.fits in
    let is = c.slot-slot.ensures fits.function fits.is in
    λ picks. told_stop c.in-Err.fault (unstored slot.storage slot.size slot.align w) (acted (look_of c.args.look.now) c.args.s.now.thread (stack_of s) picks w) (world_of c.release.new.s) (world_of c.release.new.s) c.release.new.s.notes.refused c.in-Err.ensures
    (λ r e. dead_stops c.args.look.now s c.args.x slot c.requires is c.args.s.now.thread picks w r e)

pub returns-in-Ok : goal.returns-in-Ok
returns-in-Ok c =
    let fits = c.requires.stands.fits in
    let is = c.slot-slot.ensures fits.function fits.is in
    λ picks. dead_goes c.args.look.now c.args.self.now c.args.x c.slot-slot.result c.requires is c.args.s.now.thread picks (world_of c.args.s.now) (world_of c.release.new.s) (frame_of c.step_on.new.self) c.in-Ok.ensures
    (c.step_on.ensures ∙ ap behind_stmt c.set_storage.ensures)
