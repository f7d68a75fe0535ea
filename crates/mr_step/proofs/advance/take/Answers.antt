use Rattle.mr_step.proofs.Common.{◌≡◌, refl, sym, subst, arith, ℕ, List, Some, Ok, Err, slice_get_read, slice_get, look_of, Memory, Progress, ActAnswer, BeginsAct}
use Rattle.std.proofs.lemmas.List.{length-set}
use Rattle.std.specs.Vec.{with_item}
use Rattle.mr_step.proofs.SoundLaws.{begins_act, thread_there}
use Rattle.mr_step.proofs.TakenLaws.{acted, scene_begins, scene_count, scene_memory, scene_thread, takes, untaken}
use Rattle.mr_step.proofs.advance.take.Goals as goal

pub index_mut-thread-requires : goal.index_mut-thread-requires
index_mut-thread-requires c =
    let there = thread_there c.args.look.now c.args.entry.now.thread c.args.p.now c.requires in
    omega (arith, c.args.p.now.threads.ok.0)

pub act-requires-clause-begins : goal.act-requires-clause-begins
act-requires-clause-begins c =
    let p = c.args.p.now in
    let t = c.args.entry.now.thread in
    let th = c.index_mut-thread.result.now in
    let s = c.begin.new.self in
    let world = c.begin.ensures in
    let begins = begins_act c.args.look.now t p c.requires th (slice_get_read p.threads.items _ t th refl (thread_there c.args.look.now t p c.requires) c.index_mut-thread.ensures.value) in
    subst (λ (k : ℕ). BeginsAct c.args.look.now k th s.memory p.sync) (sym (scene_thread p.scene.memory t th.count s world))
    (subst (λ (o : Memory). BeginsAct c.args.look.now t th o p.sync) (sym (scene_memory p.scene.memory t th.count s world)) begins)

pub act-requires-clause-scene : goal.act-requires-clause-scene
act-requires-clause-scene c =
    scene_begins c.args.p.now.scene.memory c.args.entry.now.thread c.index_mut-thread.result.now.count c.begin.new.self c.begin.ensures

pub act-requires-clause-count : goal.act-requires-clause-count
act-requires-clause-count c =
    scene_count c.args.p.now.scene.memory c.args.entry.now.thread c.index_mut-thread.result.now.count c.begin.new.self c.begin.ensures

pub settle-requires : goal.settle-requires
settle-requires c =
    let p = c.args.p.now in
    let t = c.args.entry.now.thread in
    let there = thread_there c.args.look.now t p c.requires in
    let same = length-set p.threads.items t c.act.new.thread in
    record { thread = omega arith; there = c.requires.there; steps = c.requires.before.steps }

pub returns-in-Err : goal.returns-in-Err
returns-in-Err c =
    let p = c.args.p.now in
    let t = c.args.entry.now.thread in
    let th = c.index_mut-thread.result.now in
    let here : slice_get p.threads.items t ≡ Some th = slice_get_read p.threads.items _ t th refl (thread_there c.args.look.now t p c.requires) c.index_mut-thread.ensures.value in
    let left = c.act.new.scene in
    let mid : Progress = record p { scene = left; threads = with_item p.threads t c.act.new.thread; sync = c.act.new.sync } in
    let picked = subst (λ (ks : List ℕ). ActAnswer (look_of c.args.look.now) c.begin.new.self.thread ks th c.act.new.thread c.begin.new.self.memory left p.sync c.act.new.sync (Err c.in-Err.fault)) c.as_slice.ensures c.in-Err.ensures in
    let told = acted p.scene.memory t th.count c.begin.new.self c.begin.ensures (look_of c.args.look.now) c.args.entry.now.picks th c.act.new.thread left p.sync c.act.new.sync (Err c.in-Err.fault) picked in
    untaken c.args.look.now c.args.entry.now p c.requires th here c.in-Err.fault c.act.new.thread left c.act.new.sync told mid c.without.new.p refl refl c.without.result c.without.ensures

pub returns-in_ok-settle-in-Ok : goal.returns-in_ok-settle-in-Ok
returns-in_ok-settle-in-Ok c =
    let p = c.args.p.now in
    let t = c.args.entry.now.thread in
    let th = c.index_mut-thread.result.now in
    let here : slice_get p.threads.items t ≡ Some th = slice_get_read p.threads.items _ t th refl (thread_there c.args.look.now t p c.requires) c.index_mut-thread.ensures.value in
    let left = c.act.new.scene in
    let mid : Progress = record p { scene = left; threads = with_item p.threads t c.act.new.thread; sync = c.act.new.sync } in
    let picked = subst (λ (ks : List ℕ). ActAnswer (look_of c.args.look.now) c.begin.new.self.thread ks th c.act.new.thread c.begin.new.self.memory left p.sync c.act.new.sync (Ok c.in-Ok.deed)) c.as_slice.ensures c.in-Ok.ensures in
    let acts = acted p.scene.memory t th.count c.begin.new.self c.begin.ensures (look_of c.args.look.now) c.args.entry.now.picks th c.act.new.thread left p.sync c.act.new.sync (Ok c.in-Ok.deed) picked in
    takes c.args.look.now c.args.entry.now p c.requires th here mid c.settle.new.p c.act.new.thread c.in-Ok.deed acts refl refl c.in_ok-settle-in-Ok.ensures.ok
