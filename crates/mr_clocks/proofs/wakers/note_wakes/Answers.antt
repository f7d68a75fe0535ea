use Rattle.mr_clocks.proofs.Common.{List, ℕ, ◌≡◌, ◌<◌, ◌∙◌, ap, length, slice_index, subst, sym, arith, Event, Footprint, spawns, step_at, step_read, IsKept}
use Rattle.mr_clocks.proofs.WakerLaws.{wakers_end, wakers_start, wakes_each, wakes_spawned, wakes_woken}
use Rattle.mr_clocks.proofs.wakers.note_wakes.Goals as goal

pub note_woken-requires-clause-wakers : goal.note_woken-requires-clause-wakers
note_woken-requires-clause-wakers c = wakers_start c.args.run.now c.args.j c.args.wakers.now.heads.items c.args.wakers.now.links.items c.requires.wakers

pub note_woken-requires-clause-reached : goal.note_woken-requires-clause-reached
note_woken-requires-clause-reached c =
    let run = c.args.run.now in
    let is : c.index-run-j.result ≡ step_at run c.args.j = step_read run c.args.j c.index-run-j.result c.requires.within c.index-run-j.is in
    let woken : c.woken.result.now ≡ (step_at run c.args.j).woken = c.woken.ensures ∙ ap (λ (g : Footprint). g.woken) is in
    subst (λ (l : List ℕ). (y : ℕ) → y < length l → slice_index l y < length c.args.wakers.now.heads.items) (sym woken)
    (λ y lt. c.requires.room.reached (slice_index (step_at run c.args.j).woken y) (wakes_woken (step_at run c.args.j) y lt))

pub note_woken-requires-clause-room : goal.note_woken-requires-clause-room
note_woken-requires-clause-room c =
    let run = c.args.run.now in
    let is : c.index-run-j.result ≡ step_at run c.args.j = step_read run c.args.j c.index-run-j.result c.requires.within c.index-run-j.is in
    let many = ap (λ (l : List ℕ). length l) (c.woken.ensures ∙ ap (λ (g : Footprint). g.woken) is) in
    let room = c.requires.room.room in
    omega (arith, many, room)

pub note_woken-requires-clause-few : goal.note_woken-requires-clause-few
note_woken-requires-clause-few c =
    let run = c.args.run.now in
    let is : c.index-run-j.result ≡ step_at run c.args.j = step_read run c.args.j c.index-run-j.result c.requires.within c.index-run-j.is in
    let many = ap (λ (l : List ℕ). length l) (c.woken.ensures ∙ ap (λ (g : Footprint). g.woken) is) in
    let small = c.requires.room.small in
    omega (arith, many, small)

pub note_spawned-requires-clause-reached : goal.note_spawned-requires-clause-reached
note_spawned-requires-clause-reached c = λ t h.
    let run = c.args.run.now in
    let is : c.index-run-j.result ≡ step_at run c.args.j = step_read run c.args.j c.index-run-j.result c.requires.within c.index-run-j.is in
    let event : c.event.result ≡ (step_at run c.args.j).event = c.event.ensures ∙ ap (λ (g : Footprint). g.event) is in
    let low = c.requires.room.reached t (wakes_spawned (step_at run c.args.j) t (ap (λ (e : Event). spawns e t) (sym event) ∙ h)) in
    let same = c.note_woken.ensures.reach in
    omega (arith, low, same)

pub note_spawned-requires-clause-room : goal.note_spawned-requires-clause-room
note_spawned-requires-clause-room c =
    let run = c.args.run.now in
    let is : c.index-run-j.result ≡ step_at run c.args.j = step_read run c.args.j c.index-run-j.result c.requires.within c.index-run-j.is in
    let many = ap (λ (l : List ℕ). length l) (c.woken.ensures ∙ ap (λ (g : Footprint). g.woken) is) in
    let room = c.requires.room.room in
    omega (arith, many, room, c.note_woken.ensures.more, c.note_woken.ensures.room)

pub note_spawned-requires-clause-few : goal.note_spawned-requires-clause-few
note_spawned-requires-clause-few c =
    let run = c.args.run.now in
    let is : c.index-run-j.result ≡ step_at run c.args.j = step_read run c.args.j c.index-run-j.result c.requires.within c.index-run-j.is in
    let many = ap (λ (l : List ℕ). length l) (c.woken.ensures ∙ ap (λ (g : Footprint). g.woken) is) in
    let small = c.requires.room.small in
    omega (arith, many, small, c.note_woken.ensures.more)

pub returns : goal.returns
returns c =
    let run = c.args.run.now in
    let is : c.index-run-j.result ≡ step_at run c.args.j = step_read run c.args.j c.index-run-j.result c.requires.within c.index-run-j.is in
    let f = step_at run c.args.j in
    let woken : c.woken.result.now ≡ f.woken = c.woken.ensures ∙ ap (λ (g : Footprint). g.woken) is in
    let event : c.event.result ≡ f.event = c.event.ensures ∙ ap (λ (g : Footprint). g.event) is in
    let middle = c.note_woken.new.wakers in
    let new = c.note_spawned.new.wakers in
    wakers_end run c.args.j new.heads.items new.links.items c.note_spawned.ensures.wakers
    (wakes_each f (λ t. IsKept new.links.items (slice_index new.heads.items t) c.args.j)
    (λ y lt.
    let kept = subst (λ (l : List ℕ). y < length l → IsKept middle.links.items (slice_index middle.heads.items (slice_index l y)) c.args.j) woken (c.note_woken.ensures.own y) lt in
    c.note_spawned.ensures.kept (slice_index f.woken y) kept)
    (λ t h. c.note_spawned.ensures.own t (ap (λ (e : Event). spawns e t) event ∙ h)))
