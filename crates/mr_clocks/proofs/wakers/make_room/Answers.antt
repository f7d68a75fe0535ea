use Rattle.mr_clocks.proofs.Common.{List, ℕ, ◌≡◌, ◌<◌, ◌∙◌, ap, length, refl, slice_index, subst, arith, Event, Footprint, spawns, step_at, step_read}
use Rattle.mr_clocks.proofs.WakerLaws.{extended_more, extended_none, wakes_each}
use Rattle.mr_clocks.proofs.wakers.make_room.Goals as goal

pub returns-in_err-reserve_links-clause-heads : goal.returns-in_err-reserve_links-clause-heads
returns-in_err-reserve_links-clause-heads c = extended_none c.args.wakers.now.heads.items c.args.wakers.now.heads.items refl

pub returns-in_err-extend_by-clause-heads : goal.returns-in_err-extend_by-clause-heads
returns-in_err-extend_by-clause-heads c =
    extended_more c.args.wakers.now.heads.items c.extend_to.new.heads.items c.extend_by.new.heads.items c.extend_to.ensures.kept c.in_err-extend_by.ensures.kept

pub returns-clause-heads : goal.returns-clause-heads
returns-clause-heads c =
    extended_more c.args.wakers.now.heads.items c.extend_to.new.heads.items c.extend_by.new.heads.items c.in_ok-extend_to.ensures.kept c.in_ok-extend_by.ensures.kept

pub returns-clause-room : goal.returns-clause-room
returns-clause-room c =
    let run = c.args.run.now in
    let is : c.index-run-j.result ≡ step_at run c.args.j = step_read run c.args.j c.index-run-j.result c.requires c.index-run-j.is in
    let f = step_at run c.args.j in
    let new = c.extend_by.new.heads.items in
    let woken : c.woken-2.result.now ≡ f.woken = c.woken-2.ensures ∙ ap (λ (g : Footprint). g.woken) is in
    let event : c.event.result ≡ f.event = c.event.ensures ∙ ap (λ (g : Footprint). g.event) is in
    let many = ap (λ (l : List ℕ). length l) (c.woken.ensures ∙ ap (λ (g : Footprint). g.woken) is) in
    let longer = c.in_ok-extend_by.ensures.kept.longer in
    let room = c.in_ok-reserve_links.ensures.room in
    let small = c.in_ok-reserve_links.ensures.small in
    record {
      room = λ _. record {
        reached = wakes_each f (λ t. t < length new)
            (λ y lt.
            let less = subst (λ (l : List ℕ). y < length l → slice_index l y < length c.extend_to.new.heads.items) woken (c.in_ok-extend_to.ensures.reached y) lt in
            omega (arith, less, longer))
            (λ t h. c.in_ok-extend_by.ensures.reached t (ap (λ (e : Event). spawns e t) event ∙ h));
        room = omega (arith, room, many);
        small = omega (arith, small, many);
      };
    }
