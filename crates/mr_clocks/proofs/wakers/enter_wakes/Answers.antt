use Rattle.mr_clocks.proofs.Common.{◌≡◌, ◌∙◌, ap, sym, Footprint, step_at, step_read, wakes_nobody}
use Rattle.mr_clocks.proofs.WakerLaws.{wakers_end, wakers_start, wakes_none}
use Rattle.mr_clocks.proofs.wakers.enter_wakes.Goals as goal

pub returns-then-wakes_nobody : goal.returns-then-wakes_nobody
returns-then-wakes_nobody c =
    let run = c.args.run.now in
    let is : c.index-run-j.result ≡ step_at run c.args.j = step_read run c.args.j c.index-run-j.result c.requires.within c.index-run-j.is in
    let nobody = sym (ap (λ (f : Footprint). wakes_nobody f) is) ∙ sym c.wakes_nobody.ensures ∙ c.if-wakes_nobody.true in
    let heads = c.args.wakers.now.heads.items in
    let links = c.args.wakers.now.links.items in
    wakers_end run c.args.j heads links (wakers_start run c.args.j heads links c.requires.wakers)
    (λ t w. absurd (wakes_none (step_at run c.args.j) nobody t w))

pub note_wakes-requires-clause-room : goal.note_wakes-requires-clause-room
note_wakes-requires-clause-room c =
    let run = c.args.run.now in
    let is : c.index-run-j.result ≡ step_at run c.args.j = step_read run c.args.j c.index-run-j.result c.requires.within c.index-run-j.is in
    c.requires.room.room (sym (ap (λ (f : Footprint). wakes_nobody f) is) ∙ sym c.wakes_nobody.ensures ∙ c.if-wakes_nobody.false)
