use Rattle.mr_clocks.proofs.Common.{◌≡◌, ◌∙◌, ap, refl, sym, both_ways, Footprint, step_at, step_read, wakes_nobody}
use Rattle.mr_clocks.proofs.WakerLaws.{extended_none}
use Rattle.mr_clocks.proofs.wakers.prepare_wakes.Goals as goal

pub returns-then-wakes_nobody-clause-heads : goal.returns-then-wakes_nobody-clause-heads
returns-then-wakes_nobody-clause-heads c = extended_none c.args.wakers.now.heads.items c.args.wakers.now.heads.items refl

pub returns-then-wakes_nobody-clause-room : goal.returns-then-wakes_nobody-clause-room
returns-then-wakes_nobody-clause-room c =
    let run = c.args.run.now in
    let is : c.index-run-j.result ≡ step_at run c.args.j = step_read run c.args.j c.index-run-j.result c.requires c.index-run-j.is in
    record {
      room = λ some. absurd (both_ways _ some (sym (ap (λ (f : Footprint). wakes_nobody f) is) ∙ sym c.wakes_nobody.ensures ∙ c.if-wakes_nobody.true));
    }
