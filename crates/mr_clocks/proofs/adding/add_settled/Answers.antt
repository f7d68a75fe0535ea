use Rattle.mr_clocks.proofs.Common.{slice_index, refl, sym, ◌∙◌, ap, arith, None, thread_at}
use Rattle.mr_clocks.proofs.Kept.{clocks_same, latest_low, latest_more, made_same, rows_same}
use Rattle.mr_clocks.proofs.Noting.{keys_same}
use Rattle.mr_clocks.proofs.SkipLaws.{skips_none, skips_same}
use Rattle.mr_clocks.proofs.WakerLaws.{wakers_extended}
use Rattle.mr_clocks.proofs.adding.add_settled.Goals as goal

pub enter-requires-clause-clocks : goal.enter-requires-clause-clocks
enter-requires-clause-clocks c =
    clocks_same c.args.run.now c.args.j c.args.clocks.now.items c.args.clocks.now.items c.args.numbers.now.items c.prepare.new.numbers.items
    refl c.in_ok-prepare.ensures.numbers c.requires.clocks

pub enter-requires-clause-wakers : goal.enter-requires-clause-wakers
enter-requires-clause-wakers c =
    wakers_extended c.args.run.now c.args.j c.args.j c.args.wakers.now.heads.items c.prepare.new.wakers.heads.items c.args.wakers.now.links.items c.prepare.new.wakers.links.items
    c.in_ok-prepare.ensures.heads c.in_ok-prepare.ensures.wakings c.requires.wakers

pub enter-requires-clause-rows : goal.enter-requires-clause-rows
enter-requires-clause-rows c =
    rows_same c.args.run.now c.args.j c.args.rows.now.items c.args.rows.now.items c.args.links.now.items c.prepare.new.links.items
    refl c.in_ok-prepare.ensures.links c.requires.rows

pub enter-requires-clause-skips : goal.enter-requires-clause-skips
enter-requires-clause-skips c =
    skips_same c.args.run.now c.args.j c.args.links.now.items c.prepare.new.links.items c.args.skips.now.items c.prepare.new.skips.items
    c.in_ok-prepare.ensures.links c.in_ok-prepare.ensures.skips c.requires.skips

pub enter-requires-clause-left : goal.enter-requires-clause-left
enter-requires-clause-left c =
    skips_none c.args.run.now c.args.j c.prepare.new.links.items c.new-left.result.items c.new-left.ensures.items

pub enter-requires-clause-next : goal.enter-requires-clause-next
enter-requires-clause-next c =
    let low = latest_low c.args.run.now c.args.j c.args.latest.now c.thread_at.result c.requires.latest in
    omega (arith, c.at-next.ensures, low)

pub enter-requires-clause-made : goal.enter-requires-clause-made
enter-requires-clause-made c =
    let is_next = c.at-next.ensures ∙ ap (slice_index c.args.latest.now) c.thread_at.ensures in
    made_same c.args.run.now c.args.clocks.now.items c.args.clocks.now.items c.args.numbers.now.items c.prepare.new.numbers.items _ c.at-next.result c.args.j None
    refl (sym c.in_ok-prepare.ensures.numbers) (sym is_next) c.requires.keeps

pub returns-clause-latest : goal.returns-clause-latest
returns-clause-latest c =
    latest_more c.args.run.now c.args.j c.args.latest.now c.prepare.new.latest (thread_at c.args.run.now c.args.j)
    c.requires.latest refl c.in_ok-prepare.ensures.own c.in_ok-prepare.ensures.others

pub returns-in_err-prepare-clause-keys : goal.returns-in_err-prepare-clause-keys
returns-in_err-prepare-clause-keys c = keys_same c.args.rows.now.items
