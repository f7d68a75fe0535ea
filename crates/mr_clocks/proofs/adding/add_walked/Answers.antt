use Rattle.mr_clocks.proofs.Common.{List, None, Option, Some, ◌<◌, vec_capacity, vec_len, slice_index, refl, sym, ◌∙◌, ap, subst, arith, step_at, thread_at, Row, AreAllAsked}
use Rattle.std.specs.Prelude.{OnSome}
use Rattle.mr_clocks.proofs.Kept.{clocks_same, latest_low, latest_more, made_same, rows_same}
use Rattle.mr_clocks.proofs.Noting.{keys_same}
use Rattle.mr_clocks.proofs.SkipLaws.{skips_same}
use Rattle.mr_clocks.proofs.WakerLaws.{wakers_extended}
use Rattle.mr_clocks.proofs.adding.add_walked.Goals as goal

-- what holds anyway holds where there is a value
if_some : {X : Type 0} (o : Option X) (P : Type 0) → P → OnSome o P
if_some None P p = tt
if_some (Some x) P p = p

pub clock_of-requires-clause-clocks : goal.clock_of-requires-clause-clocks
clock_of-requires-clause-clocks c =
    clocks_same c.args.run.now c.args.j c.args.clocks.now.items c.as_slice.result.now c.args.numbers.now.items c.as_slice-2.result.now
    c.as_slice.ensures.value c.as_slice-2.ensures.value c.requires.clocks

pub clock_of-requires-clause-rows : goal.clock_of-requires-clause-rows
clock_of-requires-clause-rows c =
    rows_same c.args.run.now c.args.j c.args.rows.now.items c.as_slice-3.result.now c.args.links.now.items c.as_slice-4.result.now
    c.as_slice-3.ensures.value c.as_slice-4.ensures.value c.requires.rows

pub clock_of-requires-clause-skips : goal.clock_of-requires-clause-skips
clock_of-requires-clause-skips c =
    skips_same c.args.run.now c.args.j c.args.links.now.items c.as_slice-4.result.now c.args.skips.now.items c.as_slice-5.result.now
    c.as_slice-4.ensures.value c.as_slice-5.ensures.value c.requires.skips

pub clock_of-requires-clause-found : goal.clock_of-requires-clause-found
clock_of-requires-clause-found c =
    subst (λ (l : List Row). AreAllAsked (step_at c.args.run.now c.args.j) l c.args.found.now) (sym c.as_slice-3.ensures.value) c.requires.found

pub partner_by-partner-requires-clause-clocks : goal.partner_by-partner-requires-clause-clocks
partner_by-partner-requires-clause-clocks c =
    clocks_same c.args.run.now c.args.j c.args.clocks.now.items c.as_slice-6.result.now c.args.numbers.now.items c.as_slice-7.result.now
    c.as_slice-6.ensures.value c.as_slice-7.ensures.value c.requires.clocks

pub partner_by-partner-requires-clause-rows : goal.partner_by-partner-requires-clause-rows
partner_by-partner-requires-clause-rows c =
    rows_same c.args.run.now c.args.j c.args.rows.now.items c.as_slice-8.result.now c.args.links.now.items c.as_slice-9.result.now
    c.as_slice-8.ensures.value c.as_slice-9.ensures.value c.requires.rows

pub partner_by-partner-requires-clause-found : goal.partner_by-partner-requires-clause-found
partner_by-partner-requires-clause-found c =
    subst (λ (l : List Row). AreAllAsked (step_at c.args.run.now c.args.j) l c.args.found.now) (sym c.as_slice-8.ensures.value) c.requires.found

pub partner_by-partner-requires-clause-next : goal.partner_by-partner-requires-clause-next
partner_by-partner-requires-clause-next c =
    let low = latest_low c.args.run.now c.args.j c.args.latest.now c.thread_at.result c.requires.latest in
    omega (arith, c.at-next.ensures, low)

pub partner_by-partner-requires-clause-made : goal.partner_by-partner-requires-clause-made
partner_by-partner-requires-clause-made c =
    let made = c.in_ok-here.here.clock in
    let is_next = c.at-next.ensures ∙ ap (slice_index c.args.latest.now) c.thread_at.ensures in
    made_same c.args.run.now c.as_slice.result.now c.as_slice-6.result.now c.as_slice-2.result.now c.as_slice-7.result.now _ c.at-next.result c.args.j made
    (c.as_slice.ensures.value ∙ sym c.as_slice-6.ensures.value) (c.as_slice-2.ensures.value ∙ sym c.as_slice-7.ensures.value) (sym is_next) c.in_ok-here.ensures.made

pub enter-requires-clause-clocks : goal.enter-requires-clause-clocks
enter-requires-clause-clocks c =
    clocks_same c.args.run.now c.args.j c.args.clocks.now.items c.reserve.new.self.items c.args.numbers.now.items c.prepare.new.numbers.items
    c.in_ok-reserve.ensures.items c.in_ok-prepare.ensures.numbers c.requires.clocks

pub enter-requires-clause-wakers : goal.enter-requires-clause-wakers
enter-requires-clause-wakers c =
    wakers_extended c.args.run.now c.args.j c.args.j c.args.wakers.now.heads.items c.prepare.new.wakers.heads.items c.args.wakers.now.links.items c.prepare.new.wakers.links.items
    c.in_ok-prepare.ensures.heads c.in_ok-prepare.ensures.wakings c.requires.wakers

pub enter-requires-clause-rows : goal.enter-requires-clause-rows
enter-requires-clause-rows c =
    rows_same c.args.run.now c.args.j c.args.rows.now.items c.args.rows.now.items c.args.links.now.items c.prepare.new.links.items
    refl c.in_ok-prepare.ensures.links c.requires.rows

pub enter-requires-clause-skips : goal.enter-requires-clause-skips
enter-requires-clause-skips c =
    skips_same c.args.run.now c.args.j c.args.links.now.items c.prepare.new.links.items c.args.skips.now.items c.prepare.new.skips.items
    c.in_ok-prepare.ensures.links c.in_ok-prepare.ensures.skips c.requires.skips

pub enter-requires-clause-left : goal.enter-requires-clause-left
enter-requires-clause-left c =
    let left = c.in_ok-here.here.skips.items in
    skips_same c.args.run.now c.args.j c.as_slice-4.result.now c.prepare.new.links.items left left
    (c.in_ok-prepare.ensures.links ∙ sym c.as_slice-4.ensures.value) refl c.in_ok-here.ensures.skips

pub enter-requires-clause-next : goal.enter-requires-clause-next
enter-requires-clause-next c =
    let low = latest_low c.args.run.now c.args.j c.args.latest.now c.thread_at.result c.requires.latest in
    omega (arith, c.at-next.ensures, low)

pub enter-requires-clause-made : goal.enter-requires-clause-made
enter-requires-clause-made c =
    let made = c.in_ok-here.here.clock in
    let is_next = c.at-next.ensures ∙ ap (slice_index c.args.latest.now) c.thread_at.ensures in
    made_same c.args.run.now c.as_slice.result.now c.reserve.new.self.items c.as_slice-2.result.now c.prepare.new.numbers.items _ c.at-next.result c.args.j made
    (c.as_slice.ensures.value ∙ sym c.in_ok-reserve.ensures.items) (c.as_slice-2.ensures.value ∙ sym c.in_ok-prepare.ensures.numbers) (sym is_next) c.in_ok-here.ensures.made

pub enter-requires-clause-one_clock : goal.enter-requires-clause-one_clock
enter-requires-clause-one_clock c =
    if_some c.in_ok-here.here.clock (vec_len c.reserve.new.self < vec_capacity c.reserve.new.self) (omega (arith, c.in_ok-reserve.ensures.ok))

pub returns-clause-latest : goal.returns-clause-latest
returns-clause-latest c =
    latest_more c.args.run.now c.args.j c.args.latest.now c.prepare.new.latest (thread_at c.args.run.now c.args.j)
    c.requires.latest refl c.in_ok-prepare.ensures.own c.in_ok-prepare.ensures.others

pub returns-in_err-here-clause-keys : goal.returns-in_err-here-clause-keys
returns-in_err-here-clause-keys c = keys_same c.args.rows.now.items

pub returns-in_err-prepare-clause-keys : goal.returns-in_err-prepare-clause-keys
returns-in_err-prepare-clause-keys c = keys_same c.args.rows.now.items

pub returns-in_err-reserve-clause-keys : goal.returns-in_err-reserve-clause-keys
returns-in_err-reserve-clause-keys c = keys_same c.args.rows.now.items

pub returns-in_err-fill_hints-clause-keys : goal.returns-in_err-fill_hints-clause-keys
returns-in_err-fill_hints-clause-keys c = keys_same c.args.rows.now.items
