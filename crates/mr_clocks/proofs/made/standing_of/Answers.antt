use Rattle.mr_clocks.proofs.Common.{◌-◌, ap, ◌∙◌, arith, slice_index, subst, IsClockOf}
use Rattle.mr_clocks.specs.Clocks.{KeepsClock}
use Rattle.mr_clocks.proofs.Parts.{latest_step, part_ends, part_of_latest}
use Rattle.mr_clocks.proofs.RowLaws.{known_alone, known_clock, next_of, seen_rows}
use Rattle.mr_clocks.proofs.made.standing_of.Goals as goal

pub is_woken-requires-clause-next : goal.is_woken-requires-clause-next
is_woken-requires-clause-next c =
    next_of c.args.run.now c.args.j c.at-next.result c.args.latest.now c.requires.latest (c.at-next.ensures ∙ ap (slice_index c.args.latest.now) c.thread_at.ensures)

pub lent-clock-requires-clause-step : goal.lent-clock-requires-clause-step
lent-clock-requires-clause-step c =
    let step = latest_step c.args.run.now c.args.j c.args.latest.now c.thread_at.result c.at-next.result c.requires.latest c.at-next.ensures c.if-next-eq0.false in
    omega (arith, step.0, c.requires.clocks.all)

pub lent-clock-requires-clause-within : goal.lent-clock-requires-clause-within
lent-clock-requires-clause-within c =
    let step = latest_step c.args.run.now c.args.j c.args.latest.now c.thread_at.result c.at-next.result c.requires.latest c.at-next.ensures c.if-next-eq0.false in
    c.requires.clocks.within (c.at-next.result - 1) step.0

pub standing_to-requires-clause-part : goal.standing_to-requires-clause-part
standing_to-requires-clause-part c =
    let is_next = c.at-next.ensures ∙ ap (slice_index c.args.latest.now) c.thread_at.ensures in
    part_of_latest c.args.run.now c.args.j c.args.clocks.now c.args.numbers.now c.args.latest.now c.lent-clock.result.now c.at-next.result c.requires.clocks c.requires.latest is_next c.if-next-eq0.false c.lent-clock.ensures

pub returns-clause-settled : goal.returns-clause-settled
returns-clause-settled c = λ settled.
    let run = c.args.run.now in
    let clocks = c.args.clocks.now in
    let numbers = c.args.numbers.now in
    let latest = c.args.latest.now in
    let rows = c.args.rows.now in
    let links = c.args.links.now in
    let found = c.args.found.now in
    let next = c.at-next.result in
    let clock = c.lent-clock.result.now in
    let is_next = c.at-next.ensures ∙ ap (slice_index latest) c.thread_at.ensures in
    let unwoken = c.is_woken.ensures c.if-is_woken.false in
    let part = part_of_latest run c.args.j clocks numbers latest clock next c.requires.clocks c.requires.latest is_next c.if-next-eq0.false c.lent-clock.ensures in
    let here = known_clock run rows links found clock c.args.j next c.requires.rows c.requires.found (next_of run c.args.j next latest c.requires.latest is_next) part
    (λ m s apart. absurd (apart (unwoken m s))) (c.standing_to.ensures.known settled) in
    subst (λ n. KeepsClock run clocks numbers n c.args.j) is_next
    (record {
      some = omega (arith, c.if-next-eq0.false);
      clock = subst (λ l. IsClockOf run l c.args.j) c.lent-clock.ensures here;
    })

pub returns-clause-alone : goal.returns-clause-alone
returns-clause-alone c = λ settled.
    let run = c.args.run.now in
    let clock = c.lent-clock.result.now in
    let latest = c.args.latest.now in
    let rows = c.args.rows.now in
    let links = c.args.links.now in
    let found = c.args.found.now in
    let next = c.at-next.result in
    let is_next = c.at-next.ensures ∙ ap (slice_index latest) c.thread_at.ensures in
    let unwoken = c.is_woken.ensures c.if-is_woken.false in
    let part = part_of_latest run c.args.j c.args.clocks.now c.args.numbers.now latest clock next c.requires.clocks c.requires.latest is_next c.if-next-eq0.false c.lent-clock.ensures in
    let here = known_clock run rows links found clock c.args.j next c.requires.rows c.requires.found (next_of run c.args.j next latest c.requires.latest is_next) part
    (λ m s apart. absurd (apart (unwoken m s))) (c.standing_to.ensures.known settled) in
    known_alone run rows links found clock c.args.j c.requires.rows c.requires.found here (c.standing_to.ensures.known settled)

pub returns-clause-keeps : goal.returns-clause-keeps
returns-clause-keeps c = λ keeps.
    let run = c.args.run.now in
    let clocks = c.args.clocks.now in
    let numbers = c.args.numbers.now in
    let latest = c.args.latest.now in
    let next = c.at-next.result in
    let clock = c.lent-clock.result.now in
    let is_next = c.at-next.ensures ∙ ap (slice_index latest) c.thread_at.ensures in
    let unwoken = c.is_woken.ensures c.if-is_woken.false in
    let part = part_of_latest run c.args.j clocks numbers latest clock next c.requires.clocks c.requires.latest is_next c.if-next-eq0.false c.lent-clock.ensures in
    let seen = seen_rows run c.args.rows.now c.args.links.now c.args.found.now clock c.args.j next c.requires.rows c.requires.found (next_of run c.args.j next latest c.requires.latest is_next) (λ m s apart. absurd (apart (unwoken m s))) (c.standing_to.ensures.seen keeps) in
    subst (λ n. KeepsClock run clocks numbers n c.args.j) is_next
    (record {
      some = omega (arith, c.if-next-eq0.false);
      clock = subst (λ l. IsClockOf run l c.args.j) c.lent-clock.ensures (part_ends run clock c.args.j part seen);
    })
