use Rattle.mr_witness.proofs.Common.{◌≡◌, ℕ, ◌<◌, ◌↔◌, IsTrue, length, arith, sym, ◌∙◌, refl, subst, ap, false, List, Bool, slice_index_or, HappensBefore, predicted, IsWitness, kept_schedule}
use Rattle.mr_exchange.proofs.First.{partner_of_predicted, within_predicted}
use Rattle.mr_witness.proofs.Chosen.{both_copied, pushed_twice}
use Rattle.mr_witness.proofs.Kept.{witness_of_run}
use Rattle.mr_witness.proofs.choosing.witness.Goals as goal

pub follows-requires : goal.follows-requires
follows-requires c =
    let before = (partner_of_predicted c.args.run.now c.args.pair c.requires.listed).pair.before in
    let within = within_predicted c.args.run.now c.args.pair c.requires.listed in
    omega (arith, before, within)

pub unmarked-requires-clause-marks : goal.unmarked-requires-clause-marks
unmarked-requires-clause-marks c =
    let within = within_predicted c.args.run.now c.args.pair c.requires.listed in
    omega (arith, within, c.deref.ensures.len, c.in_ok-marked.ensures.length)

pub unmarked-requires-clause-within : goal.unmarked-requires-clause-within
unmarked-requires-clause-within c =
    let within = within_predicted c.args.run.now c.args.pair c.requires.listed in
    let same = ap length c.as_slice-recorded.ensures in
    let many = c.requires.many in
    omega (arith, within, same, many)

pub entry_copied-requires : goal.entry_copied-requires
entry_copied-requires c =
    let before = (partner_of_predicted c.args.run.now c.args.pair c.requires.listed).pair.before in
    let within = within_predicted c.args.run.now c.args.pair c.requires.listed in
    let same = ap length c.as_slice-recorded.ensures in
    let many = c.requires.many in
    omega (arith, before, within, same, many)

pub entry_copied-requires-2 : goal.entry_copied-requires-2
entry_copied-requires-2 c =
    let within = within_predicted c.args.run.now c.args.pair c.requires.listed in
    let same = ap length c.as_slice-recorded.ensures in
    let many = c.requires.many in
    omega (arith, within, same, many)

pub returns-clause-kept : goal.returns-clause-kept
returns-clause-kept c =
    let within = within_predicted c.args.run.now c.args.pair c.requires.listed in
    both_copied c.args.run.now c.args.s.now (record { start = c.in_ok-start.start; entries = c.push-2.new.self }) c.args.pair.first c.args.pair.second c.deref.result.now
    (pushed_twice c.as_slice-recorded.result.now c.args.s.now.entries c.in_ok-entries.entries c.push.new.self c.push-2.new.self c.in_ok-first.first c.in_ok-second.second _ c.args.pair.first c.args.pair.second
    c.as_slice-recorded.ensures c.in_ok-entries.ensures c.in_ok-first.ensures c.in_ok-second.ensures c.in_ok-push.ensures.ok c.in_ok-push-2.ensures.ok)
    (c.in_ok-start.ensures ∙ c.as_slice.ensures)
    (λ k lt. subst (λ (l : List Bool). IsTrue (slice_index_or l k false) ↔ HappensBefore c.args.run.now c.args.pair.first k) (sym c.deref.ensures.value) (c.in_ok-marked.ensures.each k (omega (arith, within, lt))))

pub returns-clause-witness : goal.returns-clause-witness
returns-clause-witness c = λ p well legal same rest first.
    subst (IsWitness p c.args.s.now c.args.pair.first c.args.pair.second) (sym (returns-clause-kept c)) (witness_of_run p c.args.s.now c.args.run.now c.args.pair rest well legal same first)
