use Rattle.mr_witness.proofs.Common.{◌∙◌, length, arith, sym, subst, ap, first_of_predicted, AreMarks}
use Rattle.mr_exchange.proofs.First.{partner_of_predicted, within_predicted}
use Rattle.mr_witness.proofs.Chosen.{pushed_twice}
use Rattle.mr_witness.proofs.ShortChosen.{both_copied}
use Rattle.mr_witness.proofs.Fewer.{among_kept, no_longer}
use Rattle.mr_witness.proofs.ShortWitness.{witness_of_run}
use Rattle.mr_witness.proofs.shortening.short.Goals as goal

pub marks_of-requires : goal.marks_of-requires
marks_of-requires c = within_predicted c.args.run.now c.args.pair c.requires.listed

pub chosen-requires-clause-marks : goal.chosen-requires-clause-marks
chosen-requires-clause-marks c =
    let within = within_predicted c.args.run.now c.args.pair c.requires.listed in
    let marks = c.in_ok-marks.ensures in
    let wide = marks.wide in
    omega (arith, c.deref.ensures.len, wide, within)

pub chosen-requires-clause-within : goal.chosen-requires-clause-within
chosen-requires-clause-within c =
    let within = within_predicted c.args.run.now c.args.pair c.requires.listed in
    let same = ap length c.as_slice-recorded.ensures in
    let many = c.requires.many in
    omega (arith, within, same, many)

pub entry_copied-requires : goal.entry_copied-requires
entry_copied-requires c =
    let before = (partner_of_predicted c.args.run.now c.args.pair c.requires.listed).pair.before in
    let within = within_predicted c.args.run.now c.args.pair c.requires.listed in
    let same = ap length c.as_slice-recorded.ensures in
    let many = c.requires.many in
    omega (arith, before, within, same, many)

pub entry_copied-requires-2 : goal.entry_copied-requires-2
entry_copied-requires-2 c =
    let within = within_predicted c.args.run.now c.args.pair c.requires.listed in
    let same = ap length c.as_slice-recorded.ensures in
    let many = c.requires.many in
    omega (arith, within, same, many)

pub returns-clause-short : goal.returns-clause-short
returns-clause-short c =
    both_copied c.args.run.now c.args.s.now (record { start = c.in_ok-start.start; entries = c.push-2.new.self }) c.args.pair.first c.args.pair.second c.deref.result.now
    (partner_of_predicted c.args.run.now c.args.pair c.requires.listed)
    (within_predicted c.args.run.now c.args.pair c.requires.listed)
    (subst (AreMarks c.args.run.now c.args.pair.second) (sym c.deref.ensures.value) c.in_ok-marks.ensures)
    (pushed_twice c.as_slice-recorded.result.now c.args.s.now.entries c.in_ok-entries.entries c.push.new.self c.push-2.new.self c.in_ok-first.first c.in_ok-second.second _ c.args.pair.first c.args.pair.second
    c.as_slice-recorded.ensures c.in_ok-entries.ensures c.in_ok-first.ensures c.in_ok-second.ensures c.in_ok-push.ensures.ok c.in_ok-push-2.ensures.ok)
    (c.in_ok-start.ensures ∙ c.as_slice.ensures)

pub returns-clause-witness : goal.returns-clause-witness
returns-clause-witness c = λ p well legal same rest first.
    witness_of_run p c.args.s.now _ c.args.run.now c.args.pair.first c.args.pair.second well legal same (first_of_predicted c.args.run.now c.args.pair rest first) (returns-clause-short c)

pub returns-clause-among : goal.returns-clause-among
returns-clause-among c =
    among_kept c.args.run.now c.args.pair.first c.args.pair.second (partner_of_predicted c.args.run.now c.args.pair c.requires.listed) c.args.s.now _ (returns-clause-short c)

pub returns-clause-no_longer : goal.returns-clause-no_longer
returns-clause-no_longer c =
    no_longer c.args.run.now c.args.pair.first c.args.pair.second (partner_of_predicted c.args.run.now c.args.pair c.requires.listed) c.args.s.now _ (returns-clause-short c)
