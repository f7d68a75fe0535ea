use Rattle.mr_auto.proofs.Common.{◌≡◌, ap, sym, subst, ◌∙◌, true, false, length, Some, ◌==◌, slice_get, is_enabled, is_running, NextAnswer, Chooser, candidate, enabled_in, entry_from}
use Rattle.mr_run.proofs.StepEntryLaws.{enabled_is}
use Rattle.mr_auto.proofs.Nexts.{drawn_is, next_by, weaker}
use Rattle.mr_auto.proofs.Picks.{candidate_passes}
use Rattle.mr_auto.proofs.drawing.next_entry.Goals as goal
use Rattle.mr_auto.proofs.drawing.next_entry.Goals.{in-Running, in_default}

pub enabled_threads-requires : goal.enabled_threads-requires
enabled_threads-requires c =
    elim c.match-matches.branch [
      | in-Running w ↦ c.requires.state (ap is_running (sym c.verdict.ensures ∙ w.in-Running.is))
      | in_default w ↦ absurd (cc)
    ]

pub entry_of-requires-clause-enabled : goal.entry_of-requires-clause-enabled
entry_of-requires-clause-enabled c =
    let running : is_running c.args.machine.now.config.verdict ≡ true =
    elim c.match-matches.branch [
      | in-Running w ↦ ap is_running (sym c.verdict.ensures ∙ w.in-Running.is)
      | in_default w ↦ absurd (cc)
    ] in
    let (s, here) = c.requires.state running in
    let all : c.as_slice.result.now ≡ enabled_in s.shared.statuses = c.as_slice.ensures.value ∙ c.in_ok-threads.ensures s here in
    let some : (length c.as_slice.result.now == 0) ≡ false = ap (λ n. n == 0) c.as_slice.ensures.len ∙ sym c.is_empty.ensures ∙ c.if-is_empty.false in
    let drawn : candidate c.args.chooser.now (enabled_in s.shared.statuses) ≡ Some c.thread-thread.result =
    ap (candidate c.args.chooser.now) (sym all) ∙ drawn_is c.args.chooser.now c.as_slice.result.now some ∙ ap Some (sym c.thread-thread.ensures.thread) in
    (s, here, enabled_is (slice_get s.shared.statuses c.thread-thread.result) (candidate_passes is_enabled s.shared.statuses c.args.chooser.now c.thread-thread.result drawn))

pub returns : goal.returns
returns c =
    let running : is_running c.args.machine.now.config.verdict ≡ true =
    elim c.match-matches.branch [
      | in-Running w ↦ ap is_running (sym c.verdict.ensures ∙ w.in-Running.is)
      | in_default w ↦ absurd (cc)
    ] in
    let (s, here) = c.requires.state running in
    let all : c.as_slice.result.now ≡ enabled_in s.shared.statuses = c.as_slice.ensures.value ∙ c.in_ok-threads.ensures s here in
    let some : (length c.as_slice.result.now == 0) ≡ false = ap (λ n. n == 0) c.as_slice.ensures.len ∙ sym c.is_empty.ensures ∙ c.if-is_empty.false in
    let drawn : candidate c.args.chooser.now (enabled_in s.shared.statuses) ≡ Some c.thread-thread.result =
    ap (candidate c.args.chooser.now) (sym all) ∙ drawn_is c.args.chooser.now c.as_slice.result.now some ∙ ap Some (sym c.thread-thread.ensures.thread) in
    let is = ap (λ (d : Chooser). entry_from c.args.machine.now.look s d c.thread-thread.result) c.thread-thread.ensures.drawn
    ∙ sym (next_by c.args.machine.now.look c.args.machine.now.config c.args.chooser.now s c.thread-thread.result running here drawn) in
    weaker c.entry_of.result _ _ (λ entry h. subst (λ o. NextAnswer o entry c.entry_of.new.chooser) is (h s here)) c.entry_of.ensures
