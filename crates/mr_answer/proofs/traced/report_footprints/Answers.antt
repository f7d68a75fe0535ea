use Rattle.mr_answer.proofs.Common.{◌≡◌, ◌≤◌, ◌∙◌, List, arith, length, subst, sym, IfOk, OnOk, Footprint, steps_of, steps_within, Written, reported, seen}
use Rattle.mr_trace.specs.Spelling.{IsRun}
use Rattle.mr_answer.specs.declared.formats.Format.TheVariants.{Footprints}
use Rattle.mr_answer.specs.Answers.{traced}
use Rattle.mr_answer.proofs.RunLaws.{refused_read, told_ran, told_refused}
use Rattle.mr_answer.proofs.TracedLaws.{on_answered, run_limits}
use Rattle.mr_answer.proofs.traced.report_footprints.Goals as goal

pub spelled_run-requires-clause-few : goal.spelled_run-requires-clause-few
spelled_run-requires-clause-few c =
    let within = subst (λ (l : List Footprint). length l ≤ length c.args.w.now.entries) (sym (c.as_slice.ensures.value ∙ c.in-Ok.ensures.kept)) (steps_within c.args.p.now c.args.w.now) in
    omega (arith, within, c.requires)

pub spelled_run-requires-clause-limits : goal.spelled_run-requires-clause-limits
spelled_run-requires-clause-limits c =
    run_limits c.args.p.now c.program-program.result.now c.args.w.now c.as_slice.result.now c.program-program.ensures.same c.program-program.ensures.well_formed c.in-Ok.ensures.answer.legal
    (c.as_slice.ensures.value ∙ c.in-Ok.ensures.kept)

pub returns-in-Ok-clause-answer : goal.returns-in-Ok-clause-answer
returns-in-Ok-clause-answer c =
    told_ran c.args.p.now c.args.v c.args.w.now _ c.run.new.kept.items (reported Footprints c.args.p.now c.args.v c.args.w.now) c.answered.result c.in-Ok.ensures.answer c.in-Ok.ensures.kept
    (c.answered.ensures.answer (traced c.run.new.kept.items)
    (subst (λ (l : List Footprint). IfOk c.spelled_run.result (λ (x : Written). seen x ≡ traced l)) c.as_slice.ensures.value c.spelled_run.ensures.answer))

pub returns-in-Ok-clause-run : goal.returns-in-Ok-clause-run
returns-in-Ok-clause-run c =
    rw c.answered.ensures.same
    (on_answered (IsRun (steps_of c.args.p.now c.args.w.now)) c.spelled_run.result
    (subst (λ (l : List Footprint). OnOk c.spelled_run.result (IsRun l)) (c.as_slice.ensures.value ∙ c.in-Ok.ensures.kept) c.spelled_run.ensures.run))

pub refusal_of-requires-clause-there : goal.refusal_of-requires-clause-there
refusal_of-requires-clause-there c = c.in-Err.ensures.place

pub returns-clause-answer : goal.returns-clause-answer
returns-clause-answer c =
    rw c.refusal_of.ensures
    (told_refused c.args.p.now c.args.v c.args.w.now (reported Footprints c.args.p.now c.args.v c.args.w.now) c.in-Err.fault c.in-Err.ensures.answer)

pub returns-clause-read : goal.returns-clause-read
returns-clause-read c = rw c.refusal_of.ensures (refused_read c.args.v c.args.w.now c.in-Err.fault)
