use Rattle.mr_start.proofs.Common.{◌≡◌, ◌-◌, ap, sym, ◌∙◌, subst, map, length-take-le, Err, None, WellFormed, JudgeAnswer, piece_of, pieces_fault, pieces}
use Rattle.std.proofs.lemmas.Result.{err_from_is_err_and}
use Rattle.mr_start.proofs.Begun.{front_begun, front_legal, front_possible, picks_long, refused_is, start_fault_is}
use Rattle.mr_start.proofs.beginning.begin.Goals as goal

pub returns-in_err-judge_start : goal.returns-in_err-judge_start
returns-in_err-judge_start c =
    let same = ap (map piece_of) c.as_slice.ensures.value ∙ c.in_ok-made.ensures ∙ ap pieces c.program.ensures.same in
    let p = err_from_is_err_and c.from_residual-in_err-judge_start.result c.from_residual-in_err-judge_start.ensures.1 in
    rw (p.1, p.2)
    (refused_is c.args.p.now c.args.picks.now c.in_err-judge_start.field-0.0
    (subst (λ ps. JudgeAnswer (pieces_fault ps c.args.picks.now) (Err c.in_err-judge_start.field-0.0)) same c.in_err-judge_start.ensures))

pub slice_bounds-place-end-2 : goal.slice_bounds-place-end-2
slice_bounds-place-end-2 c =
    let well = subst WellFormed c.program.ensures.same c.program.ensures.well_formed in
    let made = c.in_ok-made.ensures ∙ ap pieces c.program.ensures.same in
    let same = ap (map piece_of) c.deref.ensures.value ∙ made in
    let legal : pieces_fault (pieces c.args.p.now) c.args.picks.now ≡ None = ap (λ ps. pieces_fault ps c.args.picks.now) (sym (ap (map piece_of) c.as_slice.ensures.value ∙ made)) ∙ c.in_ok-judge_start.ensures in
    let at = ap (λ n. n - 1) (c.len-last.ensures ∙ sym c.deref.ensures.len) in
    sym (length-take-le (c.len-last.result - 1) c.args.picks.now (picks_long c.args.p.now well c.deref.result.now same c.args.picks.now legal (c.len-last.result - 1) at))

pub place-requires-clause-possible : goal.place-requires-clause-possible
place-requires-clause-possible c =
    let well = subst WellFormed c.program.ensures.same c.program.ensures.well_formed in
    let made = c.in_ok-made.ensures ∙ ap pieces c.program.ensures.same in
    let same = ap (map piece_of) c.deref.ensures.value ∙ made in
    let legal : pieces_fault (pieces c.args.p.now) c.args.picks.now ≡ None = ap (λ ps. pieces_fault ps c.args.picks.now) (sym (ap (map piece_of) c.as_slice.ensures.value ∙ made)) ∙ c.in_ok-judge_start.ensures in
    let at = ap (λ n. n - 1) (c.len-last.ensures ∙ sym c.deref.ensures.len) in
    front_possible c.args.p.now well c.deref.result.now same c.args.picks.now legal (c.len-last.result - 1) at

pub place-requires-clause-lawful : goal.place-requires-clause-lawful
place-requires-clause-lawful c =
    let well = subst WellFormed c.program.ensures.same c.program.ensures.well_formed in
    let made = c.in_ok-made.ensures ∙ ap pieces c.program.ensures.same in
    let same = ap (map piece_of) c.deref.ensures.value ∙ made in
    let legal : pieces_fault (pieces c.args.p.now) c.args.picks.now ≡ None = ap (λ ps. pieces_fault ps c.args.picks.now) (sym (ap (map piece_of) c.as_slice.ensures.value ∙ made)) ∙ c.in_ok-judge_start.ensures in
    let at = ap (λ n. n - 1) (c.len-last.ensures ∙ sym c.deref.ensures.len) in
    front_legal c.args.p.now well c.deref.result.now same c.args.picks.now legal (c.len-last.result - 1) at

pub started-requires-clause-legal : goal.started-requires-clause-legal
started-requires-clause-legal c =
    let made = c.in_ok-made.ensures ∙ ap pieces c.program.ensures.same in
    start_fault_is c.args.p.now c.args.picks.now ∙ ap (λ ps. pieces_fault ps c.args.picks.now) (sym (ap (map piece_of) c.as_slice.ensures.value ∙ made)) ∙ c.in_ok-judge_start.ensures

pub started-requires-clause-begun : goal.started-requires-clause-begun
started-requires-clause-begun c =
    let well = subst WellFormed c.program.ensures.same c.program.ensures.well_formed in
    let made = c.in_ok-made.ensures ∙ ap pieces c.program.ensures.same in
    let same = ap (map piece_of) c.deref.ensures.value ∙ made in
    let legal : pieces_fault (pieces c.args.p.now) c.args.picks.now ≡ None = ap (λ ps. pieces_fault ps c.args.picks.now) (sym (ap (map piece_of) c.as_slice.ensures.value ∙ made)) ∙ c.in_ok-judge_start.ensures in
    let at = ap (λ n. n - 1) (c.len-last.ensures ∙ sym c.deref.ensures.len) in
    front_begun c.args.p.now well c.deref.result.now same c.args.picks.now legal (c.len-last.result - 1) at c.in_ok-begun.begun c.in_ok-begun.ensures

pub returns : goal.returns
returns c =
    let made = c.in_ok-made.ensures ∙ ap pieces c.program.ensures.same in (
      start_fault_is c.args.p.now c.args.picks.now ∙ ap (λ ps. pieces_fault ps c.args.picks.now) (sym (ap (map piece_of) c.as_slice.ensures.value ∙ made)) ∙ c.in_ok-judge_start.ensures,
      c.in_ok-started.ensures,
    )
