use Rattle.mr_eval.proofs.Common.{List, sym, ap, ◌∙◌, Num, Tree, Pointer, Outcome, on, seen, Seen, chosen_number, found_number, read_number}
use Rattle.mr_eval.proofs.SearchRuns.{found_branch}
use Rattle.mr_eval.proofs.search.+found_number.Goals as goal

pub loop-case-init : goal.loop-case-init
loop-case-init g c =
    let m = c.args.m.now in
    let p = c.args.p in
    let b = c.in-Branch in
    let old = seen c.args.notes.now in
    record {
      left = ap (λ (t : Tree). found_number m t p old) b.is ∙ found_branch m b.at b.int b.cases b.rest p old
          ∙ ap (λ (q : Pointer). on (read_number m b.int q old) (λ n s. chosen_number m n b.cases b.rest p s)) (sym c.behind.ensures)
          ∙ ap (λ (o : Outcome Num Seen). on o (λ n s. chosen_number m n b.cases b.rest p s)) c.in_ok-number-in-Branch.ensures.given
          ∙ ap (λ (cs : List (Num × Tree)). chosen_number m c.in_ok-number-in-Branch.number cs b.rest p (seen c.read_number.new.notes)) (sym c.as_slice-case-items.ensures);
      kept = c.read_number.ensures.kept;
    }
