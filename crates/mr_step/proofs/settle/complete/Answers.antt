use Rattle.mr_step.proofs.Common.{◌≡◌, ◌+◌, ◌++◌, refl, sym, ap, ◌∙◌, length, Some, slice_set, option_map, started_threads, own_of, Progress, numbered, standing_thread, Program, Scene, look_of, completed, foot_by, verdict_in}
use Rattle.std.proofs.lemmas.List.{length-set}
use Rattle.mr_step.proofs.CompletedLaws.{IsBehind, leads}
use Rattle.mr_step.proofs.Numbered.{numbered_length}
use Rattle.mr_step.proofs.settle.complete.Goals as goal

pub returns-clause-ok : goal.returns-clause-ok
returns-clause-ok c = λ th n here tells.
    let p = c.args.p.now in
    let t = c.args.thread in
    let s = p.scene in
    let d = c.args.deed in
    let edition = c.args.look.now.program.now.edition in
    let whole = c.in_ok-complete_accesses.ensures ∙ ap (λ (q : Program). completed q.edition s) c.program.ensures.same in
    let foot = foot_by (completed edition s) d in
    let marked = c.mark.new.threads.items in
    let marks = c.mark.ensures th here in
    let many : length marked ≡ length p.threads.items =
    sym (numbered_length 0 marked) ∙ ap length marks ∙ length-set (numbered 0 p.threads.items) t (standing_thread t c.is_end.result s.count th.stack) ∙ numbered_length 0 p.threads.items in
    let q : Progress = record {
      scene = c.complete_accesses.new.scene;
      threads = c.join.new.threads;
      sync = p.sync;
      gone = p.gone;
      output = c.print.new.output;
      last = c.keep_last.new.last;
      completed = p.completed + 1;
      verdict = c.verdict_behind-verdict.result;
      about = p.about;
    } in
    let behind : IsBehind edition p t s d th.stack foot q = record {
      foot = refl;
      memory = ap (λ (x : Scene). x.memory) whole;
      sync = refl;
      gone = refl;
      threads = c.in_ok-join.ensures
          ∙ (λ i. marks i ++ started_threads (option_map (own_of (many i)) d.started))
          ∙ (λ i. slice_set (numbered 0 p.threads.items) t (standing_thread t (c.is_end.ensures i) s.count th.stack) ++ started_threads (option_map (own_of (length p.threads.items)) d.started));
      output = c.in_ok-print.ensures.ok;
      last = c.in_ok-keep_last.ensures ∙ ap (λ (x : Scene). Some (foot_by x d)) whole;
      completed = refl;
      verdict = c.verdict_behind-verdict.ensures d ∙ ap (λ o. verdict_in o (foot_by c.complete_accesses.new.scene d) p.sync) c.as_ref.ensures.value ∙ ap (λ (x : Scene). verdict_in p.last (foot_by x d) p.sync) whole;
      about = refl;
    } in
    leads p t s d th.stack n tells (look_of c.args.look.now) c.requires.flow c.requires.at.there q foot behind
