use Rattle.mr_show.proofs.Common.{ℕ, List, ◌++◌, ◌∙◌, ap, ap₂, Entry, Answer, threads_told}
use Rattle.mr_show.specs.Reached.{broken_told, status_by}
use Rattle.mr_show.proofs.NextLaws.{reached_so}
use Rattle.mr_show.proofs.next.written.Goals as goal

pub push_threads-requires-clause-working : goal.push_threads-requires-clause-working
push_threads-requires-clause-working c = c.requires.goes.front.working

pub returns-clause-answer : goal.returns-clause-answer
returns-clause-answer c =
    let text = c.args.text.now in
    let p = c.args.p.now in
    let r = c.args.reached.now in
    let said : List ℕ → ℕ → Answer = λ lines status. record { text = lines; status = status } in
    ap₂ said
    (c.in_ok-push_threads.ensures
    ∙ ap (λ (xs : List ℕ). xs ++ threads_told text p r.machine.look r.machine.config)
    (c.in_ok-push_fault.ensures
    ∙ ap (λ (xs : List ℕ). xs ++ broken_told c.as_slice.result.now r.broken) c.new-out.ensures.items
    ∙ ap (λ (es : List Entry). broken_told es r.broken) c.as_slice.ensures))
    c.status_by.ensures.status
    ∙ reached_so text p c.args.w.now r c.requires.goes
