use Rattle.mr_next.proofs.Common.{◌≡◌, ◌++◌, ℕ, subst, codes, decimal, OnOk}
use Rattle.mr_next.specs.Texts.{listed_threads}
use Rattle.mr_next.proofs.Appended.{behind, last_behind}
use Rattle.mr_next.proofs.texts.push_waiter.Goals as goal

pub returns : goal.returns
returns c =
    let old = c.args.out.now.items in
    let words = codes "one of the threads" in
    let threads = listed_threads c.args.threads.now in
    let next = codes ", which wait for lock " in
    let lock = decimal c.args.lock in
    last_behind c.push_number.result old (words ++ threads ++ next) lock _ _
    (behind old (words ++ threads) next _ _
    (behind old words threads _ _ c.in_ok-extend_from_slice.ensures.items
    c.in_ok-push_threads.ensures)
    c.in_ok-extend_from_slice-2.ensures.items)
    (subst (λ (n : ℕ). OnOk c.push_number.result (c.push_number.new.out.items ≡ c.extend_from_slice-2.new.self.items ++ decimal n)) c.from.ensures c.push_number.ensures)
