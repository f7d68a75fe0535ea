use Rattle.mr_next.proofs.Common.{◌≡◌, ◌++◌, ℕ, subst, codes, decimal, OnOk}
use Rattle.mr_next.proofs.Appended.{last_behind}
use Rattle.mr_next.proofs.texts.push_join.Goals as goal

pub returns : goal.returns
returns c =
    let old = c.args.out.now.items in
    let words = codes " waits for the end of thread " in
    let thread = decimal c.args.thread in
    last_behind c.push_number.result old words thread _ _ c.in_ok-extend_from_slice.ensures.items
    (subst (λ (n : ℕ). OnOk c.push_number.result (c.push_number.new.out.items ≡ c.extend_from_slice.new.self.items ++ decimal n)) c.from.ensures c.push_number.ensures)
