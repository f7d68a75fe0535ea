use Rattle.mr_listing.proofs.Common.{List, ℕ, ◌++◌, codes, decimal, bytes_text}
use Rattle.mr_listing.specs.Spoken.{doing_word}
use Rattle.mr_listing.proofs.Appended.{behind}
use Rattle.mr_listing.proofs.spoken.push_spoken_text.Goals as goal

pub returns-in_ok-push_number-in-None : goal.returns-in_ok-push_number-in-None
returns-in_ok-push_number-in-None c =
    let old : List ℕ = c.args.out.now.items in
    let none : List ℕ = codes "no allocation: " in
    let done : List ℕ = doing_word c.args.reached.doing in
    let size : List ℕ = bytes_text c.args.reached.len in
    let at : List ℕ = codes " at address " in
    let place : List ℕ = decimal c.args.reached.pointer.addr in
    rw c.in-None.is
    (behind old (none ++ (done ++ size) ++ at) place _ _
    (behind old (none ++ (done ++ size)) at _ _
    (behind old none (done ++ size) _ _ c.in_ok-extend_from_slice-in-None.ensures.items c.in_ok-push_doing-in-None.ensures)
    c.in_ok-extend_from_slice-in-None-2.ensures.items)
    c.in_ok-push_number-in-None.ensures)
