use Rattle.mr_start.proofs.Common.{◌≡◌, ℕ, ◌+◌, ◌<◌, sym, ap, ◌∙◌, arith, cond, length, drop, Some, first_overlapped, Address, picked}
use Rattle.mr_start.proofs.Overlaps.{id_of}
use Rattle.mr_start.proofs.PickLaws.{no_overlap_at, overlap_at}
use Rattle.mr_start.proofs.judging.first_shared.Goals as goal
use Rattle.mr_start.proofs.judging.first_shared.Goals.{in-Address+else-ranges_meet, in_default}

pub loop-i-preserved : goal.loop-i-preserved
loop-i-preserved c =
    let a = c.args in
    let l = c.loop-i in
    let asks = a.asks.now in
    let picks = a.picks.now in
    let inside = c.loop-i-test.true in
    let there : l.i < length picks = omega (arith, c.requires.all) in
    let rest = first_overlapped a.addr a.size (picked a.thread (l.next + 1) (drop (l.i + 1) asks) (drop (l.i + 1) picks)) in
    let turned : (n : ℕ) → c.match-ask.next ≡ n → first_overlapped a.addr a.size (picked a.thread n (drop (l.i + 1) asks) (drop (l.i + 1) picks)) ≡ first_overlapped a.addr a.size (picked a.thread c.match-ask.next (drop (l.i + 1) asks) (drop (l.i + 1) picks)) =
    λ n e. ap (λ k. first_overlapped a.addr a.size (picked a.thread k (drop (l.i + 1) asks) (drop (l.i + 1) picks))) (sym e) in
    elim c.match-ask.branch [
      | in-Address+else-ranges_meet w ↦ record {
        few = (let e = w.next-is in let f = l.invariant.few in omega (arith, e, f));
        left = l.invariant.left
            ∙ overlap_at a.addr a.size a.thread asks picks l.i l.next (Address 0 0) inside there w.in-Address.taken w.in-Address.align w.in-Address.is
            ∙ ap (λ b. cond b (Some (id_of a.thread l.next)) rest) (sym w.ranges_meet.ensures ∙ w.if-ranges_meet.false)
            ∙ turned (l.next + 1) w.next-is;
      }
      | in_default w ↦ record {
        few = (let e = w.next-is in let f = l.invariant.few in omega (arith, e, f));
        left = l.invariant.left ∙ no_overlap_at a.addr a.size a.thread asks picks l.i l.next (Address 0 0) inside there w.in_default.field-0 w.in_default.is ∙ turned l.next w.next-is;
      }
    ]
