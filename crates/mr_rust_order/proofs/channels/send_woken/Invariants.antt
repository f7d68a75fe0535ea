use Rattle.mr_rust_order.proofs.Common.{take, ◌==◌, list_any, AreSent}
use Rattle.mr_rust_order.proofs.channels.send_woken.Given as goal

abbrev pub invariant-loop-i : goal.invariant-loop-i
invariant-loop-i l = AreSent l.initial.threads.items l.clock (λ y. list_any (λ t. t == y) (take l.i l.woken)) l.threads.items
