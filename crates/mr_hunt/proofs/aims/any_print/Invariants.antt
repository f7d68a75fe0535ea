use Rattle.mr_hunt.proofs.Common.{◌≡◌, false, take, list_any, is_print}
use Rattle.mr_hunt.proofs.aims.any_print.Given as goal

-- none before this one is
abbrev pub invariant-loop-i : goal.invariant-loop-i
invariant-loop-i l = list_any (is_print l.text) (take l.i l.machine.config.output) ≡ false
