use Rattle.mr_words.proofs.Common.{◌≡◌, map, drop, looked_up}
use Rattle.mr_words.proofs.table.looked_up.Given as goal

abbrev pub invariant-loop-entry : goal.invariant-loop-entry
invariant-loop-entry g l = looked_up (map (λ e. (e.0.now, e.1)) (drop l.entry-index l.table)) l.text ≡ looked_up (map (λ e. (e.0.now, e.1)) l.table) l.text
