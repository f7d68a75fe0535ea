use Rattle.mr_show.proofs.Common.{◌≡◌, map}
use Rattle.std.proofs.Common.{drop}
use Rattle.mr_ast.specs.Words.{looked_up}
use Rattle.mr_show.proofs.help.text_beside.Given as goal

-- what stands in the rest is what stands in all
abbrev pub invariant-loop-entry : goal.invariant-loop-entry
invariant-loop-entry l =
    looked_up (map (λ e. (e.0.now, e.1.now)) (drop l.entry-index l.table)) l.word
    ≡ looked_up (map (λ e. (e.0.now, e.1.now)) l.table) l.word
