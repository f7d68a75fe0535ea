use Rattle.std.proofs.Common.{sym, ◌∙◌}
use Rattle.std.proofs.lemmas.Bool.{both_ways}
use Rattle.mr_clocks.proofs.index.serves_thread.Goals as goal

pub returns-then-is_shared : goal.returns-then-is_shared
returns-then-is_shared c = λ _ alone. absurd (both_ways _ alone (sym c.is_shared.ensures ∙ c.if-is_shared.true))
