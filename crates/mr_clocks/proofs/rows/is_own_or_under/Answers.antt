use Rattle.std.proofs.lemmas.Bool.{both_ways}
use Rattle.mr_clocks.proofs.rows.is_own_or_under.Goals as goal

pub returns-then-are_of_one_thread-clause-known : goal.returns-then-are_of_one_thread-clause-known
returns-then-are_of_one_thread-clause-known c = λ _ apart. absurd (apart (c.are_of_one_thread.ensures.0 c.if-are_of_one_thread.true))

pub returns-clause-known : goal.returns-clause-known
returns-clause-known c = λ under _. c.is_under.ensures.0 under

pub returns-clause-apart : goal.returns-clause-apart
returns-clause-apart c = λ _ same. both_ways _ c.if-are_of_one_thread.false (c.are_of_one_thread.ensures.1 same)
