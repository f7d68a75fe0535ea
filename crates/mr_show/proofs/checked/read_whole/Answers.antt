use Rattle.mr_show.proofs.Common.{◌∙◌, ◌++◌, ap, arith, length, sym, List, ℕ, Some}
use Rattle.mr_show.proofs.checked.read_whole.Goals as goal

pub returns-then-len-max-clause-long : goal.returns-then-len-max-clause-long
returns-then-len-max-clause-long g c = λ contents told is_long.
    let (bytes, there, limit, is) = c.in-Ok.ensures.whole contents told in
    let size = ap length (is ∙ ap (λ (xs : List ℕ). xs ++ bytes) c.new-text.ensures.items) in
    absurd (omega (arith, limit, size, c.if-len-max.true, c.len.ensures))

pub returns-else-len-max-clause-whole : goal.returns-else-len-max-clause-whole
returns-else-len-max-clause-whole g c = λ contents told.
    let (bytes, there, limit, is) = c.in-Ok.ensures.whole contents told in
    there ∙ ap Some (sym (is ∙ ap (λ (xs : List ℕ). xs ++ bytes) c.new-text.ensures.items))
