use Rattle.mr_fill.proofs.Common.{ℕ, List, subst, sym, Gives, on_line, order_from, words_in}
use Rattle.mr_fill.specs.Orders.{first_part}
use Rattle.mr_fill.proofs.order.read_line.Goals as goal

pub returns-clause-given : goal.returns-clause-given
returns-clause-given c =
    subst (λ (ps : List (List ℕ)). Gives c.read_words.result (order_from c.args.turns (on_line c.args.line (words_in (first_part ps)))))
    (sym c.cut.ensures.parts) c.read_words.ensures.given
