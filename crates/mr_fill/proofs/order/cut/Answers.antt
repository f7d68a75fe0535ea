use Rattle.mr_fill.proofs.Common.{ℕ, ◌∙◌, sym, length-drop, arith, ◌==◌}
use Rattle.std.proofs.lemmas.List.{take_rest}
use Rattle.mr_fill.proofs.Parts.{first_part_at, one_part}
use Rattle.mr_fill.proofs.order.cut.Goals as goal

pub returns-in-None-clause-parts : goal.returns-in-None-clause-parts
returns-in-None-clause-parts c = one_part (λ b. b == c.args.byte) c.args.text.now (sym c.position_of.ensures ∙ c.in-None.is)

pub returns-in-Some : goal.returns-in-Some
returns-in-Some c =
    let h = first_part_at (λ b. b == c.args.byte) c.args.text.now c.in-Some.at (sym c.position_of.ensures ∙ c.in-Some.is) in
    rw take_rest (record { parts = h.1; shorter = omega (arith, h.0, length-drop {A = ℕ}) })
