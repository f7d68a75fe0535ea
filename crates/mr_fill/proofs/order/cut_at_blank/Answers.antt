use Rattle.mr_fill.proofs.Common.{ℕ, ◌∙◌, sym, length-drop, arith, is_blank}
use Rattle.std.proofs.lemmas.List.{take_rest}
use Rattle.mr_fill.proofs.Parts.{first_part_at, one_part}
use Rattle.mr_fill.proofs.order.cut_at_blank.Goals as goal

pub returns-in-None-clause-parts : goal.returns-in-None-clause-parts
returns-in-None-clause-parts c = one_part is_blank c.args.text.now (sym c.blank_in.ensures ∙ c.in-None.is)

pub returns-in-Some : goal.returns-in-Some
returns-in-Some c =
    let h = first_part_at is_blank c.args.text.now c.in-Some.at (sym c.blank_in.ensures ∙ c.in-Some.is) in
    rw take_rest (record { parts = h.1; shorter = omega (arith, h.0, length-drop {A = ℕ}) })
