use Rattle.mr_sched.proofs.Common.{ℕ, ◌∙◌, sym, arith}
use Rattle.std.proofs.Common.{length-drop}
use Rattle.std.proofs.lemmas.List.{take_rest}
use Rattle.mr_sched.proofs.Parts.{parts_at-position_none, parts_at-position_some}
use Rattle.mr_sched.proofs.reading.cut.Goals as goal

pub returns-in-None-clause-parts : goal.returns-in-None-clause-parts
returns-in-None-clause-parts c = parts_at-position_none c.args.byte c.args.text.now (sym c.position_of.ensures ∙ c.in-None.is)

pub returns-in-Some : goal.returns-in-Some
returns-in-Some c =
    let h = parts_at-position_some c.args.byte c.args.text.now c.in-Some.at (sym c.position_of.ensures ∙ c.in-Some.is) in
    rw take_rest (record { parts = h.1; shorter = omega (arith, h.0, length-drop {A = ℕ}) })
