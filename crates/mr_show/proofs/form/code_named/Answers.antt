use Rattle.mr_show.proofs.Common.{◌≡◌, ℕ, ◌-◌, ◌∙◌, ap, arith, sym, find, range_with_len, entry_of, is_name_of}
use Rattle.mr_next.proofs.Finding.{find_behind}
use Rattle.mr_show.specs.Form.{code_named}
use Rattle.mr_show.proofs.NameLaws.{find_here}
use Rattle.mr_show.proofs.form.code_named.Goals as goal

pub loop-code-preserved : goal.loop-code-preserved
loop-code-preserved c =
    c.loop-code.invariant
    ∙ find_behind (λ (code : ℕ). is_name_of c.args.word.now (entry_of code)) c.loop-code.code 134
    (omega (arith, c.loop-code-test.true)) (sym c.is_name_of.ensures ∙ c.if-is_name_of.false)

pub returns-then-is_name_of : goal.returns-then-is_name_of
unfolding code_named
returns-then-is_name_of c =
    sym (
    c.loop-code.invariant
    ∙ find_here (λ (code : ℕ). is_name_of c.args.word.now (entry_of code)) c.loop-code.code 134
    (omega (arith, c.loop-code-test.true)) (sym c.is_name_of.ensures ∙ c.if-is_name_of.true)
    )

pub returns : goal.returns
unfolding code_named
returns c =
    let none : 134 - c.loop-code.code ≡ 0 = omega (arith, c.loop-code-test.false) in
    sym (
    c.loop-code.invariant
    ∙ ap (λ (m : ℕ). find (λ code. is_name_of c.args.word.now (entry_of code)) (range_with_len c.loop-code.code m)) none
    )
