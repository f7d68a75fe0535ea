use Rattle.mr_show.proofs.Common.{ℕ, arith, ◌∙◌, sym, entry_of, is_name_of}
use Rattle.mr_show.proofs.NameLaws.{none_passes, one_more, one_passes}
use Rattle.mr_show.proofs.form.is_reason.Goals as goal

pub loop-code-init : goal.loop-code-init
loop-code-init c = λ n low high. absurd (omega (arith, low, high))

pub loop-code-preserved : goal.loop-code-preserved
loop-code-preserved c =
    one_more (λ (code : ℕ). is_name_of c.args.word.now (entry_of code)) 100 c.loop-code.code
    (sym c.is_name_of.ensures ∙ c.if-is_name_of.false) c.loop-code.invariant

pub returns-then-is_name_of : goal.returns-then-is_name_of
returns-then-is_name_of c =
    sym (
    one_passes (λ (code : ℕ). is_name_of c.args.word.now (entry_of code)) 100 34 c.loop-code.code (omega arith)
    (omega (arith, c.loop-code-test.true)) (sym c.is_name_of.ensures ∙ c.if-is_name_of.true)
    )

pub returns : goal.returns
returns c =
    sym (
    none_passes (λ (code : ℕ). is_name_of c.args.word.now (entry_of code)) 100 34
    (λ n low high. c.loop-code.invariant n low (omega (arith, high, c.loop-code-test.false)))
    )
