use Rattle.mr_gen.proofs.Common.{ℕ, ◌++◌, length, decimal, ap, ◌∙◌, arith, with_text}
use Rattle.mr_ast.proofs.TextsLaws.{length-with_text}
use Rattle.mr_gen.proofs.Growing.{folded_next}
use Rattle.mr_gen.proofs.naming.add_counted.Goals as goal

pub loop-k-preserved : goal.loop-k-preserved
loop-k-preserved c =
    let held = c.loop-k.names in
    let text = c.as_str.ensures.value ∙ c.in_ok-text.ensures in (
      folded_next (λ (k : ℕ). c.args.letter.now ++ decimal k) with_text c.args.names.now held c.add.new.names c.loop-k.k c.loop-k.auto.k c.loop-k.invariant.0 (c.in_ok-add.ensures ∙ ap (with_text held) text),
      omega (arith, length-with_text held c.as_str.result.now, ap length c.in_ok-add.ensures, c.loop-k.invariant.1),
    )
