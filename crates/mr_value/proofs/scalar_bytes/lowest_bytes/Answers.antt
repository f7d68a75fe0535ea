use Rattle.mr_value.proofs.Common.{◌≡◌, ℕ, ◌∙◌, ◌+◌, ◌-◌, ◌/◌, ◌%◌, ◌++◌, ◌∷◌, [], List, take, suc, sym, ap, arith, append_assoc, little_endian}
use Rattle.std.proofs.lemmas.List.{length-set, take_more_set}
use Rattle.mr_value.proofs.scalar_bytes.lowest_bytes.Goals as goal

pub loop-i-preserved : goal.loop-i-preserved
loop-i-preserved c =
    let l = c.loop-i in
    let inside = c.loop-i-test.true in
    let few = c.requires in
    let left : c.args.count - l.i ≡ suc (c.args.count - (l.i + 1)) = omega (arith, inside) in
    let tail = little_endian (c.args.count - (l.i + 1)) (l.rest / 256) in (
      ap (λ (ns : List ℕ). ns ++ tail) (take_more_set l.all l.i (l.rest % 256) (omega (arith, inside, few, l.invariant.1)))
          ∙ append_assoc (take l.i l.all) (l.rest % 256 ∷ []) tail
          ∙ ap (λ n. take l.i l.all ++ little_endian n l.rest) (sym left)
          ∙ l.invariant.0,
      length-set l.all l.i (l.rest % 256) ∙ l.invariant.1,
    )
