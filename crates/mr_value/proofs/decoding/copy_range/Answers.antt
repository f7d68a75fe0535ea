use Rattle.mr_value.proofs.Common.{◌++◌, ◌∷◌, [], sym, ap, ◌∙◌, append_assoc, bytes_of_pieces, Bytes, part}
use Rattle.mr_value.proofs.PartLaws.{part_push}
use Rattle.mr_value.proofs.decoding.copy_range.Goals as goal

pub loop-i-preserved : goal.loop-i-preserved
loop-i-preserved c =
    let b = bytes_of_pieces c.args.v.now in
    let old = c.args.out.now in
    c.in_ok-push.ensures.ok
    ∙ ap (λ (x : Bytes). x ++ c.byte.result ∷ []) c.loop-i.invariant
    ∙ append_assoc old (part c.args.at c.loop-i.i b) (c.byte.result ∷ [])
    ∙ ap (λ (x : Bytes). old ++ x) (sym (part_push b c.args.at c.loop-i.i c.byte.result c.byte.ensures))
