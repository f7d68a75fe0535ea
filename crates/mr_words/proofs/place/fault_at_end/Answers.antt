use Rattle.mr_words.proofs.Common.{◌+◌, ◌==◌, if◌then◌else◌, get_or, ap, ◌∙◌, arith}
use Rattle.mr_lex.specs.declared.token.TextFault.{TextFault}
use Rattle.mr_words.proofs.EndLaws.{placed-le, placed_more}
use Rattle.mr_words.proofs.place.fault_at_end.Goals as goal

pub behind-fault-requires-clause-line : goal.behind-fault-requires-clause-line
behind-fault-requires-clause-line c =
    omega (arith, (placed-le c.args.text.now c.loop-byte.byte-index c.args.code c.loop-byte.fault c.loop-byte.invariant).0)

pub behind-fault-requires-clause-col : goal.behind-fault-requires-clause-col
behind-fault-requires-clause-col c =
    omega (arith, (placed-le c.args.text.now c.loop-byte.byte-index c.args.code c.loop-byte.fault c.loop-byte.invariant).1)

pub loop-byte-preserved : goal.loop-byte-preserved
loop-byte-preserved c =
    c.behind-fault.ensures
    ∙ ap (λ (f : TextFault). (if get_or c.args.text.now c.loop-byte.byte-index 0 == 10 then record { line = f.line + 1; col = 1; code = f.code } else record { line = f.line; col = f.col + 1; code = f.code })) c.loop-byte.invariant
    ∙ placed_more c.args.text.now c.loop-byte.byte-index c.args.code (omega arith)
