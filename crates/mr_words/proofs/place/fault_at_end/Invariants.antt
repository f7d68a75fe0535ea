use Rattle.mr_words.proofs.Common.{◌≡◌}
use Rattle.mr_lex.specs.Places.{column_of, line_of}
use Rattle.mr_words.proofs.place.fault_at_end.Given as goal

abbrev pub invariant-loop-byte : goal.invariant-loop-byte
invariant-loop-byte l = l.fault ≡ record { line = line_of l.text l.byte-index; col = column_of l.text l.byte-index; code = l.code }
