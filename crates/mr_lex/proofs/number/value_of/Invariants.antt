use Rattle.mr_lex.proofs.Common.{◌≡◌, ◌^◌, ◌<◌, take, number_of}
use Rattle.mr_lex.proofs.number.value_of.Given as goal

abbrev pub invariant-loop-digit : goal.invariant-loop-digit
invariant-loop-digit l = (l.value ≡ number_of (take l.digit-index l.digits)) × (l.value < 2 ^ 128)
