use Rattle.mr_sched.proofs.Common.{◌≡◌, ◌<◌, ◌^◌, take, AllDigits, digits_value}
use Rattle.mr_sched.proofs.reading.read_digits.Given as goal

abbrev pub invariant-loop-digit : goal.invariant-loop-digit
invariant-loop-digit l = record {
  digits : AllDigits 10 (take l.digit-index l.word);
  number : l.number ≡ digits_value 10 (take l.digit-index l.word);
  below : l.number < 2 ^ 64;
}
