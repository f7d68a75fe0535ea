-- Scripts over a counter, run, computed.
use Rattle.std.proofs.Common.{◌≡◌, ℕ, ◌+◌, ◌≤◌, arith, refl}
use Rattle.std.specs.Prelude.{Some, if◌then◌else◌, nat_lt}
use Rattle.mr_base.specs.declared.reached.Reached.{Reached}
use Rattle.mr_base.specs.declared.reason.Reason.TheVariants.{OutOfBounds, Overflow}
use Rattle.mr_base.specs.Stops.{over, plainly, stop_with}
use Rattle.mr_base.specs.Script.{Script, Done, IllFormed, Ask, ◌>>=◌, Outcome, Went, Refused, Broken, run, Safe}

-- a query is the number by which the counter is to rise, and the reply is what it was
abbrev Reply : ℕ → Type 0
Reply n = ℕ

-- the counter doesn't rise above 10
abbrev counter : (n : ℕ) → ℕ → Outcome (Reply n) ℕ
counter n s = if nat_lt 10 (s + n) then Refused (plainly Overflow) else Went s (s + n)

-- it rises twice by a number; the result is the sum of both replies
abbrev twice : ℕ → Script ℕ Reply ℕ
twice n = Ask n (λ a. Ask n (λ b. Done (a + b)))

goes : run counter (twice 3) 1 ≡ Went 5 7
goes = refl

-- the second query is refused
refused : run counter (twice 5) 1 ≡ Refused (plainly Overflow)
refused = refl

-- the second script begins with the first one's result, where the first one ends
one_behind_another : run counter (twice 1 >>= twice) 1 ≡ Went 9 9
one_behind_another = refl

-- what stands behind a script without a rule isn't run
broken : run counter (IllFormed >>= twice) 1 ≡ Broken
broken = refl

-- where replies are 10 at most, the result is 20 at most
safe : (n : ℕ) → Safe (λ _ x. x ≤ 10) (λ x. x ≤ 20) (twice n)
safe n a a_small b b_small = omega (arith, a_small, b_small)

-- bytes that were refused last: what memory gives speaks of them, and an overflow of none
speaks_of_them : (bytes : Reached) → stop_with (Some bytes) OutOfBounds ≡ over bytes OutOfBounds
speaks_of_them bytes = refl

speaks_of_none : (bytes : Reached) → stop_with (Some bytes) Overflow ≡ plainly Overflow
speaks_of_none bytes = refl
