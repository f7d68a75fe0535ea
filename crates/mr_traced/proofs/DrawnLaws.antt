-- What is drawn of a trace.
use Rattle.mr_traced.proofs.Common.{ℕ, ◌-◌, ◌<◌, ◌≤◌, ◌^◌, length, arith, All-map, All, drawn_step, drawn_steps, Seen}
use Rattle.mr_picture.specs.declared.span.Span.{Span}
use Rattle.mr_picture.specs.Span.{steps_in}
use Rattle.mr_picture.proofs.Members.{from_range}
use Rattle.mr_picture.proofs.Within.{each}

-- the numbers of the drawn steps are small
pub drawn_small : (s : Seen) (span : Span) → length s.run < 2 ^ 32 → span.to ≤ length s.run
    → All (λ d. d.number < 2 ^ 32) (drawn_steps s span)
drawn_small s span few within =
    All-map (λ d. d.number < 2 ^ 32) (drawn_step s) (steps_in span)
    (each (λ n. n < 2 ^ 32) (steps_in span) (λ n there.
    let is = from_range span.from (span.to - span.from) n there in
    omega (arith, is, few, within)))
