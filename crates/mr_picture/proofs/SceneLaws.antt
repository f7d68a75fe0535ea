-- A scene of a run is small.
use Rattle.mr_picture.proofs.Common.{◌≡◌, ◌<◌, ◌≤◌, ◌^◌, true, List, length, arith, and_parts, All-weaker, All, slice_get, Drawn, Span, holds_race, is_in, Seen, drawn_steps, IsRace, IsSmall, Sketch, done_in, race_in, scene_of, takes_one}
use Rattle.std.proofs.lemmas.Option.{IfSome_then}
use Rattle.mr_picture.proofs.Counts.{numbers_few}
use Rattle.mr_picture.proofs.InsideLaws.{race_held, steps_are}
use Rattle.mr_picture.proofs.Room.{in_part}
use Rattle.mr_listing.specs.declared.held.StepValues.{StepValues}

pub small_of : (s : Sketch) (span : Span) (steps : List Drawn) → span.to < 2 ^ 32 → length s.feet < 2 ^ 32
    → All (λ d. d.number < 2 ^ 32) steps → IsSmall (scene_of s span steps)
small_of s span steps to feet within =
    let done = done_in span (length s.feet) in
    record {
      threads = numbers_few (takes_one steps) 0 1024;
      to = to;
      feet = feet;
      done = omega arith;
      steps = within;
      first =
          IfSome_then (race_in done (slice_get s.races 0)) {P = λ r. holds_race done r ≡ true}
          {Q = IsRace (scene_of s span steps)}
          (race_held done (slice_get s.races 0)) (λ r e.
          let both = and_parts (is_in done r.first) (is_in done r.second) e in
          let first = in_part done r.first both.0 in
          let second = in_part done r.second both.1 in
          (omega (arith, first.1), omega (arith, second.1)));
    }

-- the numbers of the drawn steps of a program's run are small
pub drawn_small : (s : Seen) (values : List StepValues) (span : Span) → span.to < 2 ^ 32
    → All (λ d. d.number < 2 ^ 32) (drawn_steps s values span s.steps)
drawn_small s values span to =
    All-weaker (λ d. (span.from ≤ d.number) × (d.number < span.to)) (λ d. d.number < 2 ^ 32)
    (λ d is. omega (arith, is.1, to)) (drawn_steps s values span s.steps) (steps_are s values span s.steps)
