use Rattle.mr_event.proofs.Common.{◌≡◌, ℕ, ◌<◌, ◌≤◌, length, get_or}
use Rattle.std.proofs.Common.{max}
use Rattle.mr_event.proofs.clocks.Clock.join.Given as goal

abbrev pub invariant-loop-s : goal.invariant-loop-s
invariant-loop-s l =
    record {
      wide : length l.self-inside.entries.items ≡ length l.initial.self-inside.entries.items;
      below : (t : ℕ) → t < l.s → get_or l.self-inside.entries.items t 0 ≡ max (get_or l.initial.self-inside.entries.items t 0) (get_or l.other t 0);
      above : (t : ℕ) → l.s ≤ t → get_or l.self-inside.entries.items t 0 ≡ get_or l.initial.self-inside.entries.items t 0;
    }
