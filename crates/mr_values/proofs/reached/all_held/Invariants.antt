use Rattle.std.specs.Prelude.{◌≡◌, map, take}
use Rattle.mr_values.specs.Values.{held_at}
use Rattle.mr_values.proofs.reached.all_held.Given as goal

-- what the accesses before this one hold is told
abbrev pub invariant-loop-access : goal.invariant-loop-access
invariant-loop-access l = l.held.items ≡ map (held_at l.rows l.machine.config) (take l.access-index l.accesses)
