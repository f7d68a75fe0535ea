use Rattle.std.proofs.Common.{length, ◌-◌, ◌≡◌, ◌≤◌, take}
use Rattle.std.specs.Io.KnownBytes.{append_known}
use Rattle.mr_io.proofs.sink.write_whole.Given as goal

abbrev pub invariant-loop-done : goal.invariant-loop-done
invariant-loop-done g l = record {
  within : l.done ≤ length l.text;
  so_far : g.O.Sink.taken l.out ≡ append_known (g.O.Sink.taken l.initial.out) (take l.done l.text);
  faults : g.O.Sink.faults l.out ≡ g.O.Sink.faults l.initial.out;
  none_yet : l.done ≡ 0 → l.out ≡ l.initial.out;
}

abbrev pub decreases-loop-done : goal.decreases-loop-done
decreases-loop-done g l = length l.text - l.done
