use Rattle.mr_next.proofs.Common.{◌≡◌, ℕ, ◌≤◌, ap, arith, length, List, refl, subst, sym, Some, Entry, fault_of}
use Rattle.std.proofs.Common.{◌^◌}
use Rattle.mr_run.proofs.RunLaws.{begins}
use Rattle.mr_step.specs.StartStart.{start_fault}
use Rattle.mr_next.proofs.ReachedLaws.{goes_to}
use Rattle.mr_next.proofs.reaching.reach.Goals as goal

pub returns-in-Err-BadEntry-clause-start : goal.returns-in-Err-BadEntry-clause-start
returns-in-Err-BadEntry-clause-start c = (
  refl,
  rw c.in-Err-BadEntry.field-0-is
      (subst (λ (picks : List ℕ). start_fault c.args.p.now picks ≡ Some (fault_of c.in-Err-BadEntry.code c.in-Err-BadEntry.earlier))
      c.as_slice.ensures (rw c.in-Err-BadEntry.field-0-is at c.in-Err-BadEntry.ensures)),
)

pub reach_entries-requires-clause-working : goal.reach_entries-requires-clause-working
reach_entries-requires-clause-working c = (begins c.args.p.now c.as_slice.result.now c.in-Ok.machine c.in-Ok.ensures).0

pub reach_entries-requires-clause-completed : goal.reach_entries-requires-clause-completed
reach_entries-requires-clause-completed c =
    let none = (begins c.args.p.now c.as_slice.result.now c.in-Ok.machine c.in-Ok.ensures).1 in
    let same = ap length c.as_slice-2.ensures in
    let few = c.requires.few in
    omega arith

pub reach_entries-requires-clause-few : goal.reach_entries-requires-clause-few
reach_entries-requires-clause-few c = subst (λ (es : List Entry). length es ≤ 2 ^ 22) (sym c.as_slice-2.ensures) c.requires.few

pub returns-in-Ok-reach_entries-clause-reached : goal.returns-in-Ok-reach_entries-clause-reached
returns-in-Ok-reach_entries-clause-reached c =
    goes_to c.args.p.now c.args.w.now c.as_slice.result.now c.as_slice-2.result.now c.as_slice.ensures c.as_slice-2.ensures c.in-Ok.machine c.in-Ok.ensures
    (record { machine = c.reach_entries.new.machine; broken = c.in-Ok-reach_entries.broken }) c.in-Ok-reach_entries.ensures
