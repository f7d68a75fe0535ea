use Rattle.mr_step.proofs.Common.{◌≡◌, ◌++◌, take}
use Rattle.mr_plan.specs.Notes.{whole_stores}
use Rattle.mr_step.proofs.edition.store_freed.Given as goal

-- the allocations before this one were stored to
abbrev pub invariant-loop-id : goal.invariant-loop-id
invariant-loop-id l = l.accesses ≡ l.fn.accesses ++ whole_stores l.memory (take l.id-index l.freed)
