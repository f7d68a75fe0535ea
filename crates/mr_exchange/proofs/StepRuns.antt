-- What is known behind a script with which a step begins: of memory, and of the statuses of threads.
use Rattle.mr_exchange.proofs.Common.{◌≡◌, ℕ, Memory, Went, run, Notes, start_notes, Shared, StepScript, answer, MemoryFacts, start_facts, AreNewIn}
use Rattle.mr_start.proofs.PlanMemoryFacts.{memory_facts}
use Rattle.mr_exchange.proofs.Changes.{Change, at_memory, awaits_end, awaits_lock, frees_lock, gives_lock, new_lock, new_thread, own_end, prints, run_keeps, sees_end, sees_lock, takes_lock}
use Rattle.mr_exchange.proofs.StatusFacts.{StatusFacts, start_statuses, status_facts}

-- each change keeps what is known of memory
pub memory_kept : (m0 : Memory) (t c : ℕ) (s s' : Shared) (n n' : Notes) → Change s n s' n' → MemoryFacts m0 t c s.memory n.tally → MemoryFacts m0 t c s'.memory n'.tally
memory_kept m0 t c s s' n n' (at_memory q x m k e) f = memory_facts m0 t c q s.memory m n.tally k x f e
memory_kept m0 t c s s' n n' new_lock f = f
memory_kept m0 t c s s' n n' (takes_lock l there) f = f
memory_kept m0 t c s s' n n' (awaits_lock l there) f = f
memory_kept m0 t c s s' n n' (sees_lock l there) f = f
memory_kept m0 t c s s' n n' (frees_lock l there) f = f
memory_kept m0 t c s s' n n' (gives_lock l u there w) f = f
memory_kept m0 t c s s' n n' new_thread f = f
memory_kept m0 t c s s' n n' (sees_end u there) f = f
memory_kept m0 t c s s' n n' (awaits_end u there) f = f
memory_kept m0 t c s s' n n' own_end f = f
memory_kept m0 t c s s' n n' (prints text) f = f

module _ {A : Type 0} (script : StepScript A) (s s' : Shared) (t c : ℕ) (n : Notes) (x : A) (went : run answer script (s, start_notes t c) ≡ Went x (s', n)) where
  -- WHAT IS KNOWN OF MEMORY behind a step
  pub memory_of : AreNewIn s.memory t c → MemoryFacts s.memory t c s'.memory n.tally
  memory_of new = run_keeps (λ v k. MemoryFacts s.memory t c v.memory k.tally) (memory_kept s.memory t c) script s s' (start_notes t c) n x (start_facts s.memory t c new) went

  -- AND OF THE STATUSES
  pub statuses_of : StatusFacts s.statuses t s'.statuses n
  statuses_of = run_keeps (λ v k. StatusFacts s.statuses t v.statuses k) (status_facts s.statuses t) script s s' (start_notes t c) n x (start_statuses s.statuses t c) went
