-- What a step notes of what it did to memory.
use Rattle.std.specs.Prelude.{ℕ, List, []}
use Rattle.mr_base.specs.declared.access.Access.{Access}
use Rattle.mr_base.specs.declared.byte.AllocId.{AllocId}
use Rattle.mr_eval.specs.Reads.{Seen}

-- The thread, and how many allocations it has made; what the step accessed, touched, made and freed; ranges made.
pub record Tally : Type 0 where
  pub thread : ℕ
  pub count : ℕ
  pub accesses : List Access
  pub touched : List AllocId
  pub made : List AllocId
  pub ranges : List (ℕ × ℕ)
  pub freed : List AllocId

-- a step begins with nothing noted
abbrev pub start_tally : ℕ → ℕ → Tally
start_tally thread count =
    record { thread = thread; count = count; accesses = []; touched = []; made = []; ranges = []; freed = [] }

-- what evaluation sees of it: the accesses, and the allocations touched
abbrev pub seen_of : Tally → Seen
seen_of n = record { accesses = n.accesses; touched = n.touched }

-- the tally with what was seen by then in their place
abbrev pub with_seen : Tally → Seen → Tally
with_seen n s = record n { accesses = s.accesses; touched = s.touched }
