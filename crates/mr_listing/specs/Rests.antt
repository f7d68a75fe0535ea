-- How the threads of a run stand at its end, as it is written.
use Rattle.std.specs.Prelude.{ℕ, Bool, true, false, if◌then◌else◌, List, [], ◌++◌, flat_map, codes, decimal, length}
use Rattle.std.specs.Prelude.{Option, None, Some, slice_get}
use Rattle.std.specs.List.{range_with_len}
use Rattle.mr_base.specs.declared.reason.Verdict.{Verdict}
use Rattle.mr_base.specs.declared.reason.Verdict.TheVariants.{Deadlock, Running}
use Rattle.mr_base.specs.declared.thread.Status.{Status}
use Rattle.mr_base.specs.declared.thread.Status.TheVariants.{Enabled, Ended, OnJoin, OnLock}
use Rattle.mr_labels.specs.declared.step.Rest.{Rest}
use Rattle.mr_labels.specs.declared.step.Stand.{Stand}
use Rattle.mr_listing.specs.Seen.{Seen}
use Rattle.mr_listing.specs.Spots.{stand_text}

-- whether a thread can go on, and what it waits for otherwise
abbrev pub status_text : Status → List ℕ
status_text Enabled = codes " can go on"
status_text (OnJoin thread) = codes " waits for the end of thread " ++ decimal thread
status_text (OnLock lock) = codes " waits for lock " ++ decimal lock
status_text Ended = codes " ended"

abbrev pub waits_text : Option Status → List ℕ
waits_text None = []
waits_text (Some status) = status_text status

-- the statement at which a thread stands, if it does: it has not been done yet
abbrev pub at_text : Seen → Option Stand → List ℕ
at_text s None = []
at_text s (Some stand) = codes "; its next step is " ++ stand_text s (Some stand)

-- `thread T can go on; its next step is LINE:COLUMN  FUNCTION BLOCK  STATEMENT`
abbrev pub rest_line : Seen → ℕ → Rest → List ℕ
rest_line s t rest =
    codes "thread " ++ decimal t ++ waits_text rest.status ++ at_text s rest.stand ++ codes "\n"

abbrev pub rest_told : Seen → ℕ → Option Rest → List ℕ
rest_told s t None = []
rest_told s t (Some rest) = rest_line s t rest

abbrev pub numbered_rest : Seen → ℕ → List ℕ
numbered_rest s t = rest_told s t (slice_get s.rests t)

-- a run that no step stopped: its entries are used up, or no thread can go on
abbrev pub is_unstopped : Verdict → Bool
is_unstopped Running = true
is_unstopped Deadlock = true
is_unstopped _ = false

-- HOW THE THREADS STAND at the end of such a run
abbrev pub rests_text : Seen → List ℕ
rests_text s = if is_unstopped s.verdict then flat_map (numbered_rest s) (range_with_len 0 (length s.rests)) else []
