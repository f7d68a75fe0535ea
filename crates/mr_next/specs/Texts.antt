-- What is said of how a run can go on.
use Rattle.std.specs.Prelude.{ℕ, ◌-◌, ◌^◌, ◌==◌, nat_le, nat_lt, if◌then◌else◌, List, [], ◌++◌, flat_map, codes, decimal}
use Rattle.std.specs.Prelude.{length, take, Option, None, Some, slice_get}
use Rattle.std.specs.List.{range_with_len}
use Rattle.mr_ast.specs.declared.program.Program.{Program}
use Rattle.mr_base.specs.declared.byte.AllocId.{AllocId}
use Rattle.mr_base.specs.declared.thread.Status.{Status}
use Rattle.mr_base.specs.declared.thread.Status.TheVariants.{Enabled, Ended, OnJoin, OnLock}
use Rattle.mr_sched.specs.declared.schedule.Entry.{Entry}
use Rattle.mr_sched.specs.Rules.{name_by_code}
use Rattle.mr_labels.specs.declared.names.Name.{Name}
use Rattle.mr_labels.specs.declared.names.Name.TheVariants as name
use Rattle.mr_labels.specs.declared.step.Stand.{Stand}
use Rattle.mr_labels.specs.Words.{name_text}
use Rattle.mr_next.specs.Coming.{coming_names}
use Rattle.mr_next.specs.declared.prospect.Position.{Position}
use Rattle.mr_next.specs.declared.prospect.Prospect.{Prospect}
use Rattle.mr_next.specs.declared.prospect.Want.{Want}
use Rattle.mr_next.specs.declared.prospect.Want.TheVariants as want
use Rattle.mr_next.specs.declared.broken.Broken.{Broken}

-- a number behind a blank, and some numbers
abbrev pub blank_number : ℕ → List ℕ
blank_number n = codes " " ++ decimal n

abbrev pub blank_numbers : List ℕ → List ℕ
blank_numbers ns = flat_map blank_number ns

-- ---- what a step asks for

-- what an address is for: a local, a block of the heap, or what else has a name
abbrev pub purpose_text : Program → Option Stand → Name → List ℕ
purpose_text p here (name.Local thread function local) =
    codes ", for local " ++ name_text p here 0 (name.Local thread function local)
purpose_text p here (name.Heap step) = codes ", for a block of the heap"
purpose_text p here other = codes ", for " ++ name_text p here 0 other

-- the same, where it can be told
abbrev pub for_text : Program → Option Stand → Option Name → List ℕ
for_text p here None = []
for_text p here (Some n) = purpose_text p here n

-- `address, size 8, align 8, for local x`
abbrev pub size_text : ℕ → ℕ → List ℕ
size_text size align = codes "address, size " ++ decimal size ++ codes ", align " ++ decimal align

abbrev pub address_text : Program → Option Stand → Option Name → ℕ → ℕ → List ℕ
address_text p here n size align = size_text size align ++ for_text p here n

-- one of some threads: a comma stands in front of each but the first
abbrev pub listed_thread : ℕ → Option ℕ → List ℕ
listed_thread at None = []
listed_thread at (Some thread) = (if at == 0 then codes " " else codes ", ") ++ decimal thread

abbrev pub numbered_thread : List ℕ → ℕ → List ℕ
numbered_thread threads at = listed_thread at (slice_get threads at)

abbrev pub listed_threads : List ℕ → List ℕ
listed_threads threads = flat_map (numbered_thread threads) (range_with_len 0 (length threads))

-- `one of the threads 2, 3, which wait for lock 0`
abbrev pub waiter_text : ℕ → List ℕ → List ℕ
waiter_text lock threads =
    codes "one of the threads" ++ listed_threads threads ++ codes ", which wait for lock " ++ decimal lock

abbrev pub want_text : Program → Option Stand → Option Name → Want → List ℕ
want_text p here n (want.Address size align) = address_text p here n size align
want_text p here n (want.Waiter lock threads) = waiter_text lock threads

abbrev pub want_line : Program → Option Stand → Option Name → Want → List ℕ
want_line p here n w = codes "        asks for " ++ want_text p here n w ++ codes "\n"

abbrev pub some_want : Program → Option Stand → Option Name → Option Want → List ℕ
some_want p here n None = []
some_want p here n (Some w) = want_line p here n w

-- the same of what is asked for under a number; the name of this number goes with it
abbrev pub numbered_want : Program → Option Stand → List Name → List Want → ℕ → List ℕ
numbered_want p here names wants at = some_want p here (slice_get names at) (slice_get wants at)

-- all that a step asks for which makes what these names name
abbrev pub wants_text : Program → Option Stand → List Name → List Want → List ℕ
wants_text p here names wants = flat_map (numbered_want p here names wants) (range_with_len 0 (length wants))

-- the rule that the step would break whatever is picked
abbrev pub limit_line : ℕ → List ℕ
limit_line code = codes "        would break " ++ decimal code ++ codes " " ++ name_by_code code ++ codes "\n"

abbrev pub limit_text : Option ℕ → List ℕ
limit_text None = []
limit_text (Some code) = limit_line code

-- ---- a thread

-- who has the lock
abbrev pub holder_named : ℕ → List ℕ
holder_named thread = codes ", which thread " ++ decimal thread ++ codes " has"

abbrev pub holder_text : Option ℕ → List ℕ
holder_text None = []
holder_text (Some thread) = holder_named thread

-- what it waits for
abbrev pub join_text : ℕ → List ℕ
join_text thread = codes " waits for the end of thread " ++ decimal thread

abbrev pub lock_text : ℕ → Option ℕ → List ℕ
lock_text lock holder = codes " waits for lock " ++ decimal lock ++ holder_text holder

-- whether it can go on, and what it waits for otherwise
abbrev pub status_text : Option ℕ → Option Status → List ℕ
status_text holder None = []
status_text holder (Some Enabled) = codes " can go on"
status_text holder (Some (OnJoin thread)) = join_text thread
status_text holder (Some (OnLock lock)) = lock_text lock holder
status_text holder (Some Ended) = codes " ended"

-- its next statement, by the text of where it stands; that of an ended thread is empty
abbrev pub place_text : List ℕ → List ℕ
place_text place = if length place == 0 then [] else codes "; its next step is " ++ place

abbrev pub at_text : Option Position → List ℕ
at_text None = []
at_text (Some position) = place_text position.text

-- where it stands
abbrev pub stand_at : Option Position → Option Stand
stand_at None = None
stand_at (Some position) = position.stand

-- `thread T can go on; its next step is LINE:COLUMN  FUNCTION BLOCK  STATEMENT`
abbrev pub head_text : ℕ → Option Position → Prospect → List ℕ
head_text t position x =
    codes "thread " ++ decimal t ++ status_text x.holder x.status ++ at_text position ++ codes "\n"

-- what the next step of a thread asks for, which stands here; a thread that it starts has the number `new`
abbrev pub asked_text : Program → ℕ → Option Stand → List Want → List ℕ
asked_text p new here wants = wants_text p here (coming_names p new here) wants

-- THE LINES OF A THREAD that has this position
abbrev pub thread_text : Program → ℕ → ℕ → Option Position → Prospect → List ℕ
thread_text p new t position x =
    head_text t position x ++ asked_text p new (stand_at position) x.wants ++ limit_text x.limit

abbrev pub told_text : Program → ℕ → ℕ → Option Position → Option Prospect → List ℕ
told_text p new t position None = []
told_text p new t position (Some x) = thread_text p new t position x

-- the same of the thread of a number
abbrev pub numbered_text : Program → ℕ → List Position → List Prospect → ℕ → List ℕ
numbered_text p new positions xs t = told_text p new t (slice_get positions t) (slice_get xs t)

abbrev pub each_text : Program → ℕ → List Position → List Prospect → List ℕ
each_text p new positions xs = flat_map (numbered_text p new positions xs) (range_with_len 0 (length xs))

-- the number that a new thread gets where there are so many; the last one there is for more than a run can have
abbrev pub new_thread : ℕ → ℕ
new_thread count = if nat_lt count (2 ^ 32) then count else 2 ^ 32 - 1

-- THE LINES OF ALL THREADS, each with its position
abbrev pub threads_text : Program → List Position → List Prospect → List ℕ
threads_text p positions xs = each_text p (new_thread (length xs)) positions xs

-- ---- a broken rule

-- the allocation whose range is used again
abbrev pub earlier_line : AllocId → List ℕ
earlier_line id =
    codes "        the bytes were those of allocation " ++ decimal id.count ++ codes " of thread "
    ++ decimal id.thread ++ codes "\n"

abbrev pub earlier_text : Option AllocId → List ℕ
earlier_text None = []
earlier_text (Some id) = earlier_line id

-- how many picks an entry has, where they aren't all told
abbrev pub count_of_picks : List ℕ → List ℕ
count_of_picks picks = if nat_le (length picks) 16 then [] else codes " .. of " ++ decimal (length picks)

-- the first 16 picks of an entry
abbrev pub picks_line : List ℕ → List ℕ
picks_line picks = codes "        picks" ++ blank_numbers (take 16 picks) ++ count_of_picks picks ++ codes "\n"

abbrev pub picks_text : List ℕ → List ℕ
picks_text picks = if length picks == 0 then codes "        no pick\n" else picks_line picks

-- which entry it is: its number, counted from 1, and its thread
abbrev pub entry_text : ℕ → ℕ → List ℕ
entry_text number thread = codes "entry " ++ decimal number ++ codes " of thread " ++ decimal thread

-- a rule by its code and name, and in a sentence
abbrev pub code_text : List ℕ → ℕ → List ℕ
code_text sentence code = decimal code ++ codes " " ++ name_by_code code ++ codes ": " ++ sentence

-- which entry breaks which rule
abbrev pub rule_text : List ℕ → Entry → Broken → List ℕ
rule_text sentence e b =
    entry_text (b.place - 2) e.thread ++ codes " breaks " ++ code_text sentence b.code ++ codes "\n"

-- the pick by which it breaks it
abbrev pub pick_line : ℕ → List ℕ
pick_line pick = codes "        by the pick " ++ decimal pick ++ codes "\n"

abbrev pub pick_text : Option ℕ → List ℕ
pick_text None = []
pick_text (Some pick) = pick_line pick

-- the same by its position
abbrev pub culprit_text : List ℕ → Option ℕ → List ℕ
culprit_text picks None = []
culprit_text picks (Some at) = pick_text (slice_get picks at)

-- THE ENTRY THAT BREAKS A RULE, with its picks, and the one by which it does
abbrev pub broken_text : List ℕ → Entry → Broken → List ℕ
broken_text sentence e b =
    rule_text sentence e b ++ picks_text e.picks ++ culprit_text e.picks b.culprit ++ earlier_text b.earlier
