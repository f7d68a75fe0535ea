-- An entry that breaks a rule, as the code tells it.
use Rattle.std.specs.Prelude.{ℕ, ◌-◌, List, [], Option, None, Some, slice_get}
use Rattle.mr_sched.specs.declared.schedule.Entry.{Entry}
use Rattle.mr_next.specs.Texts.{broken_text}
use Rattle.mr_next.specs.declared.broken.Broken.{Broken}
use Rattle.mr_show.specs.Sentences.{sentence_of}

abbrev pub entry_lines : Broken → Option Entry → List ℕ
entry_lines b None = []
entry_lines b (Some e) = broken_text (sentence_of b.code) e b

-- the entry that breaks a rule, where one does; the first entry has place 3
abbrev pub broken_told : List Entry → Option Broken → List ℕ
broken_told es None = []
broken_told es (Some b) = entry_lines b (slice_get es (b.place - 3))

-- 1 where one does
abbrev pub status_by : Option Broken → ℕ
status_by None = 0
status_by (Some b) = 1
