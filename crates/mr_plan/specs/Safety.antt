-- When a script that asks memory alone never comes to a state without a rule.
use Rattle.std.specs.Prelude.{◌<◌, ◌*◌, ◌^◌}
use Rattle.mr_base.specs.Script.{Safe}
use Rattle.mr_eval.specs.MemoryQueries.{Allocate, Free, MemoryQuery, MemoryReply, MemoryScript, Modify, Reading, Write}
use Rattle.mr_eval.specs.Sound.{Good}

-- what every memory answers: a load gives as many bytes as were asked for, and a modification a number of so many bytes
abbrev pub GoodReply : (q : MemoryQuery) → MemoryReply q → Type 0
GoodReply (Reading q) x = Good q x
GoodReply (Write atomic p bytes align) x = Unit {0}
GoodReply (Modify p size change) x = x < 2 ^ (8 * size)
GoodReply (Allocate kind size align addr) x = Unit {0}
GoodReply (Free p kind size align) x = Unit {0}

-- a script that is never ill-formed, whatever memory answers, and whose results are so
abbrev pub IsSafeChange : {A : Type 0} → (A → Type 0) → MemoryScript A → Type 0
IsSafeChange P script = Safe GoodReply P script
