-- The limits of the machine.
use Rattle.std.specs.Prelude.{ℕ}

-- how many threads a run may have
abbrev pub max_threads : ℕ
max_threads = 1024

-- how many locks a run may have
abbrev pub max_locks : ℕ
max_locks = 4096
