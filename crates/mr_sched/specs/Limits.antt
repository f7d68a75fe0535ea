-- The limits of schedules.
use Rattle.std.specs.Prelude.{ℕ, ◌^◌}

-- how many entries a schedule may have
abbrev pub max_entries : ℕ
max_entries = 2 ^ 22

-- how many bytes the text of a schedule may have
abbrev pub max_bytes : ℕ
max_bytes = 2 ^ 26
