-- The limit of texts.
use Rattle.std.specs.Prelude.{ℕ, ◌^◌}

-- how many bytes the text of a program may have
abbrev pub max_text : ℕ
max_text = 2 ^ 20
