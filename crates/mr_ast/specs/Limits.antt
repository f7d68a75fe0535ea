-- The limits of programs.
use Rattle.std.specs.Prelude.{ℕ, ◌^◌}

-- how many globals, functions, and locals of a function there may be
abbrev pub max_items : ℕ
max_items = 256

-- how many blocks a function may have
abbrev pub max_blocks : ℕ
max_blocks = 1024

-- how many statements a block may have
abbrev pub max_stmts : ℕ
max_stmts = 4096

-- how many brackets may be open, and how many postfixes may follow a place
abbrev pub max_open : ℕ
max_open = 32

-- the greatest alignment
abbrev pub max_align : ℕ
max_align = 4096

-- the greatest size of a type and of a global in bytes, count of an array, and number of repeats of an item
abbrev pub max_size : ℕ
max_size = 2 ^ 20
