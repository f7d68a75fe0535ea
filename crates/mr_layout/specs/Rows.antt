-- How an array's elements lie in the bytes that a table has left for them.
use Rattle.std.specs.Prelude.{◌≡◌, ℕ, ◌*◌, ◌<◌, ◌≤◌}
use Rattle.mr_layout.specs.declared.ok.Row.{Row}

-- they have no byte; there is one; one has as many as are left, or more; or each has so many, and fewer than are left
abbrev pub IsRow : (count len left : ℕ) → Row → Type 0
IsRow count len left Row.Empty = count * len ≡ 0
IsRow count len left Row.Once = count ≡ 1
IsRow count len left Row.Long = (0 < count) × (left ≤ len)
IsRow count len left (Row.Elems n) = (n ≡ len) × (0 < len) × (len < left)
