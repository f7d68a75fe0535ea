-- What bytes spell, as the code reads it from the last piece to the first.
use Rattle.std.specs.Prelude.{◌≡◌, ℕ, ◌+◌, ◌*◌, ◌%◌, Bool, true, false, if◌then◌else◌, List, [], ◌∷◌, Option, Some}
use Rattle.std.specs.Prelude.{None}
use Rattle.mr_base.specs.declared.byte.AllocId.{AllocId}
use Rattle.mr_value.specs.declared.numbers.Sharing.{Sharing}
use Rattle.mr_value.specs.declared.numbers.Sharing.TheVariants.{Any, One, Differ}
use Rattle.mr_value.specs.declared.numbers.Spelled.{Spelled}
use Rattle.mr_value.specs.Numbers.{Bytes, number_of, all_have, shared_provenance}
use Rattle.mr_base.specs.Identities.{same_id}

-- the number whose lowest bytes are these, the lowest first, and whose others are the rest
abbrev pub initial_number : List ℕ → ℕ → ℕ
initial_number [] rest = rest
initial_number (n ∷ numbers) rest = n % 256 + 256 * initial_number numbers rest

-- the provenance that is shared, if there is one
abbrev pub shared_in : Sharing → Option AllocId
shared_in Any = None
shared_in (One p) = Some p
shared_in Differ = None

-- whether all have a provenance
abbrev pub shares : AllocId → Sharing → Bool
shares p Any = true
shares p (One q) = same_id p q
shares p Differ = false

-- what is shared with bytes of a provenance before the others
abbrev pub sharing_behind : Option AllocId → Sharing → Sharing
sharing_behind None rest = Differ
sharing_behind (Some p) Any = One p
sharing_behind (Some p) (One q) = (if same_id p q then One q else Differ)
sharing_behind (Some p) Differ = Differ

-- what was read is what the bytes spell; nothing was read where a byte is uninitialised
abbrev pub Spells : Bytes → Option Spelled → Type 0
Spells bytes None = number_of bytes ≡ None
Spells bytes (Some s) =
    (number_of bytes ≡ Some s.number) × (shared_provenance bytes ≡ shared_in s.sharing)
    × ((p : AllocId) → all_have p bytes ≡ shares p s.sharing)
