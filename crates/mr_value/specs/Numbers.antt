-- Numbers and pointers as abstract bytes.
use Rattle.std.specs.Prelude.{ℕ, zero, suc, ◌+◌, ◌*◌, ◌/◌, ◌%◌, Bool, true, false, ◌&&◌, if◌then◌else◌, List, []}
use Rattle.std.specs.Prelude.{◌∷◌, take, drop, Option, Some, None, option_map}
use Rattle.mr_base.specs.declared.byte.AllocId.{AllocId}
use Rattle.mr_base.specs.declared.byte.Pointer.{Pointer}
use Rattle.mr_base.specs.declared.byte.AbstractByte.{AbstractByte}
use Rattle.mr_base.specs.declared.byte.AbstractByte.TheVariants.{Uninit, Init}
use Rattle.mr_runs.specs.Numbers.{with_provenance}
use Rattle.mr_base.specs.Identities.{same_id}

-- abstract bytes in a row
abbrev pub Bytes : Type 0
Bytes = List AbstractByte

-- so many bytes from an offset on
abbrev pub part : ℕ → ℕ → Bytes → Bytes
part at len bytes = take len (drop at bytes)

-- the number that bytes spell, the lowest byte first, each byte a number below 256; none where a byte is uninitialised
abbrev pub number_of : Bytes → Option ℕ
number_of [] = Some 0
number_of (Uninit ∷ bytes) = None
number_of (Init n p ∷ bytes) = option_map (λ m. n % 256 + 256 * m) (number_of bytes)

-- so many lowest bytes of a number, the lowest first
abbrev pub little_endian : ℕ → ℕ → List ℕ
little_endian zero n = []
little_endian (suc count) n = (n % 256) ∷ little_endian count (n / 256)

-- all bytes have this provenance
abbrev pub all_have : AllocId → Bytes → Bool
all_have p [] = true
all_have p (Init n (Some q) ∷ bytes) = same_id p q && all_have p bytes
all_have p _ = false

-- the provenance that all bytes share
abbrev pub shared_provenance : Bytes → Option AllocId
shared_provenance (Init n (Some p) ∷ bytes) = if all_have p bytes then Some p else None
shared_provenance _ = None

-- the pointer with an address and a provenance
abbrev pub pointer : ℕ → Option AllocId → Pointer
pointer addr prov = record { addr = addr; prov = prov }

-- the pointer that bytes spell: their number, and the provenance that all of them share
abbrev pub pointer_of : Bytes → Option Pointer
pointer_of bytes = option_map (λ addr. pointer addr (shared_provenance bytes)) (number_of bytes)

-- the bytes of a pointer: its address, where each byte has its provenance
abbrev pub pointer_bytes : Pointer → Bytes
pointer_bytes p = with_provenance p.prov (little_endian 8 p.addr)
