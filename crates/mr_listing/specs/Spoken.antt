-- What an undefined run speaks of, as it is written.
use Rattle.std.specs.Prelude.{ℕ, suc, ◌+◌, ◌-◌, nat_lt, Bool, true, false, ◌&&◌, if◌then◌else◌}
use Rattle.std.specs.Prelude.{List, [], ◌∷◌, ◌++◌, Option, None, Some, codes, decimal}
use Rattle.std.specs.List.{list_any}
use Rattle.std.specs.Option.{option_and_then}
use Rattle.mr_base.specs.Pairs.{is_meeting}
use Rattle.mr_base.specs.declared.access.Access.{Access}
use Rattle.mr_base.specs.declared.byte.AllocId.{AllocId}
use Rattle.mr_base.specs.declared.reason.Reason.{Reason}
use Rattle.mr_base.specs.declared.reason.Reason.TheVariants.{InvalidValue}
use Rattle.mr_base.specs.declared.reason.Verdict.{Verdict}
use Rattle.mr_base.specs.declared.reason.Verdict.TheVariants.{Undefined}
use Rattle.mr_event.specs.Footprint.{Footprint}
use Rattle.mr_labels.specs.Table.{named}
use Rattle.mr_labels.specs.declared.names.Name.{Name}
use Rattle.mr_labels.specs.declared.names.Name.TheVariants as name
use Rattle.mr_base.specs.declared.reached.Reached.{Reached}
use Rattle.mr_base.specs.declared.reached.Reaching.{Reaching}
use Rattle.mr_base.specs.declared.reached.Reaching.TheVariants.{Changes, Frees, Loads, Moves, Refers, Stores}
use Rattle.mr_labels.specs.declared.rows.Allocation.{Allocation}
use Rattle.mr_listing.specs.Accesses.{bytes_text}
use Rattle.mr_listing.specs.Leaks.{freed_by}
use Rattle.mr_listing.specs.Seen.{Seen}
use Rattle.mr_labels.specs.Words.{name_text}

-- what is done with bytes
abbrev pub doing_word : Reaching → List ℕ
doing_word Moves = codes "move over "
doing_word Refers = codes "reference to "
doing_word Loads = codes "load of "
doing_word Stores = codes "store of "
doing_word Changes = codes "atomic change of "
doing_word Frees = codes "freeing of "

-- where an address lies, counted from the first one of an allocation: `4`, `-8`
abbrev pub offset_text : ℕ → ℕ → List ℕ
offset_text start addr =
    if nat_lt addr start then codes "-" ++ decimal (start - addr) else decimal (addr - start)

-- the same, and the address itself, by which a step was aligned or not: `4, address 4100`
abbrev pub where_text : ℕ → ℕ → List ℕ
where_text start addr = offset_text start addr ++ codes ", address " ++ decimal addr

-- the number of the first step that freed an allocation, counted on from a number
abbrev pub freed_from : ℕ → AllocId → List Footprint → Option ℕ
freed_from k id [] = None
freed_from k id (foot ∷ feet) = if freed_by id foot then Some k else freed_from (suc k) id feet

-- ` and was freed by step 20`
abbrev pub freeing_text : ℕ → List ℕ
freeing_text k = codes " and was freed by step " ++ decimal (k + 1)

abbrev pub freed_text : Option ℕ → List ℕ
freed_text None = []
freed_text (Some k) = freeing_text k

-- how many bytes it has: a function has an address, and no bytes
abbrev pub held_bytes : Allocation → Name → ℕ
held_bytes row (name.Function i) = 0
held_bytes row _ = row.size

-- `the block of step 12, which has 8 bytes and was freed by step 20`
abbrev pub owner_word : Seen → Allocation → List ℕ
owner_word s row =
    name_text s.program None 0 row.name ++ codes ", which has " ++ bytes_text (held_bytes row row.name)
    ++ freed_text (freed_from 0 row.id s.feet)

-- the allocation, and where in it: `: load of 4 bytes at byte 4, address 4100`
abbrev pub spoken_text : Seen → Reached → Option Allocation → List ℕ
spoken_text s r None =
    codes "no allocation: " ++ doing_word r.doing ++ bytes_text r.len ++ codes " at address " ++ decimal r.pointer.addr
spoken_text s r (Some row) =
    owner_word s row ++ codes ": " ++ doing_word r.doing ++ bytes_text r.len ++ codes " at byte "
    ++ where_text row.start r.pointer.addr

-- the allocation that a pointer may reach, where it is one of the run
abbrev pub owner_of : Seen → Reached → Option Allocation
owner_of s r = option_and_then (λ id. named id s.rows) r.pointer.prov

-- ---- who stored the bytes that mean no value

-- whether an access stored to one of the bytes
abbrev pub stores_to : Reached → Access → Bool
stores_to r a = a.store && is_meeting a.addr a.len r.pointer.addr r.len

-- whether a step did
abbrev pub stored_by : Reached → Footprint → Bool
stored_by r foot = list_any (stores_to r) foot.accesses

-- the later of two steps, where there are any
abbrev pub later : Option ℕ → Option ℕ → Option ℕ
later None earlier = earlier
later (Some k) earlier = Some k

-- the number of a step, where it stored to one of the bytes
abbrev pub storing : ℕ → Reached → Footprint → Option ℕ
storing k r foot = if stored_by r foot then Some k else None

-- the number of the last step that stored to one of the bytes, counted on from a number
abbrev pub stored_last : ℕ → Reached → List Footprint → Option ℕ
stored_last k r [] = None
stored_last k r (foot ∷ feet) = later (stored_last (suc k) r feet) (storing k r foot)

-- `; step 20 stored there last`
abbrev pub storer_text : Option ℕ → List ℕ
storer_text None = codes "; no step stored there"
storer_text (Some k) = codes "; step " ++ decimal (k + 1) ++ codes " stored there last"

abbrev pub is_value_fault : Reason → Bool
is_value_fault InvalidValue = true
is_value_fault _ = false

-- whether a run ended with bytes that mean no value
abbrev pub lacks_value : Verdict → Bool
lacks_value (Undefined reason) = is_value_fault reason
lacks_value _ = false

-- which step last made bytes so that mean no value
abbrev pub made_so : Seen → Reached → List ℕ
made_so s r =
    if lacks_value s.verdict && nat_lt 0 r.len then storer_text (stored_last 0 r s.feet) else []

-- THE LINE OF WHAT AN UNDEFINED RUN SPEAKS OF, where it does
abbrev pub spoken_line : Seen → Option Reached → List ℕ
spoken_line s None = []
spoken_line s (Some r) = codes "it speaks of " ++ spoken_text s r (owner_of s r) ++ made_so s r ++ codes "\n"
