-- Places of a small memory, and what a store there reads and writes.
use Rattle.mr_plan.proofs.Common.{◌≡◌, refl, [], ◌∷◌, arith, inl, inr, Some, None, true, false, Contains, Contains-push, Uninit, AllocId, Function, Heap, Pointer, Allocation, fresh, Tally, start_tally, ByteAt, Covers, HeaderOf, ReadsMemory, StoresAt, WritesMemory, byte_at, header_of}
use Rattle.std.proofs.lemmas.List.Quantifiers.{Any-push}
use Rattle.mr_base.specs.declared.byte.AbstractByte.TheVariants.{Init}
use Rattle.mr_plan.proofs.ElementLaws.{Any-one, Contains-nil}
use Rattle.mr_plan.proofs.MemoryAnswers.{with_store}

abbrev owner : AllocId
owner = record { thread = 0; count = 3 }

-- three bytes at the address 8, of which the second is uninitialised
abbrev three : Allocation
three = record {
  addr = 8;
  span = 3;
  align = 4;
  kind = Heap;
  live = true;
  bytes = Init 5 None ∷ Uninit ∷ Init 7 None ∷ [];
}

header_of_three : header_of (Some three) ≡ Some (record { addr = 8; span = 3; align = 4; kind = Heap; live = true; size = 3 })
header_of_three = refl

-- a function takes an address and has no byte
header_of_function : header_of (Some (fresh Function 1 1 16)) ≡ Some (record { addr = 16; span = 1; align = 1; kind = Function; live = true; size = 0 })
header_of_function = refl

byte_below : byte_at (Some three) 7 ≡ None
byte_below = refl

byte_first : byte_at (Some three) 8 ≡ Some (Init 5 None)
byte_first = refl

byte_last : byte_at (Some three) 10 ≡ Some (Init 7 None)
byte_last = refl

byte_behind : byte_at (Some three) 11 ≡ None
byte_behind = refl

byte_of_function : byte_at (Some (fresh Function 1 1 16)) 16 ≡ None
byte_of_function = refl

byte_of_none : byte_at None 8 ≡ None
byte_of_none = refl

abbrev second : Pointer
second = record { addr = 9; prov = Some owner }

-- a step that stored one byte at the second address
abbrev stored : Tally
stored = with_store false second (Init 1 None ∷ []) (start_tally 0 4)

is_there : Contains (owner ∷ []) owner
is_there = Contains-push [] owner

-- it reads the header, and reads and writes the byte at its address
reads_header : ReadsMemory stored (HeaderOf owner)
reads_header = inl is_there

reads_second : ReadsMemory stored (ByteAt owner 9)
reads_second = (is_there, Any-push (Covers 9) [] (record { store = true; atomic = false; addr = 9; len = 1 }) (record { from = omega arith; to = omega arith }))

writes_second : WritesMemory stored (ByteAt owner 9)
writes_second = inl (is_there, Any-push (StoresAt 9) [] (record { store = true; atomic = false; addr = 9; len = 1 }) (record { covers = record { from = omega arith; to = omega arith }; store = refl }))

-- and no other byte, and no header
reads_third : ReadsMemory stored (ByteAt owner 10) → ⊥
reads_third h = let c = (Any-one (Covers 10) _ h.1).to in omega arith

writes_third : WritesMemory stored (ByteAt owner 10) → ⊥
writes_third (inl h) = let c = (Any-one (StoresAt 10) _ h.1).covers.to in omega arith
writes_third (inr h) = Contains-nil owner h

writes_header : WritesMemory stored (HeaderOf owner) → ⊥
writes_header (inl h) = Contains-nil owner h
writes_header (inr h) = Contains-nil owner h
