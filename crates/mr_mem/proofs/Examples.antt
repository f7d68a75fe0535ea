-- Ranges, picks and freeing, computed.
use Rattle.mr_mem.proofs.Common.{◌≡◌, ◌-◌, ◌^◌, refl, ap, ◌∙◌, [], ◌∷◌, true, false, Some, None, Ok, Err, AllocId, Pointer, Memory, Allocation, Ranges, allocated, fresh, range_fault, ranges_of, with_range, pick_fault, freed, free_fault, refusal, unless, without_life, is_leak, IsOverlapped, Taken, lesser_of, span_at}
use Rattle.mr_base.specs.declared.byte.Kind.TheVariants.{Heap, Stack, Function}
use Rattle.mr_base.specs.declared.reason.Reason.TheVariants.{NoProvenance, DeadAllocation, FreeAddress, FreeKind, FreeSize, FreeAlign}
use Rattle.mr_mem.specs.declared.fault.PickFault.TheVariants.{BadAddress, Reused}
use Rattle.std.specs.FinMap as fin
use Rattle.mr_mem.proofs.Identities.{get_here}
use Rattle.mr_mem.proofs.RangeLaws.{ranges-empty, ranges-allocated, ranges-freed}

abbrev first : AllocId
first = record { thread = 0; count = 0 }

abbrev second : AllocId
second = record { thread = 0; count = 1 }

-- ---- picks

-- 16 to 23, and 32 to 39
abbrev taken : Ranges
taken = (first, record { addr = 16; size = 8 }) ∷ (second, record { addr = 32; size = 8 }) ∷ []

address_0 : range_fault [] 0 4 4 ≡ Some BadAddress
unfolding range_fault
address_0 = refl

misaligned : range_fault [] 18 4 4 ≡ Some BadAddress
unfolding range_fault
misaligned = refl

-- the last address is 2 ^ 64 - 1
up_to_the_end : range_fault [] (2 ^ 64 - 4) 4 4 ≡ None
unfolding range_fault
up_to_the_end = refl

past_the_end : range_fault [] (2 ^ 64 - 4) 5 4 ≡ Some BadAddress
unfolding range_fault
past_the_end = refl

inside_the_second : range_fault taken 36 2 4 ≡ Some (Reused second)
unfolding range_fault
inside_the_second = refl

-- it overlaps both, and the least of them is named
over_both : range_fault taken 20 16 4 ≡ Some (Reused first)
unfolding range_fault
over_both = refl

-- 24 to 31
adjacent_to_both : range_fault taken 24 8 4 ≡ None
unfolding range_fault
adjacent_to_both = refl

-- a range of length 0 overlaps none, but it has to be aligned
empty : range_fault taken 20 0 4 ≡ None
unfolding range_fault
empty = refl

empty_misaligned : range_fault taken 21 0 4 ≡ Some BadAddress
unfolding range_fault
empty_misaligned = refl

-- ---- freeing

-- four bytes of the heap, at 16
abbrev four : Allocation
four = fresh Heap 4 4 16

abbrev dead : Allocation
dead = record four { live = false }

freed_well : free_fault four 16 Heap 4 4 ≡ None
unfolding free_fault
freed_well = refl

not_at_its_start : free_fault four 20 Heap 4 4 ≡ Some FreeAddress
unfolding free_fault
not_at_its_start = refl

other_kind : free_fault four 16 Stack 4 4 ≡ Some FreeKind
unfolding free_fault
other_kind = refl

other_size : free_fault four 16 Heap 8 4 ≡ Some FreeSize
unfolding free_fault
other_size = refl

other_alignment : free_fault four 16 Heap 4 8 ≡ Some FreeAlign
unfolding free_fault
other_alignment = refl

-- of several reasons the first is given
dead_and_all_other : free_fault dead 20 Stack 8 8 ≡ Some DeadAllocation
unfolding free_fault
dead_and_all_other = refl

-- a function takes an address and holds no byte
function : free_fault (fresh Function 1 1 16) 16 Function 0 1 ≡ None
unfolding free_fault
function = refl

-- ---- a run: a fresh memory, an allocation, its end

abbrev one : Memory
one = allocated fin.empty first Heap 4 4 16

abbrev none_live : Memory
none_live = fin.insert one first dead

abbrev to_first : Pointer
to_first = record { addr = 16; prov = Some first }

all_is_free : pick_fault fin.empty 16 4 4 ≡ None
unfolding range_fault
all_is_free = ap (λ rs. range_fault rs 16 4 4) ranges-empty

one_range : ranges_of one ≡ (first, record { addr = 16; size = 4 }) ∷ []
one_range = ranges-allocated fin.empty first Heap 4 4 16 ∙ ap (λ rs. with_range rs first 16 4) ranges-empty

over_the_live : pick_fault one 16 4 4 ≡ Some (Reused first)
unfolding range_fault
over_the_live = ap (λ rs. range_fault rs 16 4 4) one_range

freed_once : freed one to_first Heap 4 4 ≡ Ok (first, none_live)
unfolding freed free_fault
freed_once = ap (λ o. unless (refusal o 16 Heap 4 4) (first, without_life one first o)) (get_here fin.empty first four)

freed_twice : freed none_live to_first Heap 4 4 ≡ Err DeadAllocation
unfolding freed free_fault
freed_twice = ap (λ o. unless (refusal o 16 Heap 4 4) (first, without_life none_live first o)) (get_here one first dead)

no_provenance : freed one (record { addr = 16; prov = None }) Heap 4 4 ≡ Err NoProvenance
unfolding freed
no_provenance = refl

-- a range isn't given back
over_the_dead : pick_fault none_live 16 4 4 ≡ Some (Reused first)
over_the_dead = ap (λ rs. range_fault rs 16 4 4) (ranges-freed one none_live to_first Heap 4 4 first freed_once) ∙ over_the_live

-- ---- leaks

live_heap : is_leak (first, four) ≡ true
live_heap = refl

dead_heap : is_leak (first, dead) ≡ false
dead_heap = refl

live_stack : is_leak (first, fresh Stack 4 4 16) ≡ false
live_stack = refl

-- ---- the same ranges in the order of their addresses

abbrev taken_spans : Taken
taken_spans = (16, record { size = 8; id = first }) ∷ (32, record { size = 8; id = second }) ∷ []

begins_there : span_at taken_spans 32 ≡ Some (record { size = 8; id = second })
begins_there = refl

none_begins : span_at taken_spans 36 ≡ None
none_begins = refl

is_overlapped : IsOverlapped taken_spans 36 2 second
is_overlapped = (32, record { size = 8; id = second }, refl, refl, refl)

lesser_first : lesser_of (Some second) first ≡ first
lesser_first = refl

lesser_alone : lesser_of None second ≡ second
lesser_alone = refl
