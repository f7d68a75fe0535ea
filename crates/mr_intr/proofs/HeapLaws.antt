-- An allocation on the heap, by the reason against it.
use Rattle.mr_intr.proofs.Common.{◌≡◌, ℕ, ◌<◌, ◌+◌, ◌-◌, ◌^◌, refl, subst, ap, ◌∙◌, arith, List, [], ◌∷◌, get_or, Option, Some, None, Bool, true, false, if◌then◌else◌, nat_lt, slice_get, plainly, Ty, Heap, Reason, BadAlign, SizeTooLarge, Status, ranges_of, Address, Val, Allocate, Free, Scene, Tables, creation_fault, needs_fault, picks_fault, CreatesNothing, needs_of, Notes, OfMemory, Shared, answer, no_faults, AreLawful, CanTake, begun, operated, shared_in, allocation_fault, Operation, allocating, found, is_power_of_two, operation, with_pick, Pointer}
use Rattle.std.proofs.lemmas.Bool.Decides.{nat_tests}
use Rattle.mr_mem.specs.Memory.{IsPowerOfTwo, Ranges, range_fault, with_range}
use Rattle.mr_mem.specs.declared.fault.PickFault.{PickFault}
use Rattle.mr_mem.specs.declared.fault.PickFault.TheVariants.{BadAddress, Reused}
use Rattle.mr_plan.specs.Legal.{address_fault}
use Rattle.mr_mem.proofs.Powers.{one_bit_power}
use Rattle.mr_ast.specs.declared.program.Intrinsic.TheVariants as intrinsic
use Rattle.mr_value.specs.declared.val.Val.TheVariants as val
use Rattle.mr_base.specs.Script.{Done, Undefined, Ask as Asks, ◌>>=◌, Refused, run}
use Rattle.mr_intr.proofs.Arguments.{allocate_takes, deallocate_takes, three_read, two_read}
use Rattle.mr_intr.proofs.OperatedLaws.{asked, int_number, operated_allocate, operated_deallocate}

-- ---- by the reason against it

module _ (size align : ℕ) where
  abbrev by_tests : Bool → Bool → Operation
  by_tests large power =
      if large then Undefined (plainly SizeTooLarge)
      else (if power then Done (with_pick (Address size align) (λ a. Asks (OfMemory (Allocate Heap size align a)) (λ p. Done (Some (val.Ptr p))))) else Undefined (plainly BadAlign))

  abbrev fault_by : Bool → Bool → Option Reason
  fault_by large power = if large then Some SizeTooLarge else (if power then None else Some BadAlign)

  pub allocation_refused : (picks : List ℕ) (w : Shared × Notes) (r : Reason) → allocation_fault size align ≡ Some r
      → run answer (allocating size align >>= λ plan. plan.go picks) w ≡ Refused (plainly r)
  allocation_refused picks w r e = by_cases (nat_lt (2 ^ 63 - 1) size) (is_power_of_two align) e
    where
      by_cases : (large power : Bool) → fault_by large power ≡ Some r → run answer (by_tests large power >>= λ plan. plan.go picks) w ≡ Refused (plainly r)
      by_cases true power h = cc
      by_cases false true h = absurd (cc)
      by_cases false false h = cc

  pub allocation_unplanned : (w : Shared × Notes) (r : Reason) → allocation_fault size align ≡ Some r → run answer (allocating size align) w ≡ Refused (plainly r)
  allocation_unplanned w r e = by_cases (nat_lt (2 ^ 63 - 1) size) (is_power_of_two align) e
    where
      by_cases : (large power : Bool) → fault_by large power ≡ Some r → run answer (by_tests large power) w ≡ Refused (plainly r)
      by_cases true power h = cc
      by_cases false true h = absurd (cc)
      by_cases false false h = cc

  pub record IsAllowed : Type 0 where
    pub small : size < 2 ^ 63
    pub power : IsPowerOfTwo align
    pub is : allocating size align ≡ by_tests false true

  pub allocation_allowed : allocation_fault size align ≡ None → IsAllowed
  allocation_allowed e = by_cases (nat_lt (2 ^ 63 - 1) size) (is_power_of_two align) refl refl e
    where
      small : nat_lt (2 ^ 63 - 1) size ≡ false → size < 2 ^ 63
      small h = grind (arith, nat_tests)

      by_cases : (large power : Bool) → nat_lt (2 ^ 63 - 1) size ≡ large → is_power_of_two align ≡ power → fault_by large power ≡ None → IsAllowed
      by_cases true power l p h = absurd (cc)
      by_cases false true l p h = record { small = small l; power = one_bit_power align p; is = λ i. by_tests (l i) (p i) }
      by_cases false false l p h = absurd (cc)

-- ---- the pick

-- an address that breaks no rule
no_fault : (o : Option PickFault) → address_fault o ≡ None → o ≡ None
no_fault None h = refl
no_fault (Some BadAddress) h = absurd (cc)
no_fault (Some (Reused id)) h = absurd (cc)

-- the address that a pick names
abbrev pub first : List ℕ → ℕ
first picks = get_or picks 0 0

pub record PicksAddress (rs : Ranges) (size align : ℕ) (picks : List ℕ) : Type 0 where
  pub is : picks ≡ first picks ∷ []
  pub lawful : range_fault rs (first picks) size align ≡ None

picks_address : (ss : List Status) (rs : Ranges) (t count size align : ℕ) (picks : List ℕ) → picks_fault ss rs t count (Address size align ∷ []) picks ≡ None → PicksAddress rs size align picks
picks_address ss rs t count size align [] h = absurd (cc)
picks_address ss rs t count size align (a ∷ []) h =
    let parts = no_faults (address_fault (range_fault rs a size align)) (picks_fault ss (with_range rs (record { thread = t; count = count }) a size) t (count + 1) [] []) h in
    record { is = refl; lawful = no_fault (range_fault rs a size align) parts.0 }
picks_address ss rs t count size align (a ∷ b ∷ picks) h =
    let parts = no_faults (address_fault (range_fault rs a size align)) (picks_fault ss (with_range rs (record { thread = t; count = count }) a size) t (count + 1) [] (b ∷ picks)) h in
    let q = parts.1 in
    absurd (cc)

-- a lawful allocation asks memory
pub allocation_asked : (size align : ℕ) (picks : List ℕ) (w : Shared × Notes) → IsAllowed size align → picks ≡ first picks ∷ []
    → run answer (allocating size align >>= λ plan. plan.go picks) w ≡ asked (Allocate Heap size align (first picks)) (λ p. Some (val.Ptr p)) w
allocation_asked size align picks w allowed is =
    ap (λ (o : Operation). run answer (o >>= λ plan. plan.go picks) w) allowed.is
    ∙ ap (λ (ps : List ℕ). run answer (by_tests size align false true >>= λ plan. plan.go ps) w) is

-- ---- with the arguments as they are read

module _ (args : List Val) (types : List Ty) (place : Option Ty) (picks : List ℕ) (w : Shared × Notes) where
  pub allocated : (size align : ℕ) → CanTake intrinsic.Allocate args → slice_get args 0 ≡ Some (val.Int size) → slice_get args 1 ≡ Some (val.Int align)
      → operated intrinsic.Allocate args types place picks w ≡ run answer (allocating size align >>= λ plan. plan.go picks) w
  allocated size align can first second =
      let takes = allocate_takes args can.types can.place can.fits in
      ap (λ (l : List Val). operated intrinsic.Allocate l types place picks w) (two_read args (val.Int takes.size) (val.Int takes.align) (val.Int size) (val.Int align) takes.is first second)
      ∙ operated_allocate types place picks w size align

  pub deallocated : (p : Pointer) (size align : ℕ) → CanTake intrinsic.Deallocate args → slice_get args 0 ≡ Some (val.Ptr p) → slice_get args 1 ≡ Some (val.Int size) → slice_get args 2 ≡ Some (val.Int align)
      → operated intrinsic.Deallocate args types place picks w ≡ asked (Free p Heap size align) (λ u. None) w
  deallocated p size align can first second third =
      let takes = deallocate_takes args can.types can.place can.fits in
      ap (λ (l : List Val). operated intrinsic.Deallocate l types place picks w)
      (three_read args (val.Ptr takes.pointer) (val.Int takes.size) (val.Int takes.align) (val.Ptr p) (val.Int size) (val.Int align) takes.is first second third)
      ∙ operated_deallocate types place picks w p size align

module _ (args : List Val) (size align : ℕ) (can : CanTake intrinsic.Allocate args) (first_is : slice_get args 0 ≡ Some (val.Int size)) (second_is : slice_get args 1 ≡ Some (val.Int align)) where
  args_are : args ≡ val.Int size ∷ val.Int align ∷ []
  args_are = let takes = allocate_takes args can.types can.place can.fits in two_read args (val.Int takes.size) (val.Int takes.align) (val.Int size) (val.Int align) takes.is first_is second_is

  pub allocation_planned : (types : List Ty) (place : Option Ty) → operation intrinsic.Allocate args types place ≡ allocating size align
  allocation_planned types place =
      ap (λ (l : List Val). operation intrinsic.Allocate l types place) args_are
      ∙ (λ i. found (int_number size i) >>= λ n. found (int_number align i) >>= λ a. allocating n a)

  pub allocation_picks : (types : List Ty) (place : Option Ty) (picks : List ℕ) (s : Scene) (x : Tables) → AreLawful intrinsic.Allocate args types place picks s x → IsAllowed size align
      → PicksAddress (ranges_of s.memory) size align picks
  allocation_picks types place picks s x lawful allowed =
      let faults = subst (λ (o : Operation). needs_fault (shared_in s x) s.thread s.count (needs_of (run answer o (begun s x))) picks ≡ None) (allocation_planned types place ∙ allowed.is) lawful in
      picks_address x.statuses (ranges_of s.memory) s.thread s.count size align picks (no_faults (creation_fault (shared_in s x) CreatesNothing) (picks_fault x.statuses (ranges_of s.memory) s.thread s.count (Address size align ∷ []) picks) faults).1
