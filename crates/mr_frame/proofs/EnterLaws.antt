-- Lawful picks give each local of a function that begins an allocation of its own, into which its argument can be stored.
use Rattle.mr_frame.proofs.Common.{◌≡◌, ◌≢◌, ℕ, suc, ◌+◌, refl, sym, ap, ◌∙◌, subst, arith, inl, inr, Bool, true, false, cond, List, [], ◌∷◌, ◌++◌, length, Option, None, Some, Ok, cases_eq, length-replicate, All-cons, All-head, All-nil, All-tail, same_Some, option_map, All, Result, map, ◌==◌, ◌||◌, ◌^◌, slice_get, reached_by, Stop, Function, Local, LocalName, Ty, AllocId, Pointer, align_of, size_of, TypeOk, Memory, allocated, fresh, range_fault, ranges_of, get_there, Val, encoding_of, has_shape, Outcome, Refused, Went, on, HaveShapes, next_id, answered, stored_typed, seen_of, with_seen, World, CanAllocate, CanBegin, allocated_each, stored_each, written_types, behind_first, first_frame, local_type, entered, stored_in, Frame, kept_locals, all_at}
use Rattle.std.specs.Prelude.{not, nat_lt}
use Rattle.mr_base.specs.declared.reached.Reaching.TheVariants.{Stores}
use Rattle.mr_base.specs.declared.byte.AbstractByte.TheVariants.{Uninit}
use Rattle.mr_base.specs.declared.reason.Reason.{Reason}
use Rattle.mr_mem.specs.Memory.{Allocation, Ranges, first_overlapped, is_bad_address, is_multiple, reused, written}
use Rattle.mr_mem.specs.declared.fault.PickFault.{PickFault}
use Rattle.mr_mem.specs.declared.fault.PickFault.TheVariants.{BadAddress}
use Rattle.mr_mem.proofs.Identities.{get_here}
use Rattle.mr_value.specs.Numbers.{Bytes}
use Rattle.mr_value.proofs.EncodeLength.{length-encoding_of}
use Rattle.mr_eval.specs.MemoryQueries.{pointer_to}
use Rattle.mr_eval.specs.Reads.{accessing, seeing, touching}
use Rattle.mr_plan.proofs.Headers.{Lasting}
use Rattle.mr_plan.proofs.IdentityCases.{id_cases}
use Rattle.mr_plan.proofs.RangeChecks.{Within, aligned_passes, ranged, ranged_empty, ranged_within}
use Rattle.std.specs.FinMap as fin
use Rattle.mr_base.specs.declared.byte.Kind.TheVariants.{Stack as OnStack}
use Rattle.mr_plan.proofs.StoreLaws.{put_one, rewritten, rewritten_size, stored_in as bytes_in, written_is}
use Rattle.mr_frame.specs.declared.look.Look.{Look as KeptLook}
use Rattle.mr_frame.proofs.BeginLaws.{entered_is, first_lawful, first_new, next_allocated, next_stored, none_allocated, none_stored, rest_can}
use Rattle.mr_frame.proofs.ChangeRuns.{store_tells}
use Rattle.mr_frame.proofs.Frames.{Keeps, function_keeps}
use Rattle.mr_frame.proofs.TypeRows.{first_there, none_there}

-- ---- what lies at the pointers of locals

-- a live allocation of the type's size, at a pointer that is aligned as the type
pub record Lies (m : Memory) (t : Ty) (p : Pointer) : Type 0 where
  pub id : AllocId
  pub prov : p.prov ≡ Some id
  pub alloc : Allocation
  pub there : fin.get m id ≡ Some alloc
  pub addr : alloc.addr ≡ p.addr
  pub live : alloc.live ≡ true
  pub size : length alloc.bytes ≡ size_of t
  pub multiple : is_multiple p.addr (align_of t) ≡ true

-- a value of each type can be stored at its pointer
abbrev pub AllLie : Memory → List Ty → List Pointer → Type 0
AllLie m [] [] = Unit {0}
AllLie m [] (p ∷ ps) = ⊥
AllLie m (t ∷ ts) [] = ⊥
AllLie m (t ∷ ts) (p ∷ ps) = Lies m t p × AllLie m ts ps

-- what lay in the one memory lies in the other
abbrev pub StillLies : Memory → Memory → Type 0
StillLies old new = (t : Ty) (p : Pointer) → Lies old t p → Lies new t p

pub all_still : (old new : Memory) → StillLies old new → (ts : List Ty) (ps : List Pointer) → AllLie old ts ps → AllLie new ts ps
all_still old new still [] [] h = tt
all_still old new still [] (p ∷ ps) h = h
all_still old new still (t ∷ ts) [] h = h
all_still old new still (t ∷ ts) (p ∷ ps) h = (still t p h.0, all_still old new still ts ps h.1)

-- ---- a new allocation

no_bad : (b : Bool) (o : Option PickFault) → cond b (Some BadAddress) o ≡ None → b ≡ false
no_bad true o h = absurd (cc)
no_bad false o h = refl

second_holds : (a b c : Bool) → (a || (not b || c)) ≡ false → b ≡ true
second_holds true b c h = absurd (cc)
second_holds false true c h = refl
second_holds false false c h = absurd (cc)

-- an address that may be picked is aligned
multiple_from : (rs : Ranges) (addr size align : ℕ) → range_fault rs addr size align ≡ None → is_multiple addr align ≡ true
unfolding range_fault
multiple_from rs addr size align h =
    second_holds (addr == 0) (is_multiple addr align) (nat_lt (2 ^ 64) (addr + size))
    (no_bad (is_bad_address addr size align) (reused (first_overlapped addr size rs)) h)

module _ (m : Memory) (id : AllocId) (new : fin.get m id ≡ None) (size align addr : ℕ) where
  abbrev with_new : Memory
  with_new = allocated m id OnStack size align addr

  other : (t : Ty) (p : Pointer) (l : Lies m t p) → l.id ≢ id
  other t p l same = absurd (let none : None ≡ Some l.alloc = sym new ∙ ap (fin.get m) (sym same) ∙ l.there in absurd (cc))

  new_apart : StillLies m with_new
  new_apart t p l = record {
    id = l.id;
    prov = l.prov;
    alloc = l.alloc;
    there = get_there m id (fresh OnStack size align addr) l.id (other t p l) ∙ l.there;
    addr = l.addr;
    live = l.live;
    size = l.size;
    multiple = l.multiple;
  }

-- Each of these types has storage of its own in a memory.
pub record Made (types : List Ty) (picks : List ℕ) (w : World) : Type 0 where
  pub pointers : List Pointer
  pub world : World
  pub is : allocated_each types picks w ≡ Went pointers world
  pub lie : AllLie world.0 types pointers
  pub still : StillLies w.0 world.0

-- one more of them
module _ (t : Ty) (types : List Ty) (a : ℕ) (picks : List ℕ) (w : World) (can : CanAllocate (t ∷ types) (a ∷ picks) w) where
  abbrev first_pointer : Pointer
  first_pointer = pointer_to (next_id w.1) a

  abbrev first_world : World
  first_world = (allocated w.0 (next_id w.1) OnStack (size_of t) (align_of t) a, record w.1 { made = w.1.made ++ next_id w.1 ∷ []; ranges = w.1.ranges ++ (a, size_of t) ∷ []; count = w.1.count + 1 })

  first_lies : Lies first_world.0 t first_pointer
  first_lies = record {
    id = next_id w.1;
    prov = refl;
    alloc = fresh OnStack (size_of t) (align_of t) a;
    there = get_here w.0 (next_id w.1) (fresh OnStack (size_of t) (align_of t) a);
    addr = refl;
    live = refl;
    size = length-replicate (size_of t) Uninit;
    multiple = multiple_from (ranges_of w.0) a (size_of t) (align_of t) (first_lawful t types a picks w can);
  }

  rest_allocates : CanAllocate types picks first_world
  rest_allocates = rest_can t types a picks w can first_pointer first_world refl

  made_more : Made types picks first_world → Made (t ∷ types) (a ∷ picks) w
  made_more rest = record {
    pointers = first_pointer ∷ rest.pointers;
    world = rest.world;
    is = next_allocated t types a picks w can first_pointer first_world refl ∙ ap (λ (o : Outcome (List Pointer) World). on o (λ ps u. Went (first_pointer ∷ ps) u)) rest.is;
    lie = (rest.still t first_pointer first_lies, rest.lie);
    still = λ u q l. rest.still u q (new_apart w.0 (next_id w.1) (first_new t types a picks w can) (size_of t) (align_of t) a u q l);
  }

-- LAWFUL PICKS MAKE storage of each type
pub made : (types : List Ty) (picks : List ℕ) (w : World) → CanAllocate types picks w → Made types picks w
made [] [] w can = record { pointers = []; world = w; is = none_allocated w; lie = tt; still = λ t p l. l }
made [] (a ∷ picks) w can = absurd (let l = can.lawful in absurd (cc))
made (t ∷ types) [] w can = absurd (let l = can.lawful in absurd (cc))
made (t ∷ types) (a ∷ picks) w can = made_more t types a picks w can (made types picks (first_world t types a picks w can) (rest_allocates t types a picks w can))

lie_many : (m : Memory) (ts : List Ty) (ps : List Pointer) → AllLie m ts ps → length ps ≡ length ts
lie_many m [] [] h = refl
lie_many m [] (p ∷ ps) h = absurd h
lie_many m (t ∷ ts) [] h = absurd h
lie_many m (t ∷ ts) (p ∷ ps) h = ap suc (lie_many m ts ps h.1)

-- as many pointers as types
pub allocated_many : (types : List Ty) (picks : List ℕ) (w : World) → CanAllocate types picks w → (ps : List Pointer) (v : World) → allocated_each types picks w ≡ Went ps v → length ps ≡ length types
allocated_many types picks w can ps v e =
    let all = made types picks w can in
    ap length (pointers_same (sym e ∙ all.is)) ∙ lie_many all.world.0 types all.pointers all.lie
  where
    pointers_same : {qs : List Pointer} {u : World} → Went ps v ≡ Went qs u → ps ≡ qs
    pointers_same h = cc

-- ---- a store

-- a store of bytes that can be made, behind which all lie as before
pub record Stored (m : Memory) (p : Pointer) (ys : Bytes) (align : ℕ) : Type 0 where
  pub new : Memory
  pub is : written m p ys align ≡ Ok new
  pub still : StillLies m new

-- all lie where one allocation has other bytes
module _ (m : Memory) (id : AllocId) (a b : Allocation) (there : fin.get m id ≡ Some a) (lasting : Lasting a b) (live : a.live ≡ b.live) where
  bytes_still : StillLies m (fin.insert m id b)
  bytes_still t p l = elim (id_cases l.id id) [
    | inl e ↦
        let was : l.alloc ≡ a = same_Some _ _ (sym l.there ∙ ap (fin.get m) e ∙ there) in
        record {
          id = l.id;
          prov = l.prov;
          alloc = b;
          there = ap (fin.get (fin.insert m id b)) e ∙ get_here m id b;
          addr = sym lasting.addr ∙ ap (λ (w : Allocation). w.addr) (sym was) ∙ l.addr;
          live = sym live ∙ ap (λ (w : Allocation). w.live) (sym was) ∙ l.live;
          size = sym lasting.size ∙ ap (λ (w : Allocation). length w.bytes) (sym was) ∙ l.size;
          multiple = l.multiple;
        }
    | inr d ↦ record { id = l.id; prov = l.prov; alloc = l.alloc; there = get_there m id b l.id d ∙ l.there; addr = l.addr; live = l.live; size = l.size; multiple = l.multiple }
  ]

module _ (m : Memory) (t : Ty) (p : Pointer) (l : Lies m t p) (ys : Bytes) (size : length ys ≡ size_of t) where
  checks : written m p ys (align_of t) ≡ ranged m p (length ys) m (bytes_in m p ys)
  checks = written_is m p ys (align_of t) ∙ aligned_passes p (align_of t) (ranged m p (length ys) m (bytes_in m p ys)) l.multiple

  lies_within : Within m p (length ys) l.id l.alloc
  lies_within =
      let at = l.addr in
      let long = l.size in
      record { prov = l.prov; there = l.there; range = record { live = l.live; from = omega arith; to = omega arith } }

  bytes_stored : Stored m p ys (align_of t)
  bytes_stored = elim (cases_eq (length ys) 0) [
    | inl z ↦ record { new = m; is = checks ∙ ranged_empty m p (length ys) m (bytes_in m p ys) z; still = λ u q h. h }
    | inr n ↦
        let w = lies_within in
        let b = rewritten l.alloc p.addr ys in
        record {
          new = fin.insert m l.id b;
          is = checks ∙ ranged_within m p (length ys) m (bytes_in m p ys) l.id l.alloc n w ∙ ap (λ o. Ok (put_one m o b)) l.prov;
          still = bytes_still m l.id l.alloc b l.there
              (record { addr = refl; span = refl; align = refl; kind = refl; size = sym (rewritten_size l.alloc p.addr ys w.range.from w.range.to) }) refl;
        }
  ]

-- ---- stores of values

-- a value stored
pub record ValueStored (t : Ty) (p : Pointer) (v : Val) (w : World) : Type 0 where
  pub world : World
  pub is : stored_in t p v w ≡ Went tt world
  pub still : StillLies w.0 world.0

value_stored : (t : Ty) (p : Pointer) (v : Val) (w : World) → TypeOk t → Lies w.0 t p → has_shape t v ≡ true → ValueStored t p v w
unfolding stored_typed
value_stored t p v w ok lies shape =
    let ys = encoding_of t v in
    let stored = bytes_stored w.0 t p lies ys (length-encoding_of t ok v shape) in
    let seen = seeing (accessing true false p (length ys)) (touching p (length ys)) (seen_of w.1) in
    record {
      world = (stored.new, with_seen w.1 seen);
      is = store_tells (Ok tt) t p v w stored.new seen None shape (ap (λ (r : Result Memory Reason). answered (reached_by Stores p (length (encoding_of t v))) r (λ new. Went new seen)) stored.is);
      still = stored.still;
    }

-- each value stored
pub record AllStored (ts : List Ty) (ps : List Pointer) (vs : List Val) (w : World) : Type 0 where
  pub world : World
  pub is : stored_each ts ps vs w ≡ Went tt world

pub all_stored : (ts : List Ty) (ps : List Pointer) (vs : List Val) (w : World) → All TypeOk ts → AllLie w.0 ts ps → HaveShapes ts vs → AllStored ts ps vs w
all_stored [] [] [] w ok lie shapes = record { world = w; is = none_stored w }
all_stored [] [] (v ∷ vs) w ok lie shapes = absurd shapes
all_stored [] (p ∷ ps) vs w ok lie shapes = absurd lie
all_stored (t ∷ ts) [] vs w ok lie shapes = absurd lie
all_stored (t ∷ ts) (p ∷ ps) [] w ok lie shapes = absurd shapes
all_stored (t ∷ ts) (p ∷ ps) (v ∷ vs) w ok lie shapes =
    let first = value_stored t p v w (All-head TypeOk t ts ok) lie.0 shapes.0 in
    let rest = all_stored ts ps vs first.world (All-tail TypeOk t ts ok) (all_still w.0 first.world.0 first.still ts ps lie.1) shapes.1 in
    record { world = rest.world; is = next_stored t ts p ps v vs w first.world first.is ∙ rest.is }

-- ---- the start of a function

-- the local that has a type
local_there : (o : Option Local) (t : Ty) → option_map (λ (l : Local). l.ty) o ≡ Some t → (l : Local) × (o ≡ Some l) × (l.ty ≡ t)
local_there None t e = absurd (cc)
local_there (Some l) t e = (l, refl, same_Some l.ty t e)

-- the types of locals break no rule
row_ok : (fn : Function) → All (λ (l : Local). TypeOk l.ty) fn.locals → (names : List LocalName) (types : List Ty) → written_types fn names ≡ Some types → All TypeOk types
row_ok fn ok [] types e = subst (λ (ts : List Ty). All TypeOk ts) (sym (none_there types e)) (All-nil TypeOk)
row_ok fn ok (x ∷ names) types e =
    let f = first_there (local_type fn x) (map (local_type fn) names) types e in
    let l = local_there (slice_get fn.locals x.0) f.first f.here in
    let here = subst TypeOk l.2 (all_at (λ (k : Local). TypeOk k.ty) fn.locals x.0 l.0 ok l.1) in
    subst (λ (ts : List Ty). All TypeOk ts) (sym f.is) (All-cons TypeOk f.first f.rest here (row_ok fn ok names f.rest f.behind))

ok_behind : (ts : List Ty) → All TypeOk ts → All TypeOk (behind_first ts)
ok_behind [] h = h
ok_behind (t ∷ ts) h = All-tail TypeOk t ts h

lie_behind : (m : Memory) (ts : List Ty) (ps : List Pointer) → AllLie m ts ps → AllLie m (behind_first ts) (behind_first ps)
lie_behind m [] [] h = tt
lie_behind m [] (p ∷ ps) h = absurd h
lie_behind m (t ∷ ts) [] h = absurd h
lie_behind m (t ∷ ts) (p ∷ ps) h = h.1

module _ (look : KeptLook) (number : ℕ) (vs : List Val) (picks : List ℕ) (w : World) (can : CanBegin look number vs picks w) where
  kept : Keeps look.program.now can.function
  kept = function_keeps look.program.now can.ready.well number can.function can.there

  -- A FUNCTION THAT CAN BEGIN does
  pub enters : (f : Frame) × (v : World) × (entered number (slice_get look.program.now.functions number) vs picks w ≡ Went f v)
  enters =
      let storage = made can.types picks w can.allocates in
      let ok = ok_behind can.types (row_ok can.function kept.unbroken.locals (kept_locals can.function) can.types can.typed) in
      let last = all_stored (behind_first can.types) (behind_first storage.pointers) vs storage.world ok (lie_behind storage.world.0 can.types storage.pointers storage.lie) can.shapes in
      let f = first_frame number can.function storage.pointers in (
        f,
        last.world,
        ap (λ (o : Option Function). entered number o vs picks w) can.there
            ∙ entered_is number can.function can.types vs picks w can.typed kept.unbroken.first
            ∙ ap (λ (o : Outcome (List Pointer) World). on o (λ ps u. on (stored_each (behind_first can.types) (behind_first ps) vs u) (λ _ x. Went (first_frame number can.function ps) x))) storage.is
            ∙ ap (λ (o : Outcome (Unit {0}) World). on o (λ _ x. Went f x)) last.is,
      )

  pub not_refused : (r : Stop) → entered number (slice_get look.program.now.functions number) vs picks w ≡ Refused r → ⊥
  not_refused r e = let both = sym e ∙ enters.2 in cc
