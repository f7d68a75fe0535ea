-- Behind a legal start line the bytes of each global can be stored.
use Rattle.mr_start.proofs.Common.{◌≡◌, ℕ, ◌+◌, ◌<◌, ◌≤◌, refl, sym, ap, ◌∙◌, subst, inl, inr, List, [], ◌∷◌, ◌++◌, length, map, take, drop, cond, arith, length-append, cases_eq, ltb-false, or_parts, length-map, same_Some, length-replicate, ◌^◌, ◌==◌, Option, Some, None, Ok, Bool, true, false, not, ◌||◌, nat_lt, slice_get, AllocId, Pointer, Enabled, Global_, Program, Allocation, Memory, Ranges, allocated, first_overlapped, fresh, id_cmp, is_bad_address, is_multiple, range_fault, reused, with_range, written, get_here, get_there, item_size, items_size, behind, address_fault, picks_fault, Piece, ask_of, behind_store, filled, function_piece, global_bytes, global_piece, item_bytes, look_of, pieces, placed, return_piece, start_fault, start_memory, start_placed, no_faults, put_one, rewritten, rewritten_size, stored_in, written_is}
use Rattle.mr_base.specs.declared.byte.AbstractByte.TheVariants.{Init, Uninit}
use Rattle.mr_base.specs.declared.byte.Kind.{Kind}
use Rattle.mr_ast.specs.declared.program.Item_.{Item_}
use Rattle.mr_mem.specs.Memory.{held}
use Rattle.mr_mem.specs.declared.fault.PickFault.{PickFault}
use Rattle.mr_mem.specs.declared.fault.PickFault.TheVariants.{BadAddress, Reused}
use Rattle.mr_value.specs.Numbers.{Bytes}
use Rattle.mr_value.proofs.EncodeLength.{length-initialised}
use Rattle.mr_start.specs.Start.{CanBeFilled, IsWholeStart, pointer_behind, target_of}
use Rattle.mr_frame.proofs.PlanHeaders.{Lasting}
use Rattle.mr_frame.proofs.PlanIdentityCases.{id_cases}
use Rattle.mr_frame.proofs.PlanRangeChecks.{Within, aligned_passes, ranged, ranged_empty, ranged_within}
use Rattle.std.specs.FinMap as fin
use Rattle.mr_ast.specs.declared.program.Item_.TheVariants as item
use Rattle.mr_start.proofs.Overlaps.{id_of}

-- all identities are of thread 0, and counted
abbrev pub AreCounted : Memory → ℕ → Type 0
AreCounted m count = (id : AllocId) (a : Allocation) → fin.get m id ≡ Some a → (id.thread ≡ 0) × (id.count < count)

-- ---- what lies at the pointers of a start

-- a live allocation of the piece's size, at a pointer that is aligned as the piece
pub record Lies (m : Memory) (piece : Piece) (p : Pointer) : Type 0 where
  pub id : AllocId
  pub prov : p.prov ≡ Some id
  pub alloc : Allocation
  pub there : fin.get m id ≡ Some alloc
  pub addr : alloc.addr ≡ p.addr
  pub live : alloc.live ≡ true
  pub size : length alloc.bytes ≡ held piece.kind piece.size
  pub kind : alloc.kind ≡ piece.kind
  pub aligned : alloc.align ≡ piece.align
  pub multiple : is_multiple p.addr piece.align ≡ true

-- each piece lies at its pointer
abbrev pub AllLie : Memory → List Piece → List Pointer → Type 0
AllLie m [] ps = Unit {0}
AllLie m (x ∷ xs) [] = ⊥
AllLie m (x ∷ xs) (p ∷ ps) = Lies m x p × AllLie m xs ps

-- those of the pieces in front, and of those behind
lie_split : (m : Memory) (xs ys : List Piece) (ps : List Pointer) → AllLie m (xs ++ ys) ps → AllLie m xs (take (length xs) ps) × AllLie m ys (drop (length xs) ps)
lie_split m [] ys ps h = (tt, h)
lie_split m (x ∷ xs) ys [] h = absurd h
lie_split m (x ∷ xs) ys (p ∷ ps) h = let r = lie_split m xs ys ps h.1 in ((h.0, r.0), r.1)

-- they lie where one allocation has other bytes
module _ (m : Memory) (id : AllocId) (a b : Allocation) (there : fin.get m id ≡ Some a) (lasting : Lasting a b) (live : a.live ≡ b.live) where
  same_lies : (x : Piece) (p : Pointer) → Lies m x p → Lies (fin.insert m id b) x p
  same_lies x p l = elim (id_cases l.id id) [
    | inl e ↦
        let was : l.alloc ≡ a = same_Some _ _ (sym l.there ∙ ap (fin.get m) e ∙ there) in
        record {
          id = l.id;
          prov = l.prov;
          alloc = b;
          there = ap (fin.get (fin.insert m id b)) e ∙ get_here m id b;
          addr = sym lasting.addr ∙ ap (λ (w : Allocation). w.addr) (sym was) ∙ l.addr;
          live = sym live ∙ ap (λ (w : Allocation). w.live) (sym was) ∙ l.live;
          size = sym lasting.size ∙ ap (λ (w : Allocation). length w.bytes) (sym was) ∙ l.size;
          kind = sym lasting.kind ∙ ap (λ (w : Allocation). w.kind) (sym was) ∙ l.kind;
          aligned = sym lasting.align ∙ ap (λ (w : Allocation). w.align) (sym was) ∙ l.aligned;
          multiple = l.multiple;
        }
    | inr d ↦ record { id = l.id; prov = l.prov; alloc = l.alloc; there = get_there m id b l.id d ∙ l.there; addr = l.addr; live = l.live; size = l.size; kind = l.kind; aligned = l.aligned; multiple = l.multiple }
  ]

  pub all_lie_still : (xs : List Piece) (ps : List Pointer) → AllLie m xs ps → AllLie (fin.insert m id b) xs ps
  all_lie_still [] ps h = tt
  all_lie_still (x ∷ xs) [] h = h
  all_lie_still (x ∷ xs) (p ∷ ps) h = (same_lies x p h.0, all_lie_still xs ps h.1)

-- ---- what the picks make

-- later allocations leave those of earlier identities
placed_keeps : (m : Memory) (count : ℕ) (xs : List Piece) (picks : List ℕ) (q : AllocId) → q.count < count → fin.get (placed m count xs picks).memory q ≡ fin.get m q
placed_keeps m count [] picks q below = refl
placed_keeps m count (x ∷ xs) [] q below = refl
placed_keeps m count (x ∷ xs) (addr ∷ picks) q below =
    placed_keeps (allocated m (id_of 0 count) x.kind x.size x.align addr) (count + 1) xs picks q (omega arith)
    ∙ get_there m (id_of 0 count) (fresh x.kind x.size x.align addr) q (λ e. let k : q.count ≡ count = ap (λ (i : AllocId). i.count) e in omega arith)

pub lawful_address : (o : Option PickFault) → address_fault o ≡ None → o ≡ None
lawful_address None h = refl
lawful_address (Some BadAddress) h = absurd (cc)
lawful_address (Some (Reused id)) h = absurd (cc)

no_bad : (b : Bool) (o : Option PickFault) → cond b (Some BadAddress) o ≡ None → b ≡ false
no_bad true o h = absurd (cc)
no_bad false o h = refl

second_holds : (a b c : Bool) → (a || (not b || c)) ≡ false → b ≡ true
second_holds true b c h = absurd (cc)
second_holds false true c h = refl
second_holds false false c h = absurd (cc)

multiple_from : (rs : Ranges) (addr size align : ℕ) → range_fault rs addr size align ≡ None → is_multiple addr align ≡ true
unfolding range_fault
multiple_from rs addr size align h =
    second_holds (addr == 0) (is_multiple addr align) (nat_lt (2 ^ 64) (addr + size))
    (no_bad (is_bad_address addr size align) (reused (first_overlapped addr size rs)) h)

third_fails : (a b c : Bool) → (a || (not b || c)) ≡ false → c ≡ false
third_fails a b c h = (or_parts (not b) c (or_parts a (not b || c) h).1).1

-- and its range ends where the addresses do or before
pub low_range : (rs : Ranges) (addr size align : ℕ) → range_fault rs addr size align ≡ None → addr + size ≤ 2 ^ 64
unfolding range_fault
low_range rs addr size align h =
    ltb-false (2 ^ 64) (addr + size)
    (third_fails (addr == 0) (is_multiple addr align) (nat_lt (2 ^ 64) (addr + size))
    (no_bad (is_bad_address addr size align) (reused (first_overlapped addr size rs)) h))

-- picks that break no rule place each piece
placed_lie : (m : Memory) (rs : Ranges) (count : ℕ) (xs : List Piece) (picks : List ℕ) → picks_fault (Enabled ∷ []) rs 0 count (map ask_of xs) picks ≡ None
    → AllLie (placed m count xs picks).memory xs (placed m count xs picks).pointers
placed_lie m rs count [] picks h = tt
placed_lie m rs count (x ∷ xs) [] h = absurd (cc)
placed_lie m rs count (x ∷ xs) (addr ∷ picks) h =
    let new = allocated m (id_of 0 count) x.kind x.size x.align addr in
    let parts = no_faults (address_fault (range_fault rs addr x.size x.align)) _ h in (
      record {
        id = id_of 0 count;
        prov = refl;
        alloc = fresh x.kind x.size x.align addr;
        there = placed_keeps new (count + 1) xs picks (id_of 0 count) (omega arith) ∙ get_here m (id_of 0 count) (fresh x.kind x.size x.align addr);
        addr = refl;
        live = refl;
        size = length-replicate (held x.kind x.size) Uninit;
        kind = refl;
        aligned = refl;
        multiple = multiple_from rs addr x.size x.align (lawful_address (range_fault rs addr x.size x.align) parts.0);
      },
      placed_lie new (with_range rs (id_of 0 count) addr x.size) (count + 1) xs picks parts.1,
    )

-- ---- identities are counted

pub none_counted : AreCounted fin.empty 0
none_counted id a h = let none : fin.get fin.empty id ≡ None = fin.get-empty id_cmp id in absurd (not_both none h)
  where
    not_both : {x : Option Allocation} → x ≡ None → x ≡ Some a → ⊥
    not_both n s = cc

counted_more : (m : Memory) (a b : ℕ) → a ≤ b → AreCounted m a → AreCounted m b
counted_more m a b le h = λ id x g. ((h id x g).0, let lt = (h id x g).1 in omega arith)

pub counted_allocated : (m : Memory) (count : ℕ) (kind : Kind) (size align addr : ℕ) → AreCounted m count → AreCounted (allocated m (id_of 0 count) kind size align addr) (count + 1)
counted_allocated m count kind size align addr h id a g = elim (id_cases id (id_of 0 count)) [
  | inl e ↦ (ap (λ (i : AllocId). i.thread) e, let k : id.count ≡ count = ap (λ (i : AllocId). i.count) e in omega arith)
  | inr d ↦
      let k = h id a (sym (get_there m (id_of 0 count) (fresh kind size align addr) id d) ∙ g) in
      (k.0, let lt = k.1 in omega arith)
]

pub placed_counted : (m : Memory) (count : ℕ) (ps : List Piece) (picks : List ℕ) → AreCounted m count → AreCounted (placed m count ps picks).memory (count + length ps)
placed_counted m count [] picks h = counted_more m count (count + 0) (omega arith) h
placed_counted m count (p ∷ ps) [] h = counted_more m count (count + length (p ∷ ps)) (omega arith) h
placed_counted m count (p ∷ ps) (addr ∷ picks) h =
    let new = allocated m (id_of 0 count) p.kind p.size p.align addr in
    let k = placed_counted new (count + 1) ps picks (counted_allocated m count p.kind p.size p.align addr h) in
    counted_more (placed new (count + 1) ps picks).memory (count + 1 + length ps) (count + length (p ∷ ps)) (omega arith) k

-- ---- the bytes of globals

length_behind : (o : Option Pointer) (offset : ℕ) → length (pointer_behind o offset) ≡ 8
length_behind None offset = length-replicate 8 Uninit
length_behind (Some p) offset = length-initialised p.prov 8 (behind p offset).addr

pub length_item : (functions globals : List Pointer) (i : Item_) → length (item_bytes functions globals i) ≡ item_size i
length_item functions globals (item.Byte b count) = length-replicate count (Init b None)
length_item functions globals (item.Uninit count) = length-replicate count Uninit
length_item functions globals (item.Reloc to offset) = length_behind (target_of functions globals to) offset

pub length_items : (functions globals : List Pointer) (is : List Item_) → length (global_bytes functions globals is) ≡ items_size is
length_items functions globals [] = refl
length_items functions globals (i ∷ is) =
    length-append (item_bytes functions globals i) (global_bytes functions globals is)
    ∙ ap (λ n. n + length (global_bytes functions globals is)) (length_item functions globals i)
    ∙ ap (λ n. item_size i + n) (length_items functions globals is)

-- ---- the stores

put_counted : (m : Memory) (id : AllocId) (a b : Allocation) → fin.get m id ≡ Some a → (count : ℕ) → AreCounted m count → AreCounted (fin.insert m id b) count
put_counted m id a b there count h q x g = elim (id_cases q id) [
  | inl e ↦ h q a (ap (fin.get m) e ∙ there)
  | inr d ↦ h q x (sym (get_there m id b q d) ∙ g)
]

-- a store that can be made, behind which all lie as before
pub record Stored (m : Memory) (p : Pointer) (ys : Bytes) (align : ℕ) : Type 0 where
  pub new : Memory
  pub is : written m p ys align ≡ Ok new
  pub still : (xs : List Piece) (ps : List Pointer) → AllLie m xs ps → AllLie new xs ps
  pub counted : (count : ℕ) → AreCounted m count → AreCounted new count

module _ (m : Memory) (x : Piece) (p : Pointer) (l : Lies m x p) (ys : Bytes) (size : length ys ≡ held x.kind x.size) where
  checks : written m p ys x.align ≡ ranged m p (length ys) m (stored_in m p ys)
  checks = written_is m p ys x.align ∙ aligned_passes p x.align (ranged m p (length ys) m (stored_in m p ys)) l.multiple

  lies_within : Within m p (length ys) l.id l.alloc
  lies_within =
      let at = l.addr in
      let long = l.size in
      record { prov = l.prov; there = l.there; range = record { live = l.live; from = omega arith; to = omega arith } }

  stored : Stored m p ys x.align
  stored = elim (cases_eq (length ys) 0) [
    | inl z ↦ record { new = m; is = checks ∙ ranged_empty m p (length ys) m (stored_in m p ys) z; still = λ xs ps h. h; counted = λ count h. h }
    | inr n ↦
        let w = lies_within in
        let b = rewritten l.alloc p.addr ys in
        record {
          new = fin.insert m l.id b;
          is = checks ∙ ranged_within m p (length ys) m (stored_in m p ys) l.id l.alloc n w ∙ ap (λ o. Ok (put_one m o b)) l.prov;
          still = all_lie_still m l.id l.alloc b l.there
              (record { addr = refl; span = refl; align = refl; kind = refl; size = sym (rewritten_size l.alloc p.addr ys w.range.from w.range.to) }) refl;
          counted = λ count h. put_counted m l.id l.alloc b l.there count h;
        }
  ]

all_stored : (functions globals : List Pointer) (m : Memory) (gs : List Global_) (ps : List Pointer) → AllLie m (map global_piece gs) ps → CanBeFilled functions globals m gs ps
all_stored functions globals m [] ps h = tt
all_stored functions globals m (g ∷ gs) [] h = h
all_stored functions globals m (g ∷ gs) (p ∷ ps) h =
    let s = stored m (global_piece g) p h.0 (global_bytes functions globals g.items) (length_items functions globals g.items) in
    (s.new, s.is, all_stored functions globals s.new gs ps (s.still (map global_piece gs) ps h.1))

-- what the stores keep
pub all_kept : (functions globals : List Pointer) (m : Memory) (gs : List Global_) (ps : List Pointer) (count : ℕ) (xs : List Piece) (qs : List Pointer) → AllLie m (map global_piece gs) ps
    → AreCounted m count → AllLie m xs qs → AreCounted (filled functions globals m gs ps) count × AllLie (filled functions globals m gs ps) xs qs
all_kept functions globals m [] ps count xs qs h counted lie = (counted, lie)
all_kept functions globals m (g ∷ gs) [] count xs qs h counted lie = absurd h
all_kept functions globals m (g ∷ gs) (p ∷ ps) count xs qs h counted lie =
    let bytes = global_bytes functions globals g.items in
    let s = stored m (global_piece g) p h.0 bytes (length_items functions globals g.items) in
    let after : Memory → Type 0 = λ d. AreCounted (filled functions globals d gs ps) count × AllLie (filled functions globals d gs ps) xs qs in
    subst (λ r. after (behind_store m r)) (sym s.is)
    (all_kept functions globals s.new gs ps count xs qs (s.still (map global_piece gs) ps h.1) (s.counted count counted) (s.still xs qs lie))

-- ---- a legal start

module _ (p : Program) (picks : List ℕ) (legal : start_fault p picks ≡ None) where
  abbrev made : Memory
  made = (start_placed p picks).memory

  abbrev pointers : List Pointer
  pointers = (start_placed p picks).pointers

  abbrev last : List Piece
  last = return_piece (slice_get p.functions p.start.0)

  behind_functions : AllLie made (map global_piece p.globals ++ last) (drop (length p.functions) pointers)
  unfolding start_fault
  behind_functions =
      let functions = map function_piece p.functions in
      let all : AllLie made (functions ++ (map global_piece p.globals ++ last)) pointers = placed_lie fin.empty [] 0 (pieces p) picks legal in
      subst (λ n. AllLie made (map global_piece p.globals ++ last) (drop n pointers)) (length-map p.functions function_piece)
      (lie_split made functions (map global_piece p.globals ++ last) pointers all).1

  globals_lie : AllLie made (map global_piece p.globals) (look_of p picks).globals
  unfolding look_of
  globals_lie =
      subst (λ n. AllLie made (map global_piece p.globals) (take n (drop (length p.functions) pointers))) (length-map p.globals global_piece)
      (lie_split made (map global_piece p.globals) last (drop (length p.functions) pointers) behind_functions).0

  last_lies : AllLie made last (drop (length p.globals) (drop (length p.functions) pointers))
  last_lies =
      subst (λ n. AllLie made last (drop n (drop (length p.functions) pointers))) (length-map p.globals global_piece)
      (lie_split made (map global_piece p.globals) last (drop (length p.functions) pointers) behind_functions).1

  -- EACH STORE CAN BE MADE
  pub start_is_whole : IsWholeStart p picks
  start_is_whole = all_stored (look_of p picks).functions (look_of p picks).globals made p.globals (look_of p picks).globals globals_lie

  made_counted : AreCounted made (length (pieces p))
  made_counted =
      let same : 0 + length (pieces p) ≡ length (pieces p) = omega arith in
      subst (AreCounted made) same (placed_counted fin.empty 0 (pieces p) picks none_counted)

  -- all identities are counted behind them, and the return local lies where it was
  pub start_kept : AreCounted (start_memory p picks) (length (pieces p)) × AllLie (start_memory p picks) last (drop (length p.globals) (drop (length p.functions) pointers))
  start_kept =
      all_kept (look_of p picks).functions (look_of p picks).globals made p.globals (look_of p picks).globals (length (pieces p)) last (drop (length p.globals) (drop (length p.functions) pointers))
      globals_lie made_counted last_lies
