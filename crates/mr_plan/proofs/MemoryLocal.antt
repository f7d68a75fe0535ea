-- Each query to memory is local: where the places that it reads are the same, it answers the same and changes the same. And two memories
-- with the same at each place are one.
use Rattle.mr_plan.proofs.Common.{◌≡◌, ℕ, ◌+◌, ◌-◌, ◌<◌, ◌≤◌, refl, sym, ap, ◌∙◌, subst, subst₂, List, [], ◌∷◌, ◌++◌, inl, inr, Option, Some, None, Ok, Bool, true, false, length, take, drop, arith, slice_get, Any, Contains, cases_lt, Contains-append_left, Contains-append_right, Contains-push, Moves, Refers, AbstractByte, AllocId, Kind, Pointer, DanglingReference, Went, Allocation, Memory, allocated, bytes_at, checked, free_fault, fresh, is_multiple, read, written, Check, Read, Refer, accessing, named, touching, Allocate, Free, MemoryQuery, MemoryReply, Modify, Reading, Write, memory_answer, next_id, number_bytes, Tally, AtMemory, ByteAt, Covers, HeaderOf, MemoryPlace, ReadsMemory, StoresAt, WritesMemory, byte_at, header_of, in_memory}
use Rattle.mr_base.proofs.ScriptSwaps.{IsLocal}
use Rattle.mr_mem.proofs.Identities.{id_exact, id_total}
use Rattle.mr_eval.proofs.ValueEncodeLength.{length-initialised}
use Rattle.std.specs.FinMap as fin
use Rattle.mr_plan.proofs.ElementLaws.{Any-append_right}
use Rattle.mr_plan.proofs.FreeLaws.{dead, dead_like, free_fault_like, frees, frees_too}
use Rattle.mr_plan.proofs.Headers.{Like, like_header, like_one}
use Rattle.mr_plan.proofs.ListPlaces.{same_by_places, same_part}
use Rattle.mr_plan.proofs.MemoryAnswers.{Modifies, Replaces, changes, check_went, checks, ends, free_went, load_went, loads, modify_goes, modify_went, refer_went, stays, store_went, stores, with_change, with_check, with_freed, with_load, with_made, with_store}
use Rattle.mr_plan.proofs.MemoryMoves.{MovesAt, insert_moves}
use Rattle.mr_plan.proofs.RangeChecks.{Both, GivesToo, Within, accesses_range, aligned_ok, aligned_passes, both_empty, both_filled, gives_too, ranged, stores_range, touches}
use Rattle.mr_plan.proofs.StoreLaws.{byte_inside, put_one, rewritten, rewritten_above, rewritten_below, rewritten_header, rewritten_in, stored_in, written_is}
use Rattle.mr_plan.proofs.TallyGrows.{grow_seeing, reads_grow}
use Rattle.mr_plan.proofs.WentLaws.{at_outcome}

abbrev pub MemoryAgrees : Memory → Memory → Tally → Type 0
MemoryAgrees m m' n = (o : MemoryPlace) → ReadsMemory n o → in_memory m o ≡ in_memory m' o

-- from a memory that agrees, the same is answered, and memory moves alike
record FollowsIn (q : MemoryQuery) (m m' t : Memory) (n n' : Tally) (x : MemoryReply q) : Type 0 where
  after : Memory
  goes : memory_answer q (m', n) ≡ Went x (after, n')
  moves : (o : MemoryPlace) → MovesAt m t m' after n' o

-- it is so of this query
abbrev IsLocalQuery : MemoryQuery → Type 0
IsLocalQuery q = (m m' t : Memory) (n n' : Tally) (x : MemoryReply q) → memory_answer q (m, n) ≡ Went x (t, n') → MemoryAgrees m m' n' → FollowsIn q m m' t n n' x

-- ---- loads and range checks

-- allocations that are alike and have the same bytes at the addresses of a range give the same for it
same_bytes : (a b : Allocation) (addr len : ℕ) → Like a b → a.addr ≤ addr → ((x : ℕ) → addr ≤ x → x < addr + len → byte_at (Some a) x ≡ byte_at (Some b) x) → bytes_at a addr len ≡ bytes_at b addr len
same_bytes a b addr len l from agree =
    let same_addr = l.lasting.addr in
    let at : (k : ℕ) → addr - a.addr ≤ k → k < (addr - a.addr) + len → slice_get a.bytes k ≡ slice_get b.bytes k =
    λ k low high.
    let e : (a.addr + k) - a.addr ≡ k = omega arith in
    let e' : (a.addr + k) - b.addr ≡ k = omega arith in
    ap (slice_get a.bytes) (sym e) ∙ sym (byte_inside a (a.addr + k) (omega arith))
    ∙ agree (a.addr + k) (omega arith) (omega arith)
    ∙ byte_inside b (a.addr + k) (omega arith) ∙ ap (slice_get b.bytes) e' in
    same_part a.bytes b.bytes (addr - a.addr) len at
    ∙ ap (λ k. take len (drop (addr - k) b.bytes)) same_addr

module _ (p : Pointer) (len : ℕ) where
  passes_too : (m m' : Memory) (n : Tally) (o : Option AllocId) → checked m p len ≡ Ok o → MemoryAgrees m m' (with_check p len n)
      → GivesToo m m' p len None None (λ _. p.prov) (λ _. p.prov) o
  passes_too m m' n o h agrees = gives_too m m' p len None None (λ _. p.prov) (λ _. p.prov) o h (λ id i. agrees (HeaderOf id) (inl (Contains-append_right n.touched _ id i)))

  check_local : IsLocalQuery (Reading (Check p len))
  check_local m m' t n n' x h agree =
      let a = check_went p len m t n n' x h in
      at_outcome a.goes (λ y w. MemoryAgrees m m' w.1 → FollowsIn (Reading (Check p len)) m m' w.0 n w.1 y)
      (λ agrees.
      let g = passes_too m m' n a.result a.is agrees in
      record { after = m'; goes = ap (checks Moves p len m' n) g.gives; moves = λ o. inl (refl, refl) })
      agree

  refer_local : IsLocalQuery (Reading (Refer p len))
  refer_local m m' t n n' x h agree =
      let a = refer_went p len m t n n' x h in
      at_outcome a.goes (λ y w. MemoryAgrees m m' w.1 → FollowsIn (Reading (Refer p len)) m m' w.0 n w.1 y)
      (λ agrees.
      let g = passes_too m m' n a.result a.is agrees in
      record { after = m'; goes = ap (λ r. checks Refers p len m' n (named DanglingReference r)) g.gives; moves = λ o. inl (refl, refl) })
      agree

module _ (atomic : Bool) (p : Pointer) (len align : ℕ) where
  abbrev at_range : Allocation → List AbstractByte
  at_range b = bytes_at b p.addr len

  module _ (m m' : Memory) (n : Tally) where
    loads_same : (other bytes : List AbstractByte) → Both m m' p len [] [] at_range at_range bytes other
        → ((id : AllocId) (k : ℕ) → Contains (touching p len) id → p.addr ≤ k → k < p.addr + len → in_memory m (ByteAt id k) ≡ in_memory m' (ByteAt id k))
        → other ≡ bytes
    loads_same other bytes (both_empty z e e') agrees = sym e' ∙ e
    loads_same other bytes (both_filled id a b ne w w' l e e') agrees =
        sym e'
        ∙ sym (same_bytes a b p.addr len l w.range.from (λ k low high.
        ap (λ o. byte_at o k) (sym w.there) ∙ agrees id k (touches p len id ne w.prov) low high ∙ ap (λ o. byte_at o k) w'.there))
        ∙ e

    read_too : (bytes : List AbstractByte) → is_multiple p.addr align ≡ true → MemoryAgrees m m' (with_load atomic p len n) → GivesToo m m' p len [] [] at_range at_range bytes
        → read m' p len align ≡ Ok bytes
    read_too bytes even agrees g =
        let same : g.other ≡ bytes =
        loads_same g.other bytes g.both (λ id k i low high.
        agrees (ByteAt id k) (Contains-append_right n.touched _ id i, Any-append_right (Covers k) n.accesses _ (accesses_range false atomic p len k low high))) in
        aligned_passes p align (ranged m' p len [] at_range) even ∙ g.gives ∙ ap (λ b. Ok b) same

    load_follows : (bytes : List AbstractByte) → is_multiple p.addr align ≡ true → MemoryAgrees m m' (with_load atomic p len n) → GivesToo m m' p len [] [] at_range at_range bytes
        → FollowsIn (Reading (Read atomic p len align)) m m' m n (with_load atomic p len n) bytes
    load_follows bytes even agrees g = record {
      after = m';
      goes = ap (loads atomic p len m' n) (read_too bytes even agrees g);
      moves = λ o. inl (refl, refl);
    }

  read_local : IsLocalQuery (Reading (Read atomic p len align))
  read_local m m' t n n' x h agree =
      let a = load_went atomic p len align m t n n' x h in
      let ok = aligned_ok p align (ranged m p len [] at_range) a.result a.is in
      at_outcome a.goes (λ y w. MemoryAgrees m m' w.1 → FollowsIn (Reading (Read atomic p len align)) m m' w.0 n w.1 y)
      (λ agrees. load_follows m m' n a.result ok.0 agrees (gives_too m m' p len [] [] at_range at_range a.result ok.1 (λ id i. agrees (HeaderOf id) (inl (Contains-append_right n.touched _ id i)))))
      agree

-- ---- stores

-- bytes put in two memories, at one identity
write_moves : (m m' : Memory) (p : Pointer) (ys : List AbstractByte) (n : Tally) (id : AllocId) (a b : Allocation)
    → Within m p (length ys) id a → Within m' p (length ys) id b → Contains n.touched id → ((x : ℕ) → p.addr ≤ x → x < p.addr + length ys → Any (StoresAt x) n.accesses)
    → (o : MemoryPlace) → MovesAt m (fin.insert m id (rewritten a p.addr ys)) m' (fin.insert m' id (rewritten b p.addr ys)) n o
write_moves m m' p ys n id a b w w' touched stored =
    let from = w.range.from in
    let to = w.range.to in
    let from' = w'.range.from in
    let to' = w'.range.to in
    insert_moves m m' id (rewritten a p.addr ys) (rewritten b p.addr ys) n
    (inl (rewritten_header a p.addr ys from to ∙ ap header_of (sym w.there), rewritten_header b p.addr ys from' to' ∙ ap header_of (sym w'.there)))
    (λ x.
    let was : byte_at (Some a) x ≡ in_memory m (ByteAt id x) = ap (λ o. byte_at o x) (sym w.there) in
    let was' : byte_at (Some b) x ≡ in_memory m' (ByteAt id x) = ap (λ o. byte_at o x) (sym w'.there) in
    elim (cases_lt x p.addr) [
      | inl l ↦ inl (rewritten_below a p.addr ys from to x l ∙ was, rewritten_below b p.addr ys from' to' x l ∙ was')
      | inr l ↦ elim (cases_lt x (p.addr + length ys)) [
        | inl h ↦ inr (rewritten_in a p.addr ys from to x l h ∙ sym (rewritten_in b p.addr ys from' to' x l h), inl (touched, stored x l h))
        | inr h ↦ inl (rewritten_above a p.addr ys from to x h ∙ was, rewritten_above b p.addr ys from' to' x h ∙ was')
      ]
    ])

-- what is put in is what is left
put_is : (p : Pointer) (ys : List AbstractByte) (m t : Memory) (id : AllocId) (a : Allocation) → p.prov ≡ Some id → stored_in m p ys a ≡ t → fin.insert m id (rewritten a p.addr ys) ≡ t
put_is p ys m t id a e i = sym (ap (λ o. put_one m o (rewritten a p.addr ys)) e) ∙ i

-- bytes put in two memories at a pointer, whose range is noted as touched and its addresses as stored at
module _ (p : Pointer) (ys : List AbstractByte) (m m' : Memory) (n : Tally) (touched : (id : AllocId) → Contains (touching p (length ys)) id → Contains n.touched id) (stored : (x : ℕ) → p.addr ≤ x → x < p.addr + length ys → Any (StoresAt x) n.accesses) where
  stored_moves : (after after' : Memory) → Both m m' p (length ys) m m' (stored_in m p ys) (stored_in m' p ys) after after' → (o : MemoryPlace) → MovesAt m after m' after' n o
  stored_moves after after' (both_empty z e e') o = inl (ap (λ v. in_memory v o) (sym e), ap (λ v. in_memory v o) (sym e'))
  stored_moves after after' (both_filled id a b ne w w' l e e') o =
      subst₂ (λ u u'. MovesAt m u m' u' n o) (put_is p ys m after id a w.prov e) (put_is p ys m' after' id b w'.prov e')
      (write_moves m m' p ys n id a b w w' (touched id (touches p (length ys) id ne w.prov)) stored o)

module _ (atomic : Bool) (p : Pointer) (ys : List AbstractByte) (align : ℕ) where
  module _ (m m' : Memory) (n : Tally) where
    store_moves : (after after' : Memory) → Both m m' p (length ys) m m' (stored_in m p ys) (stored_in m' p ys) after after' → (o : MemoryPlace) → MovesAt m after m' after' (with_store atomic p ys n) o
    store_moves after after' =
        stored_moves p ys m m' (with_store atomic p ys n) (λ id i. Contains-append_right n.touched _ id i) (λ x low high. Any-append_right (StoresAt x) n.accesses _ (stores_range atomic p (length ys) x low high)) after after'

    store_follows : (after : Memory) → is_multiple p.addr align ≡ true → GivesToo m m' p (length ys) m m' (stored_in m p ys) (stored_in m' p ys) after
        → FollowsIn (Write atomic p ys align) m m' after n (with_store atomic p ys n) tt
    store_follows after even g = record {
      after = g.other;
      goes = ap (stores atomic p ys n) (written_is m' p ys align ∙ aligned_passes p align (ranged m' p (length ys) m' (stored_in m' p ys)) even ∙ g.gives);
      moves = store_moves after g.other g.both;
    }

  write_local : IsLocalQuery (Write atomic p ys align)
  write_local m m' t n n' x h agree =
      let a = store_went atomic p ys align m t n n' x h in
      let ok = aligned_ok p align (ranged m p (length ys) m (stored_in m p ys)) a.result (sym (written_is m p ys align) ∙ a.is) in
      at_outcome a.goes (λ y w. MemoryAgrees m m' w.1 → FollowsIn (Write atomic p ys align) m m' w.0 n w.1 y)
      (λ agrees. store_follows m m' n a.result ok.0 (gives_too m m' p (length ys) m m' (stored_in m p ys) (stored_in m' p ys) a.result ok.1 (λ id i. agrees (HeaderOf id) (inl (Contains-append_right n.touched _ id i)))))
      agree

-- ---- modifications

module _ (p : Pointer) (size : ℕ) (change : ℕ → Option ℕ) (m m' t : Memory) (n n' : Tally) (x : ℕ) (w : Modifies p size change m n x t n') where
  -- what a second memory gives is read too
  read_there : MemoryAgrees m m' (with_load true p size n) → read m' p size size ≡ Ok w.bytes
  read_there agrees =
      let ok = aligned_ok p size (ranged m p size [] (at_range true p size size)) w.bytes w.is_read in
      read_too true p size size m m' n w.bytes ok.0 agrees
      (gives_too m m' p size [] [] (at_range true p size size) (at_range true p size size) w.bytes ok.1 (λ id i. agrees (HeaderOf id) (inl (Contains-append_right n.touched _ id i))))

  goes_there : (after : Memory) (v : Tally) → read m' p size size ≡ Ok w.bytes → Replaces p size m' n (change x) after v → memory_answer (Modify p size change) (m', n) ≡ Went x (after, v)
  goes_there after v r replaces = modify_goes p size m' n change x after v (record { bytes = w.bytes; is_read = r; is_number = w.is_number; replaces = replaces })

  -- with another number in its place
  module _ (k : ℕ) (some : change x ≡ Some k) (wrote : written m p (number_bytes size k) size ≡ Ok t) where
    abbrev ys : List AbstractByte
    ys = number_bytes size k

    abbrev left : Tally
    left = with_change p size (with_load true p size n)

    long : length ys ≡ size
    long = length-initialised None size k

    changed_follows : MemoryAgrees m m' left → FollowsIn (Modify p size change) m m' t n left x
    changed_follows agrees =
        let even = aligned_ok p size (ranged m p (length ys) m (stored_in m p ys)) t (sym (written_is m p ys size) ∙ wrote) in
        let touched : (id : AllocId) → Contains (touching p (length ys)) id → Contains left.touched id =
        λ id i. Contains-append_left (n.touched ++ touching p size) [] id (Contains-append_right n.touched _ id (subst (λ l. Contains (touching p l) id) long i)) in
        let stored : (a : ℕ) → p.addr ≤ a → a < p.addr + length ys → Any (StoresAt a) left.accesses =
        λ a low high. Any-append_right (StoresAt a) (n.accesses ++ accessing false true p size) _ (stores_range true p size a low (subst (λ l. a < p.addr + l) long high)) in
        let g = gives_too m m' p (length ys) m m' (stored_in m p ys) (stored_in m' p ys) t even.1 (λ id i. agrees (HeaderOf id) (inl (touched id i))) in
        let before : MemoryAgrees m m' (with_load true p size n) =
        λ o r. agrees o (reads_grow (with_load true p size n) left (grow_seeing (with_load true p size n) (accessing true true p size) []) o r) in
        record {
          after = g.other;
          goes = goes_there g.other left (read_there before)
              (changes k some (written_is m' p ys size ∙ aligned_passes p size (ranged m' p (length ys) m' (stored_in m' p ys)) even.0 ∙ g.gives) refl);
          moves = stored_moves p ys m m' left touched stored t g.other g.both;
        }

  modify_follows : {new : Option ℕ} → change x ≡ new → Replaces p size m n new t n' → MemoryAgrees m m' n' → FollowsIn (Modify p size change) m m' t n n' x
  modify_follows is (stays none same noted) agree =
      subst (λ v. MemoryAgrees m m' v → FollowsIn (Modify p size change) m m' t n v x) noted
      (λ agrees. record {
        after = m';
        goes = goes_there m' (with_load true p size n) (read_there agrees) (stays (is ∙ none) refl refl);
        moves = λ o. inl (ap (λ v. in_memory v o) (sym same), refl);
      })
      agree
  modify_follows is (changes k some wrote noted) agree =
      subst (λ v. MemoryAgrees m m' v → FollowsIn (Modify p size change) m m' t n v x) noted (changed_follows k (is ∙ some) wrote) agree

modify_local : (p : Pointer) (size : ℕ) (change : ℕ → Option ℕ) → IsLocalQuery (Modify p size change)
modify_local p size change m m' t n n' x h agree =
    let w = modify_went p size m n change x t n' h in
    modify_follows p size change m m' t n n' x w refl w.replaces agree

-- ---- new allocations

allocate_local : (kind : Kind) (size align addr : ℕ) → IsLocalQuery (Allocate kind size align addr)
allocate_local kind size align addr m m' t n n' x h agree =
    let id : AllocId = next_id n in
    let new : Allocation = fresh kind size align addr in
    let made : Contains (n.made ++ id ∷ []) id = Contains-push n.made id in
    at_outcome h (λ y w. FollowsIn (Allocate kind size align addr) m m' w.0 n w.1 y)
    (record {
      after = allocated m' id kind size align addr;
      goes = refl;
      moves = insert_moves m m' id new new (with_made size addr n) (inr (refl, inl made)) (λ k. inr (refl, inr made));
    })

-- ---- the end of an allocation

module _ (p : Pointer) (kind : Kind) (size align : ℕ) where
  free_follows : (m m' : Memory) (n : Tally) (id : AllocId) (a : Allocation) → p.prov ≡ Some id → fin.get m id ≡ Some a → free_fault a p.addr kind size align ≡ None
      → MemoryAgrees m m' (with_freed id n) → FollowsIn (Free p kind size align) m m' (fin.insert m id (dead a)) n (with_freed id n) tt
  free_follows m m' n id a prov there allowed agrees =
      let has : Contains (n.freed ++ id ∷ []) id = Contains-push n.freed id in
      let l = like_one a (fin.get m' id) (ap header_of (sym there) ∙ agrees (HeaderOf id) (inr has)) in
      record {
        after = fin.insert m' id (dead l.other);
        goes = ap (ends p size n) (frees_too m' p kind size align id l.other prov l.is (sym (free_fault_like a l.other p.addr kind size align l.like) ∙ allowed));
        moves = insert_moves m m' id (dead a) (dead l.other) (with_freed id n)
            (inr (like_header (dead a) (dead l.other) (dead_like a l.other l.like), inr has))
            (λ k. inl (ap (λ o. byte_at o k) (sym there), ap (λ o. byte_at o k) (sym l.is)));
      }

  free_local : IsLocalQuery (Free p kind size align)
  free_local m m' t n n' x h agree =
      let a = free_went p kind size align m t n n' x h in
      let f = frees m p kind size align a.result a.is in
      at_outcome (ap (λ r. ends p size n (Ok r)) f.is ∙ a.goes) (λ y w. MemoryAgrees m m' w.1 → FollowsIn (Free p kind size align) m m' w.0 n w.1 y)
      (free_follows m m' n f.id f.alloc f.prov f.there f.allowed)
      agree

local_query : (q : MemoryQuery) → IsLocalQuery q
local_query (Reading (Check p len)) = check_local p len
local_query (Reading (Refer p len)) = refer_local p len
local_query (Reading (Read atomic p len align)) = read_local atomic p len align
local_query (Write atomic p ys align) = write_local atomic p ys align
local_query (Modify p size change) = modify_local p size change
local_query (Allocate kind size align addr) = allocate_local kind size align addr
local_query (Free p kind size align) = free_local p kind size align

-- EACH QUERY TO MEMORY IS LOCAL, whatever is kept meanwhile
pub memory_local : (inv : Memory → Tally → Type 0) → IsLocal MemoryQuery MemoryReply Memory Tally memory_answer MemoryPlace AtMemory in_memory ReadsMemory WritesMemory inv
memory_local inv q m m' t n n' x i i' h agree =
    let f = local_query q m m' t n n' x h agree in
    record { after = f.after; goes = f.goes; moves = f.moves }

-- ---- two memories with the same at each place are one
same_allocation : (a b : Allocation) → Like a b → ((x : ℕ) → byte_at (Some a) x ≡ byte_at (Some b) x) → a ≡ b
same_allocation a b l same =
    let same_addr = l.lasting.addr in
    let bytes : a.bytes ≡ b.bytes =
    same_by_places a.bytes b.bytes (λ k.
    let e : (a.addr + k) - a.addr ≡ k = omega arith in
    let e' : (a.addr + k) - b.addr ≡ k = omega arith in
    ap (slice_get a.bytes) (sym e) ∙ sym (byte_inside a (a.addr + k) (omega arith)) ∙ same (a.addr + k)
    ∙ byte_inside b (a.addr + k) (omega arith) ∙ ap (slice_get b.bytes) e') in
    λ i. record {
      addr = l.lasting.addr i;
      span = l.lasting.span i;
      align = l.lasting.align i;
      kind = l.lasting.kind i;
      live = l.live i;
      bytes = bytes i;
    }

same_allocations : (f g : Option Allocation) → header_of f ≡ header_of g → ((x : ℕ) → byte_at f x ≡ byte_at g x) → f ≡ g
same_allocations None None h same = refl
same_allocations None (Some b) h same = cc
same_allocations (Some a) g h same =
    let l = like_one a g h in
    ap Some (same_allocation a l.other l.like (λ x. same x ∙ ap (λ o. byte_at o x) l.is)) ∙ sym l.is

pub same_memory : (m m' : Memory) → ((o : MemoryPlace) → in_memory m o ≡ in_memory m' o) → m ≡ m'
same_memory m m' h = fin.same_map id_total id_exact m m' (λ q. same_allocations (fin.get m q) (fin.get m' q) (h (HeaderOf q)) (λ x. h (ByteAt q x)))
