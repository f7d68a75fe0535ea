-- The spans beside the memory are those of its ranges: what changes of the memory keep of that, and what it is for.
use Rattle.mr_mem.proofs.Common.{◌≡◌, ◌≢◌, ℕ, ◌<◌, ◌⊎◌, inl, inr, refl, sym, ap, ◌∙◌, subst, arith, [], Bool, true, false, cond, true≢false, false_from_ne_true, none-some, same_Some, Option, Some, None, Result, Ok, Err, OnErr, IsSomeAnd, find, put, tied_itself, is_eq, is_lt, Ordering, Less, Equal, Greater, is_meeting, AllocId, Span, Allocation, Memory, Range, Ranges, first_overlapped, id_cmp, pick_fault, range_fault, ranges_of, without_life, IsFree, IsLeast, IsOverlapped, Puts, Taken, span_at}
use Rattle.std.specs.Prelude.{OnOk}
use Rattle.std.specs.FinMap.Entries.{find-put}
use Rattle.mr_mem.specs.declared.fault.PickFault.TheVariants.{BadAddress}
use Rattle.mr_mem.specs.Memory.{is_bad_address, reused}
use Rattle.mr_mem.specs.Spans.{AreSpansOf, range_at, span_of}
use Rattle.std.specs.FinMap as fin
use Rattle.mr_mem.proofs.Identities.{id_exact, id_total}
use Rattle.mr_mem.proofs.LeastLaws.{IsShared, first_least, least_same}
use Rattle.mr_mem.proofs.Meetings.{AreSharing, from_meeting, meeting_from}
use Rattle.mr_mem.proofs.RangeLaws.{ranges-empty, ranges-insert, ranges-without_life, ranges_absent, ranges_sorted}
use Rattle.mr_mem.proofs.SpanLaws.{undone, which_span}

pub none_indexed : AreSpansOf [] (ranges_of fin.empty)
none_indexed =
    let none : AreSpansOf [] [] = record { each = λ id r e pos. absurd (none-some r e); only = λ start s e. absurd (none-some s e) } in
    subst (λ (rs : Ranges). AreSpansOf [] rs) (sym ranges-empty) none

-- ---- the same ranges, or the same spans

pub same_ranges_indexed : (taken : Taken) (m m' : Memory) → ranges_of m' ≡ ranges_of m → AreSpansOf taken (ranges_of m) → AreSpansOf taken (ranges_of m')
same_ranges_indexed taken m m' e h = subst (λ (rs : Ranges). AreSpansOf taken rs) (sym e) h

pub same_memory_indexed : (taken : Taken) (m m' : Memory) → m' ≡ m → AreSpansOf taken (ranges_of m) → AreSpansOf taken (ranges_of m')
same_memory_indexed taken m m' e h = same_ranges_indexed taken m m' (ap ranges_of e) h

pub ended_indexed : (taken : Taken) (m m' : Memory) (id : AllocId) → m' ≡ without_life m id (fin.get m id) → AreSpansOf taken (ranges_of m) → AreSpansOf taken (ranges_of m')
ended_indexed taken m m' id e h = same_ranges_indexed taken m m' (ap ranges_of e ∙ ranges-without_life m id (fin.get m id) refl) h

same_spans_indexed : (taken new : Taken) (rs : Ranges) → ((q : ℕ) → span_at new q ≡ span_at taken q) → AreSpansOf taken rs → AreSpansOf new rs
same_spans_indexed taken new rs e h = record {
  each = λ id r f pos. e r.addr ∙ h.each id r f pos;
  only = λ start s f. h.only start s (sym (e start) ∙ f);
}

-- ---- one range more

module _ (rs : Ranges) (id : AllocId) (r : Range) (absent : find id_cmp id rs ≡ None) where
  which_range : (q : AllocId) (v : Range) → find id_cmp q (put id_cmp id r rs) ≡ Some v → ((q ≡ id) × (v ≡ r)) ⊎ (find id_cmp q rs ≡ Some v)
  which_range q v e = by_order (id_cmp q id) refl (sym (find-put id_cmp id_total q id r rs) ∙ e)
    where
      by_order : (o : Ordering) → id_cmp q id ≡ o → cond (is_eq o) (Some r) (find id_cmp q rs) ≡ Some v → ((q ≡ id) × (v ≡ r)) ⊎ (find id_cmp q rs ≡ Some v)
      by_order Less is k = inr k
      by_order Equal is k = inl (id_exact q id is, sym (same_Some r v k))
      by_order Greater is k = inr k

  found_new : find id_cmp id (put id_cmp id r rs) ≡ Some r
  found_new =
      find-put id_cmp id_total id id r rs
      ∙ ap (λ (o : Ordering). cond (is_eq o) (Some r) (find id_cmp id rs)) (tied_itself id_total id)

  found_still : (q : AllocId) (v : Range) → find id_cmp q rs ≡ Some v → find id_cmp q (put id_cmp id r rs) ≡ Some v
  found_still q v e = find-put id_cmp id_total q id r rs ∙ by_order (id_cmp q id) refl
    where
      by_order : (o : Ordering) → id_cmp q id ≡ o → cond (is_eq o) (Some r) (find id_cmp q rs) ≡ Some v
      by_order Less is = e
      by_order Equal is = absurd (none-some v (sym absent ∙ ap (λ (k : AllocId). find id_cmp k rs) (sym (id_exact q id is)) ∙ e))
      by_order Greater is = e

  -- it has no address, and no span is added
  empty_indexed : (taken : Taken) → r.size ≡ 0 → AreSpansOf taken rs → AreSpansOf taken (put id_cmp id r rs)
  empty_indexed taken empty h = record {
    each = λ q v e pos. each_at q v pos (which_range q v e);
    only = λ start s e. let k = h.only start s e in (found_still s.id (range_at start s) k.0, k.1);
  }
    where
      each_at : (q : AllocId) (v : Range) → 0 < v.size → ((q ≡ id) × (v ≡ r)) ⊎ (find id_cmp q rs ≡ Some v) → span_at taken v.addr ≡ Some (span_of q v)
      each_at q v pos (inl a) = let none : v.size ≡ 0 = ap (λ (x : Range). x.size) a.1 ∙ empty in absurd (omega arith)
      each_at q v pos (inr e) = h.each q v e pos

  -- its span is added
  filled_indexed : (taken new : Taken) → 0 < r.size → IsFree taken r.addr r.size → Puts taken r.addr (Some (span_of id r)) new → AreSpansOf taken rs → AreSpansOf new (put id_cmp id r rs)
  filled_indexed taken new filled free p h = record {
    each = λ q v e pos. each_at q v pos (which_range q v e);
    only = λ start s e. only_at start s (which_span taken new r.addr (span_of id r) p start s e);
  }
    where
      elsewhere : (q : AllocId) (v : Range) → 0 < v.size → find id_cmp q rs ≡ Some v → v.addr ≢ r.addr
      elsewhere q v pos e same =
          let both : AreSharing r.addr r.size v.addr v.size = record { filled = filled; other_filled = pos; before = omega arith; behind = omega arith } in
          true≢false (sym (meeting_from r.addr r.size v.addr v.size both) ∙ free v.addr (span_of q v) (h.each q v e pos))

      each_at : (q : AllocId) (v : Range) → 0 < v.size → ((q ≡ id) × (v ≡ r)) ⊎ (find id_cmp q rs ≡ Some v) → span_at new v.addr ≡ Some (span_of q v)
      each_at q v pos (inl a) =
          let own : Some (span_of id r) ≡ Some (span_of q v) = λ i. Some (span_of (sym a.0 i) (sym a.1 i)) in
          ap (λ (x : Range). span_at new x.addr) a.1 ∙ p.here ∙ own
      each_at q v pos (inr e) = p.others v.addr (elsewhere q v pos e) ∙ h.each q v e pos

      only_at : (start : ℕ) (s : Span) → ((start ≡ r.addr) × (s ≡ span_of id r)) ⊎ ((start ≢ r.addr) × (span_at taken start ≡ Some s))
          → (find id_cmp s.id (put id_cmp id r rs) ≡ Some (range_at start s)) × (0 < s.size)
      only_at start s (inl a) =
          let own : Some r ≡ Some (range_at start s) = λ i. Some (range_at (sym a.0 i) (sym a.1 i)) in
          (ap (λ (x : Span). find id_cmp x.id (put id_cmp id r rs)) a.1 ∙ found_new ∙ own, subst (λ (x : Span). 0 < x.size) (sym a.1) filled)
      only_at start s (inr b) = let k = h.only start s b.1 in (found_still s.id (range_at start s) k.0, k.1)

-- no span begins where an address is free
vacant : (taken : Taken) (rs : Ranges) (start size : ℕ) → AreSpansOf taken rs → 0 < size → IsFree taken start size → span_at taken start ≡ None
vacant taken rs start size h filled free = by_span (span_at taken start) refl
  where
    by_span : (o : Option Span) → span_at taken start ≡ o → o ≡ None
    by_span None e = refl
    by_span (Some s) e =
        let other : 0 < s.size = (h.only start s e).1 in
        let both : AreSharing start size start s.size = record { filled = filled; other_filled = other; before = omega arith; behind = omega arith } in
        absurd (true≢false (sym (meeting_from start size start s.size both) ∙ free start s e))

-- ---- one allocation more

module _ (m m' : Memory) (taken : Taken) (id : AllocId) (a : Allocation) (absent : fin.get m id ≡ None) (h : AreSpansOf taken (ranges_of m)) where
  added_ranges : m' ≡ fin.insert m id a → ranges_of m' ≡ put id_cmp id (record { addr = a.addr; size = a.span }) (ranges_of m)
  added_ranges e = ap ranges_of e ∙ ranges-insert m id a

  -- one without an address, whether or not there was memory for it
  pub entered_empty : {E : Type 0} (result : Result (Unit {0}) E) → a.span ≡ 0 → OnOk result (m' ≡ fin.insert m id a) → OnErr result (m' ≡ m) → AreSpansOf taken (ranges_of m')
  entered_empty (Ok u) empty ok err =
      subst (λ (rs : Ranges). AreSpansOf taken rs) (sym (added_ranges ok))
      (empty_indexed (ranges_of m) id (record { addr = a.addr; size = a.span }) (ranges_absent m id absent) taken empty h)
  entered_empty (Err x) empty ok err = same_memory_indexed taken m m' err h

  -- one with its span
  pub entered : (new : Taken) → 0 < a.span → IsFree taken a.addr a.span → Puts taken a.addr (Some (record { size = a.span; id = id })) new → m' ≡ fin.insert m id a → AreSpansOf new (ranges_of m')
  entered new filled free p e =
      subst (λ (rs : Ranges). AreSpansOf new rs) (sym (added_ranges e))
      (filled_indexed (ranges_of m) id (record { addr = a.addr; size = a.span }) (ranges_absent m id absent) taken new filled free p h)

  -- one for which there was no memory, and its span is taken away again
  pub refused : (with_it new : Taken) → 0 < a.span → IsFree taken a.addr a.span → Puts taken a.addr (Some (record { size = a.span; id = id })) with_it → Puts with_it a.addr None new → m' ≡ m
      → AreSpansOf new (ranges_of m')
  refused with_it new filled free p r e =
      same_memory_indexed new m m' e
      (same_spans_indexed taken new (ranges_of m) (undone taken with_it new a.addr (record { size = a.span; id = id }) (vacant taken (ranges_of m) a.addr a.span h filled free) p r) h)

-- ---- what a range overlaps

-- the least identity whose span is overlapped is the first whose range is
pub first_found : (m : Memory) (taken : Taken) (addr size : ℕ) (found : Option AllocId) → AreSpansOf taken (ranges_of m) → IsLeast (IsOverlapped taken addr size) found
    → found ≡ first_overlapped addr size (ranges_of m)
first_found m taken addr size found h least =
    least_same (IsOverlapped taken addr size) (IsShared (ranges_of m) addr size)
    (λ id o. (range_at o.0 o.1, subst (λ (q : AllocId). find id_cmp q (ranges_of m) ≡ Some (range_at o.0 o.1)) o.3 (h.only o.0 o.1 o.2).0, o.4))
    (λ id o. (o.0.addr, span_of id o.0, h.each id o.0 o.1 (from_meeting addr size o.0.addr o.0.size o.2).other_filled, refl, o.2))
    found (first_overlapped addr size (ranges_of m)) least (first_least addr size (ranges_of m) (ranges_sorted m))

pub not_reused : (o : Option AllocId) → reused o ≡ None → o ≡ None
not_reused None e = refl
not_reused (Some id) e = absurd (cc)

none_picked : (rs : Ranges) (addr size align : ℕ) → range_fault rs addr size align ≡ None → first_overlapped addr size rs ≡ None
unfolding range_fault
none_picked rs addr size align h = by_test (is_bad_address addr size align) h
  where
    by_test : (b : Bool) → cond b (Some BadAddress) (reused (first_overlapped addr size rs)) ≡ None → first_overlapped addr size rs ≡ None
    by_test true k = absurd (cc)
    by_test false k = not_reused (first_overlapped addr size rs) k

-- where a pick is lawful, no span shares an address with it
pub lawful_free : (m : Memory) (taken : Taken) (addr size align : ℕ) → AreSpansOf taken (ranges_of m) → pick_fault m addr size align ≡ None → IsFree taken addr size
lawful_free m taken addr size align h e = λ start s f.
    false_from_ne_true (is_meeting addr size start s.size) (λ meets.
    let shared : IsShared (ranges_of m) addr size s.id = (range_at start s, (h.only start s f).0, meets) in
    let some = (first_least addr size (ranges_of m) (ranges_sorted m)).least s.id shared in
    subst (λ (o : Option AllocId). IsSomeAnd o (λ q. is_lt (id_cmp s.id q) ≡ false)) (none_picked (ranges_of m) addr size align e) some)
