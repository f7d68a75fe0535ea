-- Bytes that are stored one piece behind the other, in a range of a live allocation, are stored as one.
use Rattle.mr_start.proofs.Common.{◌≡◌, ◌≢◌, ℕ, suc, ◌+◌, ◌-◌, ◌<◌, ◌≤◌, refl, sym, ap, ◌∙◌, subst, List, [], ◌∷◌, ◌++◌, length, take, drop, get_or, inl, inr, Option, None, Some, Ok, Bool, true, false, cond, arith, append-nil, append_assoc, length-append, cases_eq, take_all, ◌^◌, AllocId, Pointer, Allocation, Memory, id_cmp, is_multiple, written, get_here, id_total, behind, put_one, rewritten, rewritten_size, stored_in, written_is, HasRange, behind_store, global_bytes, item_bytes, item_size}
use Rattle.std.proofs.Common.{length-take}
use Rattle.std.proofs.lemmas.Bool.{eq-eqb}
use Rattle.std.proofs.lemmas.List.{drop_all}
use Rattle.std.proofs.lemmas.Slice.{drop-append-drop}
use Rattle.std.proofs.Math.Seq.{drop-cons}
use Rattle.std.specs.Prelude.{◌%◌}
use Rattle.std.specs.Ordering.{eq_by_cmp}
use Rattle.mr_base.specs.declared.byte.AbstractByte.{AbstractByte}
use Rattle.mr_ast.specs.declared.program.Item_.{Item_}
use Rattle.mr_mem.specs.Memory.{checked}
use Rattle.mr_mem.proofs.Identities.{id_exact}
use Rattle.mr_runs.specs.Ranges.{with_range_replaced}
use Rattle.mr_runs.proofs.ListLaws.{take_in_append}
use Rattle.mr_frame.proofs.PlanRangeChecks.{Gave, empty, filled, aligned_passes, gave, ranged_within}
use Rattle.std.specs.FinMap as fin
use Rattle.mr_start.proofs.StartStores.{length_item}

-- ---- lists

-- two ranges replaced, the second one right behind the first
module _ {X : Type 0} (old xs ys : List X) (from : ℕ) (inside : from + (length xs + length ys) ≤ length old) where
  abbrev front : List X
  front = take from old ++ xs

  abbrev end : ℕ
  end = from + length xs

  front_length : length front ≡ end
  front_length = omega (arith, length-take from old, length-append (take from old) xs)

  regroup : (a b c : List X) → a ++ b ++ c ≡ (a ++ b) ++ c
  regroup a b c = simp append_assoc

  first_is : with_range_replaced old from xs ≡ front ++ drop end old
  first_is = regroup (take from old) xs (drop end old)

  taken : take end (front ++ drop end old) ≡ front
  taken =
      let none_left : end - length front ≡ 0 = omega (arith, front_length) in
      take_in_append end front (drop end old)
      ∙ ap (λ (a : List X). a ++ take (end - length front) (drop end old)) (take_all end front (omega (arith, front_length)))
      ∙ ap (λ (n : ℕ). front ++ take n (drop end old)) none_left
      ∙ append-nil front

  dropped : drop (end + length ys) (front ++ drop end old) ≡ drop (from + length (xs ++ ys)) old
  dropped =
      let same : end + length ys ≡ from + length (xs ++ ys) = omega (arith, length-append xs ys) in
      drop-append-drop end old front (end + length ys) (omega arith) front_length ∙ ap (λ (n : ℕ). drop n old) same

  last_group : (a b c d : List X) → (a ++ b) ++ c ++ d ≡ a ++ (b ++ c) ++ d
  last_group a b c d = simp append_assoc

  pub replaced_twice : with_range_replaced (with_range_replaced old from xs) end ys ≡ with_range_replaced old from (xs ++ ys)
  replaced_twice =
      ap (λ (w : List X). with_range_replaced w end ys) first_is
      ∙ ap (λ (a : List X). a ++ ys ++ drop (end + length ys) (front ++ drop end old)) taken
      ∙ ap (λ (d : List X). front ++ ys ++ d) dropped
      ∙ last_group (take from old) xs ys (drop (from + length (xs ++ ys)) old)

-- ---- memory

-- the allocation with these bytes
abbrev with_bytes : Allocation → List AbstractByte → Allocation
with_bytes a bytes = record a { bytes = bytes }

each_multiple : (x : ℕ) → is_multiple x 1 ≡ true
each_multiple x = eq-eqb (x % 1) 0 (omega arith)

put_twice : (m : Memory) (k : AllocId) (v w : Allocation) → fin.insert (fin.insert m k v) k w ≡ fin.insert m k w
put_twice m k v w = fin.same_map id_total id_exact _ _ at
  where
    by_test : (b : Bool) (o : Option Allocation) → cond b (Some w) (cond b (Some v) o) ≡ cond b (Some w) o
    by_test true o = refl
    by_test false o = refl

    at : (q : AllocId) → fin.get (fin.insert (fin.insert m k v) k w) q ≡ fin.get (fin.insert m k w) q
    at q =
        fin.get-insert id_total (fin.insert m k v) k w q
        ∙ ap (λ (o : Option Allocation). cond (eq_by_cmp id_cmp q k) (Some w) o) (fin.get-insert id_total m k v q)
        ∙ by_test (eq_by_cmp id_cmp q k) (fin.get m q)
        ∙ sym (fin.get-insert id_total m k w q)

none_left : {X : Type 0} (xs : List X) → length xs ≡ 0 → xs ≡ []
none_left [] h = refl
none_left (x ∷ xs) h = absurd (omega arith)

-- a store of no bytes
empty_store : (m : Memory) (p : Pointer) → written m p [] 1 ≡ Ok m
empty_store m p = aligned_passes p 1 (Ok m) (each_multiple p.addr)

module _ (m : Memory) (p : Pointer) (len : ℕ) (h : HasRange m p len) where
  -- a store of some bytes in the range
  store_in : (bytes : List AbstractByte) → length bytes ≢ 0 → length bytes ≤ len → written m p bytes 1 ≡ Ok (fin.insert m h.id (rewritten h.alloc p.addr bytes))
  store_in bytes some le =
      let to = h.to in
      written_is m p bytes 1
      ∙ aligned_passes p 1 _ (each_multiple p.addr)
      ∙ ranged_within m p (length bytes) m (stored_in m p bytes) h.id h.alloc some (record { prov = h.prov; there = h.there; range = record { live = h.live; from = h.from; to = omega arith } })
      ∙ ap (λ (o : Option AllocId). Ok (put_one m o (rewritten h.alloc p.addr bytes))) h.prov

module _ (m : Memory) (p : Pointer) (xs ys : List AbstractByte) (h : HasRange m p (length xs + length ys)) where
  abbrev m1 : Memory
  m1 = behind_store m (written m p xs 1)

  abbrev p1 : Pointer
  p1 = behind p (length xs)

  p1_addr : p1.addr ≡ p.addr + length xs
  p1_addr = let low = h.low in omega arith

  abbrev a1 : Allocation
  a1 = rewritten h.alloc p.addr xs

  a1_size : length a1.bytes ≡ length h.alloc.bytes
  a1_size = let to = h.to in rewritten_size h.alloc p.addr xs h.from (omega arith)

  m1_is : length xs ≢ 0 → m1 ≡ fin.insert m h.id a1
  m1_is some = ap (behind_store m) (store_in m p (length xs + length ys) h xs some (omega arith))

  m1_empty : length xs ≡ 0 → m1 ≡ m
  m1_empty none = ap (λ (bytes : List AbstractByte). behind_store m (written m p bytes 1)) (none_left xs none) ∙ ap (behind_store m) (empty_store m p)

  -- the range that is left
  left_behind : (a : Allocation) → fin.get m1 h.id ≡ Some a → a.live ≡ true → a.addr ≡ h.alloc.addr → length a.bytes ≡ length h.alloc.bytes → HasRange m1 p1 (length ys)
  left_behind a there live addr size =
      let low = h.low in
      let from = h.from in
      let to = h.to in
      let at = p1_addr in
      record { id = h.id; alloc = a; prov = h.prov; there = there; live = live; from = omega arith; to = omega arith; low = omega arith }

  pub range_left : HasRange m1 p1 (length ys)
  range_left = elim (cases_eq (length xs) 0) [
    | inl none ↦ left_behind h.alloc (ap (λ (w : Memory). fin.get w h.id) (m1_empty none) ∙ h.there) h.live refl refl
    | inr some ↦ left_behind a1 (ap (λ (w : Memory). fin.get w h.id) (m1_is some) ∙ get_here m h.id a1) h.live refl a1_size
  ]

  joined : length xs ≢ 0 → length ys ≢ 0 → written m p (xs ++ ys) 1 ≡ written m1 p1 ys 1
  joined first second =
      let from = h.from in
      let to = h.to in
      let at = p1_addr in
      let both : length (xs ++ ys) ≡ length xs + length ys = length-append xs ys in
      let later : HasRange (fin.insert m h.id a1) p1 (length ys) = record {
        id = h.id;
        alloc = a1;
        prov = h.prov;
        there = get_here m h.id a1;
        live = h.live;
        from = omega arith;
        to = omega (arith, a1_size);
        low = let low = h.low in omega arith;
      } in
      let offset : p1.addr - h.alloc.addr ≡ (p.addr - h.alloc.addr) + length xs = omega arith in
      let same : rewritten a1 p1.addr ys ≡ rewritten h.alloc p.addr (xs ++ ys) =
      ap (λ (n : ℕ). with_bytes h.alloc (with_range_replaced a1.bytes n ys)) offset
      ∙ ap (with_bytes h.alloc) (replaced_twice h.alloc.bytes xs ys (p.addr - h.alloc.addr) (omega arith)) in
      store_in m p (length xs + length ys) h (xs ++ ys) (λ none. first (omega (arith, both))) (omega (arith, both))
      ∙ sym (
      ap (λ (w : Memory). written w p1 ys 1) (m1_is first)
      ∙ store_in (fin.insert m h.id a1) p1 (length ys) later ys second (omega arith)
      ∙ ap Ok (put_twice m h.id a1 (rewritten a1 p1.addr ys) ∙ ap (fin.insert m h.id) same)
      )

  -- the store of all is that of the rest behind that of the front
  pub store_split : written m p (xs ++ ys) 1 ≡ written m1 p1 ys 1
  store_split = elim (cases_eq (length ys) 0) [
    | inl none ↦ no_rest none
    | inr second ↦ elim (cases_eq (length xs) 0) [
      | inl none ↦ no_front none
      | inr first ↦ joined first second
    ]
  ]
    where
      stands : written m p xs 1 ≡ Ok m1
      stands = elim (cases_eq (length xs) 0) [
        | inl none ↦ ap (λ (bytes : List AbstractByte). written m p bytes 1) (none_left xs none) ∙ empty_store m p ∙ ap Ok (sym (m1_empty none))
        | inr some ↦ store_in m p (length xs + length ys) h xs some (omega arith) ∙ ap Ok (sym (m1_is some))
      ]

      no_rest : length ys ≡ 0 → written m p (xs ++ ys) 1 ≡ written m1 p1 ys 1
      no_rest none =
          ap (λ (bytes : List AbstractByte). written m p (xs ++ bytes) 1) (none_left ys none)
          ∙ ap (λ (bytes : List AbstractByte). written m p bytes 1) (append-nil xs)
          ∙ stands
          ∙ sym (ap (λ (bytes : List AbstractByte). written m1 p1 bytes 1) (none_left ys none) ∙ empty_store m1 p1)

      no_front : length xs ≡ 0 → written m p (xs ++ ys) 1 ≡ written m1 p1 ys 1
      no_front none =
          let low = h.low in
          let same : p1.addr ≡ p.addr = omega (arith, p1_addr) in
          let here : p1 ≡ p = ap (λ (n : ℕ). record { addr = n; prov = p.prov }) same in
          ap (λ (bytes : List AbstractByte). written m p (bytes ++ ys) 1) (none_left xs none)
          ∙ ap (λ (w : Memory). written w p ys 1) (sym (m1_empty none))
          ∙ ap (λ (q : Pointer). written m1 q ys 1) (sym here)

-- ---- items

module _ (functions globals : List Pointer) where
  bytes_cons : (i : Item_) (items : List Item_) → global_bytes functions globals (i ∷ items) ≡ item_bytes functions globals i ++ global_bytes functions globals items
  bytes_cons i items = refl

  module _ (m : Memory) (p : Pointer) (i : Item_) (items : List Item_) (h : HasRange m p (length (global_bytes functions globals (i ∷ items)))) where
    parted : HasRange m p (length (item_bytes functions globals i) + length (global_bytes functions globals items))
    parted = subst (HasRange m p) (length-append (item_bytes functions globals i) (global_bytes functions globals items)) h

    abbrev m2 : Memory
    m2 = behind_store m (written m p (item_bytes functions globals i) 1)

    abbrev p2 : Pointer
    p2 = behind p (item_size i)

    p2_is : behind p (length (item_bytes functions globals i)) ≡ p2
    p2_is = ap (behind p) (length_item functions globals i)

    item_stored : HasRange m2 p2 (length (global_bytes functions globals items))
        × (written m p (global_bytes functions globals (i ∷ items)) 1 ≡ written m2 p2 (global_bytes functions globals items) 1)
    item_stored = (
      subst (λ (q : Pointer). HasRange m2 q (length (global_bytes functions globals items))) p2_is
          (range_left m p (item_bytes functions globals i) (global_bytes functions globals items) parted),
      store_split m p (item_bytes functions globals i) (global_bytes functions globals items) parted
          ∙ ap (λ (q : Pointer). written m2 q (global_bytes functions globals items) 1) p2_is,
    )

  -- the step of a loop that stores the items in order
  pub next_stored : (m m' : Memory) (p p' : Pointer) (items : List Item_) (i : ℕ) (d : Item_) → i < length items
      → HasRange m p (length (global_bytes functions globals (drop i items)))
      → m' ≡ behind_store m (written m p (item_bytes functions globals (get_or items i d)) 1) → p' ≡ behind p (item_size (get_or items i d))
      → HasRange m' p' (length (global_bytes functions globals (drop (i + 1) items)))
      × (written m p (global_bytes functions globals (drop i items)) 1 ≡ written m' p' (global_bytes functions globals (drop (i + 1) items)) 1)
  next_stored m m' p p' items i d lt h stands at =
      let next : suc i ≡ i + 1 = omega arith in
      let front : drop i items ≡ get_or items i d ∷ drop (i + 1) items = drop-cons items i d lt ∙ ap (λ (n : ℕ). get_or items i d ∷ drop n items) next in
      let done = item_stored m p (get_or items i d) (drop (i + 1) items) (subst (λ (rest : List Item_). HasRange m p (length (global_bytes functions globals rest))) front h) in (
        subst (λ (w : Memory). HasRange w p' (length (global_bytes functions globals (drop (i + 1) items)))) (sym stands)
            (subst (λ (q : Pointer). HasRange (m2 m p (get_or items i d) (drop (i + 1) items) (subst (λ (rest : List Item_). HasRange m p (length (global_bytes functions globals rest))) front h)) q (length (global_bytes functions globals (drop (i + 1) items)))) (sym at) done.0),
        ap (λ (rest : List Item_). written m p (global_bytes functions globals rest) 1) front
            ∙ done.1
            ∙ ap (λ (w : Memory). written w (behind p (item_size (get_or items i d))) (global_bytes functions globals (drop (i + 1) items)) 1) (sym stands)
            ∙ ap (λ (q : Pointer). written m' q (global_bytes functions globals (drop (i + 1) items)) 1) (sym at),
      )

  -- its end
  pub all_stored : (m : Memory) (p : Pointer) (items : List Item_) (i : ℕ) → length items ≤ i → written m p (global_bytes functions globals (drop i items)) 1 ≡ Ok m
  all_stored m p items i le =
      ap (λ (rest : List Item_). written m p (global_bytes functions globals rest) 1) (drop_all i items le) ∙ empty_store m p

-- a store that was made for each alignment of the address
pub stored_aligned : (m n : Memory) (p : Pointer) (bytes : List AbstractByte) (align : ℕ) → is_multiple p.addr align ≡ true → written m p bytes 1 ≡ Ok n
    → n ≡ behind_store m (written m p bytes align)
stored_aligned m n p bytes align e h =
    sym (ap (behind_store m) (written_is m p bytes align ∙ aligned_passes p align _ e ∙ sym (written_is m p bytes 1 ∙ aligned_passes p 1 _ (each_multiple p.addr)) ∙ h))

-- a range that was checked, some bytes long
pub checked_range : (m : Memory) (p : Pointer) (len : ℕ) (id : AllocId) → checked m p len ≡ Ok (Some id) → p.addr + len < 2 ^ 64 → HasRange m p len
checked_range m p len id h low = by_gave (gave m p len None (λ _. p.prov) (Some id) h)
  where
    by_gave : Gave m p len None (λ _. p.prov) (Some id) → HasRange m p len
    by_gave (empty z e) = absurd (cc)
    by_gave (filled k a some within e) = record { id = k; alloc = a; prov = within.prov; there = within.there; live = within.range.live; from = within.range.from; to = within.range.to; low = low }
