-- How an entry's picks are judged one by one.
use Rattle.mr_start.proofs.Common.{◌≡◌, ℕ, suc, ◌+◌, ◌<◌, ◌≤◌, refl, sym, ap, ◌∙◌, subst, arith, List, [], ◌∷◌, ◌++◌, length, Option, Bool, true, false, cond, map, take, drop, get_or, length-take-le, Some, None, T, ◌&&◌, slice_get, AllocId, Status, Allocation, Memory, Ranges, first_overlapped, id_cmp, is_bad_address, pick_fault, range_fault, ranges_of, reused, with_range, Ask, Address, Waiter, Fault, address_fault, else_fault, fault, picks_fault, address_among, least, picked}
use Rattle.std.proofs.Common.{drop-cons, take-suc, drop_of_length-le}
use Rattle.std.specs.FinMap.Entries.{put, below_all, is_sorted, find}
use Rattle.std.specs.Ordering.{is_eq, is_lt}
use Rattle.mr_base.specs.Pairs.{is_meeting}
use Rattle.mr_mem.specs.Memory.{range_of}
use Rattle.mr_mem.specs.declared.fault.PickFault.TheVariants.{BadAddress}
use Rattle.mr_sync.specs.Tables.{on_lock}
use Rattle.mr_frame.specs.Standing.{IsUncounted}
use Rattle.mr_start.specs.Judging.{waiter_fault}
use Rattle.std.specs.FinMap as fin
use Rattle.mr_start.proofs.Overlaps.{AreUncounted, id_of, overlaps, with_ranges}
use Rattle.mr_sched.specs.declared.rule.ScheduleRule.TheVariants as rule

-- what is left at a position begins with what stands there, and joins what stands before it
pub left_at : {X : Type 0} (xs : List X) (i : ℕ) (d : X) → i < length xs → drop i xs ≡ get_or xs i d ∷ drop (i + 1) xs
left_at xs i d p = let e : suc i ≡ i + 1 = omega arith in drop-cons xs i d p ∙ ap (λ n. get_or xs i d ∷ drop n xs) e

pub one_more_at : {X : Type 0} (xs : List X) (i : ℕ) (d : X) → i < length xs → take (i + 1) xs ≡ take i xs ++ get_or xs i d ∷ []
one_more_at xs i d p = let e : i + 1 ≡ suc i = omega arith in ap (λ n. take n xs) e ∙ take-suc xs i d p

-- ---- the ranges of a memory

below_ranges : (id : AllocId) (es : List (AllocId × Allocation)) → below_all id_cmp id (map range_of es) ≡ below_all id_cmp id es
below_ranges id [] = refl
below_ranges id (e ∷ es) = ap (λ b. is_lt (id_cmp id e.0) && b) (below_ranges id es)

sorted_ranges : (es : List (AllocId × Allocation)) → is_sorted id_cmp (map range_of es) ≡ is_sorted id_cmp es
sorted_ranges [] = refl
sorted_ranges (e ∷ es) = λ i. below_ranges e.0 es i && sorted_ranges es i

found_ranges : (id : AllocId) (es : List (AllocId × Allocation)) → find id_cmp id es ≡ None → find id_cmp id (map range_of es) ≡ None
found_ranges id [] h = refl
found_ranges id (e ∷ es) h = by_test (is_eq (id_cmp id e.0)) (found_ranges id es) h
  where
    by_test : (b : Bool) → (find id_cmp id es ≡ None → find id_cmp id (map range_of es) ≡ None) → cond b (Some e.1) (find id_cmp id es) ≡ None → cond b (Some (range_of e).1) (find id_cmp id (map range_of es)) ≡ None
    by_test true later k = absurd (cc)
    by_test false later k = later k

ranges_sorted : (m : Memory) → T (is_sorted id_cmp (ranges_of m))
unfolding ranges_of
ranges_sorted m = subst T (sym (sorted_ranges (fin.entries m))) (fin.entries_sorted m)

ranges_uncounted : (m : Memory) (t count : ℕ) → IsUncounted m t count → AreUncounted (ranges_of m) t count
unfolding ranges_of
ranges_uncounted m t count none c le =
    let id : AllocId = record { thread = t; count = c } in
    found_ranges id (fin.entries m) (sym (fin.get-entries m id) ∙ none id refl le)

-- ---- an address, and an earlier pick that it overlaps

module _ (m : Memory) (earlier : Option AllocId) (addr size align : ℕ) where
  pub bad_among : pick_fault m addr size align ≡ Some BadAddress → address_among m earlier addr size align ≡ fault rule.BadAddress
  unfolding range_fault
  bad_among h = by_parts (is_bad_address addr size align) (first_overlapped addr size (ranges_of m)) h
    where
      by_parts : (b : Bool) (o : Option AllocId) → cond b (Some BadAddress) (reused o) ≡ Some BadAddress → address_fault (cond b (Some BadAddress) (reused (least o earlier))) ≡ fault rule.BadAddress
      by_parts true o k = refl
      by_parts false None k = absurd (cc)
      by_parts false (Some id) k = absurd (cc)

  pub known_among : (known : Option AllocId) → pick_fault m addr size align ≡ reused known → address_among m earlier addr size align ≡ address_fault (reused (least known earlier))
  unfolding range_fault
  known_among known h = by_parts (is_bad_address addr size align) (first_overlapped addr size (ranges_of m)) known h
    where
      by_parts : (b : Bool) (o k : Option AllocId) → cond b (Some BadAddress) (reused o) ≡ reused k
          → address_fault (cond b (Some BadAddress) (reused (least o earlier))) ≡ address_fault (reused (least k earlier))
      by_parts true o None e = absurd (cc)
      by_parts true o (Some id) e = absurd (cc)
      by_parts false None None e = refl
      by_parts false None (Some id) e = absurd (cc)
      by_parts false (Some x) None e = absurd (cc)
      by_parts false (Some x) (Some y) e = let same : x ≡ y = cc in ap (λ z. address_fault (reused (least (Some z) earlier))) same

-- ---- the picks before one

-- the ranges of a memory and of the picks before, and the thread's count behind them
abbrev pub ranges_behind : Memory → ℕ → ℕ → List Ask → List ℕ → Ranges
ranges_behind m t count asks picks = with_ranges (ranges_of m) (picked t count asks picks)

abbrev pub count_behind : ℕ → ℕ → List Ask → List ℕ → ℕ
count_behind t count asks picks = count + length (picked t count asks picks)

-- AN ADDRESS is judged by the memory's ranges and those of the earlier picks
pub address_is : (m : Memory) (t count : ℕ) (asks : List Ask) (picks : List ℕ) (addr size align : ℕ) → IsUncounted m t count
    → address_fault (range_fault (ranges_behind m t count asks picks) addr size align) ≡ address_among m (first_overlapped addr size (picked t count asks picks)) addr size align
unfolding range_fault
address_is m t count asks picks addr size align none =
    ap (λ o. address_fault (cond (is_bad_address addr size align) (Some BadAddress) (reused o)))
    (overlaps addr size (ranges_of m) t count asks picks (ranges_sorted m) (ranges_uncounted m t count none))

-- what the picks that are left come to, behind those before
abbrev pub fault_behind : List Status → Memory → ℕ → ℕ → List Ask → List ℕ → List Ask → List ℕ → Option Fault
fault_behind ss m t count asks picks more rest = picks_fault ss (ranges_behind m t count asks picks) t (count_behind t count asks picks) more rest

-- the range of one pick more
abbrev one : ℕ → ℕ → Ask → ℕ → Ranges
one t count ask pick = picked t count (ask ∷ []) (pick ∷ [])

picked_more : (t count : ℕ) (asks : List Ask) (picks : List ℕ) (ask : Ask) (pick : ℕ) → length asks ≡ length picks
    → picked t count (asks ++ ask ∷ []) (picks ++ pick ∷ []) ≡ picked t count asks picks ++ one t (count_behind t count asks picks) ask pick
picked_more t count [] [] ask pick e = ap (λ n. one t n ask pick) same
  where
    same : count ≡ count + 0
    same = omega arith
picked_more t count [] (p ∷ picks) ask pick e = absurd (omega arith)
picked_more t count (a ∷ asks) [] ask pick e = absurd (omega arith)
picked_more t count (Address size align ∷ asks) (addr ∷ picks) ask pick e =
    ap (λ rs. (record { thread = t; count = count }, record { addr = addr; size = size }) ∷ rs)
    (picked_more t (count + 1) asks picks ask pick (omega arith) ∙ ap (λ n. picked t (count + 1) asks picks ++ one t n ask pick) same)
  where
    same : (count + 1) + length (picked t (count + 1) asks picks) ≡ count + suc (length (picked t (count + 1) asks picks))
    same = omega arith
picked_more t count (Waiter lock ∷ asks) (thread ∷ picks) ask pick e = picked_more t count asks picks ask pick (omega arith)

joined : (rs more last : Ranges) → with_ranges rs (more ++ last) ≡ with_ranges (with_ranges rs more) last
joined rs [] last = refl
joined rs (r ∷ more) last = joined (put id_cmp r.0 r.1 rs) more last

length_joined : (xs ys : Ranges) → length (xs ++ ys) ≡ length xs + length ys
length_joined [] ys = omega arith
length_joined (x ∷ xs) ys = let e = length_joined xs ys in omega arith

waits_on : (b : Bool) (o : Option Fault) → cond b None (fault rule.NotWaiting) ≡ None → cond b o (fault rule.NotWaiting) ≡ o
waits_on true o h = refl
waits_on false o h = absurd (cc)

-- a thread that doesn't wait, whatever else is picked
not_waiting : (b : Bool) (o : Option Fault) (f : Fault) → cond b None (fault rule.NotWaiting) ≡ Some f → cond b o (fault rule.NotWaiting) ≡ Some f
not_waiting true o f h = absurd (cc)
not_waiting false o f h = h

module _ (ss : List Status) (m : Memory) (t count : ℕ) (asks : List Ask) (picks : List ℕ) (same : length asks ≡ length picks) where
  abbrev here : ℕ
  here = count_behind t count asks picks

  ranges_more : (ask : Ask) (pick : ℕ) → ranges_behind m t count (asks ++ ask ∷ []) (picks ++ pick ∷ []) ≡ with_ranges (ranges_behind m t count asks picks) (one t here ask pick)
  ranges_more ask pick = ap (with_ranges (ranges_of m)) (picked_more t count asks picks ask pick same) ∙ joined (ranges_of m) (picked t count asks picks) (one t here ask pick)

  count_more : (ask : Ask) (pick : ℕ) → count_behind t count (asks ++ ask ∷ []) (picks ++ pick ∷ []) ≡ here + length (one t here ask pick)
  count_more ask pick =
      ap (λ rs. count + length rs) (picked_more t count asks picks ask pick same)
      ∙ (let e = length_joined (picked t count asks picks) (one t here ask pick) in omega (arith, e))

  -- behind an address that breaks no rule
  pub behind_address : (size align addr : ℕ) (more : List Ask) (rest : List ℕ) → address_fault (range_fault (ranges_behind m t count asks picks) addr size align) ≡ None
      → fault_behind ss m t count asks picks (Address size align ∷ more) (addr ∷ rest) ≡ fault_behind ss m t count (asks ++ Address size align ∷ []) (picks ++ addr ∷ []) more rest
  behind_address size align addr more rest legal =
      ap (λ o. else_fault o (picks_fault ss (with_range (ranges_behind m t count asks picks) (record { thread = t; count = here }) addr size) t (here + 1) more rest)) legal
      ∙ (λ i. picks_fault ss (sym (ranges_more (Address size align) addr) i) t (sym (count_more (Address size align) addr) i) more rest)

  -- behind a thread that waits
  pub behind_waiter : (lock thread : ℕ) (more : List Ask) (rest : List ℕ) → waiter_fault ss lock thread ≡ None
      → fault_behind ss m t count asks picks (Waiter lock ∷ more) (thread ∷ rest) ≡ fault_behind ss m t count (asks ++ Waiter lock ∷ []) (picks ++ thread ∷ []) more rest
  behind_waiter lock thread more rest legal =
      waits_on (on_lock lock (slice_get ss thread)) (picks_fault ss (ranges_behind m t count asks picks) t here more rest) legal
      ∙ (λ i. picks_fault ss (sym (ranges_more (Waiter lock) thread) i) t ((none_more ∙ sym (count_more (Waiter lock) thread)) i) more rest)
    where
      none_more : here ≡ here + 0
      none_more = omega arith

-- ---- one pick more

module _ (ss : List Status) (m : Memory) (t count : ℕ) (asks : List Ask) (picks : List ℕ) (none : IsUncounted m t count) (i : ℕ) (d : Ask) where
  -- what all come to is what those come to that are left at a position
  abbrev pub Left : ℕ → Type 0
  Left k = picks_fault ss (ranges_of m) t count asks picks ≡ fault_behind ss m t count (take k asks) (take k picks) (drop k asks) (drop k picks)

  abbrev ask : Ask
  ask = get_or asks i d

  abbrev pick : ℕ
  pick = get_or picks i 0

  abbrev earlier : ℕ → Option AllocId
  earlier size = first_overlapped pick size (picked t count (take i asks) (take i picks))

  pub no_pick_left : Left i → i < length asks → length picks ≤ i → picks_fault ss (ranges_of m) t count asks picks ≡ fault rule.MissingPick
  no_pick_left left inside few =
      left ∙ (λ k. fault_behind ss m t count (take i asks) (take i picks) (left_at asks i d inside k) (drop_of_length-le picks few k))

  pub picks_left : Left i → length asks ≤ i → i < length picks → picks_fault ss (ranges_of m) t count asks picks ≡ fault rule.ExtraPick
  picks_left left all more =
      left ∙ (λ k. fault_behind ss m t count (take i asks) (take i picks) (drop_of_length-le asks all k) (left_at picks i 0 more k))

  module _ (left : Left i) (inside : i < length asks) (there : i < length picks) where
    same : length (take i asks) ≡ length (take i picks)
    same = length-take-le i asks (omega arith) ∙ sym (length-take-le i picks (omega arith))

    begun : picks_fault ss (ranges_of m) t count asks picks ≡ fault_behind ss m t count (take i asks) (take i picks) (ask ∷ drop (i + 1) asks) (pick ∷ drop (i + 1) picks)
    begun = left ∙ (λ k. fault_behind ss m t count (take i asks) (take i picks) (left_at asks i d inside k) (left_at picks i 0 there k))

    behind : fault_behind ss m t count (take i asks ++ ask ∷ []) (take i picks ++ pick ∷ []) (drop (i + 1) asks) (drop (i + 1) picks)
        ≡ fault_behind ss m t count (take (i + 1) asks) (take (i + 1) picks) (drop (i + 1) asks) (drop (i + 1) picks)
    behind = λ k. fault_behind ss m t count (sym (one_more_at asks i d inside) k) (sym (one_more_at picks i 0 there) k) (drop (i + 1) asks) (drop (i + 1) picks)

    module _ (size align : ℕ) (is : ask ≡ Address size align) where
      at_address : picks_fault ss (ranges_of m) t count asks picks ≡ fault_behind ss m t count (take i asks) (take i picks) (Address size align ∷ drop (i + 1) asks) (pick ∷ drop (i + 1) picks)
      at_address = begun ∙ (λ k. fault_behind ss m t count (take i asks) (take i picks) (is k ∷ drop (i + 1) asks) (pick ∷ drop (i + 1) picks))

      judged : address_fault (range_fault (ranges_behind m t count (take i asks) (take i picks)) pick size align) ≡ address_among m (earlier size) pick size align
      judged = address_is m t count (take i asks) (take i picks) pick size align none

      pub address_passes : address_among m (earlier size) pick size align ≡ None → Left (i + 1)
      address_passes passes =
          at_address ∙ behind_address ss m t count (take i asks) (take i picks) same size align pick (drop (i + 1) asks) (drop (i + 1) picks) (judged ∙ passes)
          ∙ (λ k. fault_behind ss m t count (take i asks ++ sym is k ∷ []) (take i picks ++ pick ∷ []) (drop (i + 1) asks) (drop (i + 1) picks)) ∙ behind

      pub address_refused : (f : Fault) → address_among m (earlier size) pick size align ≡ Some f → picks_fault ss (ranges_of m) t count asks picks ≡ Some f
      address_refused f refused =
          at_address ∙ (λ k. else_fault ((judged ∙ refused) k) (picks_fault ss (with_range (ranges_behind m t count (take i asks) (take i picks)) (record { thread = t; count = count_behind t count (take i asks) (take i picks) }) pick size) t (count_behind t count (take i asks) (take i picks) + 1) (drop (i + 1) asks) (drop (i + 1) picks)))

    module _ (lock : ℕ) (is : ask ≡ Waiter lock) where
      at_waiter : picks_fault ss (ranges_of m) t count asks picks ≡ fault_behind ss m t count (take i asks) (take i picks) (Waiter lock ∷ drop (i + 1) asks) (pick ∷ drop (i + 1) picks)
      at_waiter = begun ∙ (λ k. fault_behind ss m t count (take i asks) (take i picks) (is k ∷ drop (i + 1) asks) (pick ∷ drop (i + 1) picks))

      pub waiter_passes : waiter_fault ss lock pick ≡ None → Left (i + 1)
      waiter_passes passes =
          at_waiter ∙ behind_waiter ss m t count (take i asks) (take i picks) same lock pick (drop (i + 1) asks) (drop (i + 1) picks) passes
          ∙ (λ k. fault_behind ss m t count (take i asks ++ sym is k ∷ []) (take i picks ++ pick ∷ []) (drop (i + 1) asks) (drop (i + 1) picks)) ∙ behind

      pub waiter_refused : (f : Fault) → waiter_fault ss lock pick ≡ Some f → picks_fault ss (ranges_of m) t count asks picks ≡ Some f
      waiter_refused f refused = at_waiter ∙ not_waiting (on_lock lock (slice_get ss pick)) (fault_behind ss m t count (take i asks) (take i picks) (drop (i + 1) asks) (drop (i + 1) picks)) f refused

-- ---- the picks of a thread that an address overlaps

module _ (addr size t : ℕ) (asks : List Ask) (picks : List ℕ) (i next : ℕ) (d : Ask) (inside : i < length asks) (there : i < length picks) where
  -- those that are left begin with this one
  begins : picked t next (drop i asks) (drop i picks) ≡ picked t next (get_or asks i d ∷ drop (i + 1) asks) (get_or picks i 0 ∷ drop (i + 1) picks)
  begins = λ k. picked t next (left_at asks i d inside k) (left_at picks i 0 there k)

  pub overlap_at : (s align : ℕ) → get_or asks i d ≡ Address s align
      → first_overlapped addr size (picked t next (drop i asks) (drop i picks))
      ≡ cond (is_meeting addr size (get_or picks i 0) s) (Some (id_of t next)) (first_overlapped addr size (picked t (next + 1) (drop (i + 1) asks) (drop (i + 1) picks)))
  overlap_at s align is = ap (first_overlapped addr size) (begins ∙ (λ k. picked t next (is k ∷ drop (i + 1) asks) (get_or picks i 0 ∷ drop (i + 1) picks)))

  pub no_overlap_at : (lock : ℕ) → get_or asks i d ≡ Waiter lock
      → first_overlapped addr size (picked t next (drop i asks) (drop i picks)) ≡ first_overlapped addr size (picked t next (drop (i + 1) asks) (drop (i + 1) picks))
  no_overlap_at lock is = ap (first_overlapped addr size) (begins ∙ (λ k. picked t next (is k ∷ drop (i + 1) asks) (get_or picks i 0 ∷ drop (i + 1) picks)))
