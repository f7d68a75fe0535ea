-- The least identity whose range is overlapped, where the ranges of a thread's picks join others.
use Rattle.mr_start.proofs.Common.{◌≡◌, ℕ, ◌+◌, ◌<◌, ◌≤◌, refl, sym, ap, ◌∙◌, subst, arith, List, [], ◌∷◌, Option, Bool, true, false, cond, Some, None, T, ◌&&◌, AllocId, Ranges, first_overlapped, id_cmp, id_total, Ask, Address, Waiter, least, picked}
use Rattle.std.specs.FinMap.Entries.{put, by_order, below_all, is_sorted, find, is_sorted-put, find-put}
use Rattle.std.specs.Ordering.{is_eq, is_lt, nat_cmp, ordering_then, ordering_reverse}
use Rattle.std.specs.Cmp.{nat_cmp_is, nat_cmp_total, tied_itself}
use Rattle.std.specs.declared.cmp.Ordering.{Ordering}
use Rattle.std.specs.declared.cmp.Ordering.TheVariants.{Less, Equal, Greater}
use Rattle.mr_base.specs.Pairs.{is_meeting}
use Rattle.mr_mem.specs.Memory.{Range}

-- these ranges join others, each in its place
abbrev pub with_ranges : Ranges → Ranges → Ranges
with_ranges rs [] = rs
with_ranges rs (r ∷ more) = with_ranges (put id_cmp r.0 r.1 rs) more

-- the identity of a thread's allocation
abbrev pub id_of : ℕ → ℕ → AllocId
id_of t count = record { thread = t; count = count }

-- the ranges have no identity of the thread with this count or a greater one
abbrev pub AreUncounted : Ranges → ℕ → ℕ → Type 0
AreUncounted rs t count = (c : ℕ) → count ≤ c → find id_cmp (id_of t c) rs ≡ None

-- an identity, where its range is overlapped
abbrev hit : Bool → AllocId → Option AllocId
hit b id = cond b (Some id) None

both_hold : (a b : Bool) → T a → T b → T (a && b)
both_hold true b p q = q
both_hold false b p q = p

first_holds : (a b : Bool) → T (a && b) → T a
first_holds true b p = tt
first_holds false b p = p

second_holds : (a b : Bool) → T (a && b) → T b
second_holds true b p = p
second_holds false b p = absurd p

is_less : (o : Ordering) → T (is_lt o) → o ≡ Less
is_less Less p = refl
is_less Equal p = absurd p
is_less Greater p = absurd p

lesser : (a b : AllocId) → id_cmp a b ≡ Less → T (is_lt (id_cmp a b))
lesser a b e = subst (λ o. T (is_lt o)) (sym e) tt

-- every identity that is found is above this one
abbrev IsBelow : AllocId → Option AllocId → Type 0
IsBelow x o = (q : AllocId) → o ≡ Some q → id_cmp x q ≡ Less

some_is : (x y : AllocId) → Some x ≡ Some y → x ≡ y
some_is x y e = cc

below_found : (addr size : ℕ) (x : AllocId) (rs : Ranges) → T (below_all id_cmp x rs) → IsBelow x (first_overlapped addr size rs)
below_found addr size x [] h q e = absurd (cc)
below_found addr size x (r ∷ rs) h q e =
    by_test (is_meeting addr size r.1.addr r.1.size) (below_found addr size x rs (second_holds (is_lt (id_cmp x r.0)) (below_all id_cmp x rs) h) q) e
  where
    here : id_cmp x r.0 ≡ Less
    here = is_less (id_cmp x r.0) (first_holds (is_lt (id_cmp x r.0)) (below_all id_cmp x rs) h)

    by_test : (b : Bool) → (first_overlapped addr size rs ≡ Some q → id_cmp x q ≡ Less) → cond b (Some r.0) (first_overlapped addr size rs) ≡ Some q → id_cmp x q ≡ Less
    by_test true later k = subst (λ y. id_cmp x y ≡ Less) (some_is r.0 q k) here
    by_test false later k = later k

-- ---- the lesser of two

least_none : (o : Option AllocId) → least o None ≡ o
least_none None = refl
least_none (Some x) = refl

-- one below all that are found
least_below : (x : AllocId) (o : Option AllocId) → IsBelow x o → least o (Some x) ≡ Some x
least_below x None h = refl
least_below x (Some q) h = ap (λ r. cond (is_lt r) (Some x) (Some q)) (h q refl)

kept_below : (x : AllocId) (o : Option AllocId) → IsBelow x o → least (Some x) o ≡ Some x
kept_below x None h = refl
kept_below x (Some q) h = ap (λ r. cond (is_lt r) (Some q) (Some x)) (id_total.antisymm q x ∙ ap ordering_reverse (h q refl))

-- an identity that is not above one is below all that that one is below
still_below : (x q : AllocId) (o : Option AllocId) → is_lt (id_cmp x q) ≡ false → IsBelow x o → IsBelow q o
still_below x q o n h p e = by_order_of (id_cmp x q) refl n
  where
    by_order_of : (r : Ordering) → id_cmp x q ≡ r → is_lt r ≡ false → id_cmp q p ≡ Less
    by_order_of Less is k = absurd (cc)
    by_order_of Equal is k = sym (id_total.congr x q p is) ∙ h p e
    by_order_of Greater is k = id_total.trans q x p (id_total.antisymm q x ∙ ap ordering_reverse is) (h p e)

least_joins : (x : AllocId) (b : Bool) (f o : Option AllocId) → IsBelow x o → least (least f (hit b x)) o ≡ least f (cond b (Some x) o)
least_joins x false f o h = ap (λ g. least g o) (least_none f)
least_joins x true None o h = kept_below x o h
least_joins x true (Some q) o h = by_test (is_lt (id_cmp x q)) refl
  where
    by_test : (b : Bool) → is_lt (id_cmp x q) ≡ b → least (cond b (Some x) (Some q)) o ≡ cond b (Some x) (Some q)
    by_test true is = kept_below x o h
    by_test false is = kept_below q o (still_below x q o is h)

-- ---- one range more

not_found : {A : Type 0} (a : A) (o : Option A) → Some a ≡ None → ⊥
not_found a o e = absurd (cc)

overlap-put : (addr size : ℕ) (id : AllocId) (r : Range) (rs : Ranges) → T (is_sorted id_cmp rs) → find id_cmp id rs ≡ None
    → first_overlapped addr size (put id_cmp id r rs) ≡ least (first_overlapped addr size rs) (hit (is_meeting addr size r.addr r.size) id)
overlap-put addr size id r [] h none = refl
overlap-put addr size id r (e ∷ es) h none =
    by_order_of (id_cmp id e.0) refl (overlap-put addr size id r es (second_holds (below_all id_cmp e.0 es) (is_sorted id_cmp es) h))
  where
    behind : T (below_all id_cmp e.0 es)
    behind = first_holds (below_all id_cmp e.0 es) (is_sorted id_cmp es) h

    in_front : id_cmp id e.0 ≡ Less → (es : Ranges) → T (below_all id_cmp e.0 es) → T (below_all id_cmp id es)
    in_front less [] k = tt
    in_front less (f ∷ fs) k =
        both_hold (is_lt (id_cmp id f.0)) (below_all id_cmp id fs)
        (lesser id f.0 (id_total.trans id e.0 f.0 less (is_less (id_cmp e.0 f.0) (first_holds (is_lt (id_cmp e.0 f.0)) (below_all id_cmp e.0 fs) k))))
        (in_front less fs (second_holds (is_lt (id_cmp e.0 f.0)) (below_all id_cmp e.0 fs) k))

    before : IsBelow id (first_overlapped addr size (e ∷ es)) → (x : Bool) → cond x (Some id) (first_overlapped addr size (e ∷ es)) ≡ least (first_overlapped addr size (e ∷ es)) (hit x id)
    before k true = sym (least_below id (first_overlapped addr size (e ∷ es)) k)
    before k false = sym (least_none (first_overlapped addr size (e ∷ es)))

    later : id_cmp id e.0 ≡ Greater → (x : Bool) → Some e.0 ≡ least (Some e.0) (hit x id)
    later is true = sym (ap (λ o. cond (is_lt o) (Some id) (Some e.0)) is)
    later is false = refl

    behind_first : id_cmp id e.0 ≡ Greater → (x : Bool) → first_overlapped addr size (put id_cmp id r es) ≡ least (first_overlapped addr size es) (hit (is_meeting addr size r.addr r.size) id)
        → cond x (Some e.0) (first_overlapped addr size (put id_cmp id r es)) ≡ least (cond x (Some e.0) (first_overlapped addr size es)) (hit (is_meeting addr size r.addr r.size) id)
    behind_first is true k = later is (is_meeting addr size r.addr r.size)
    behind_first is false k = k

    by_order_of : (o : Ordering) → id_cmp id e.0 ≡ o
        → (find id_cmp id es ≡ None → first_overlapped addr size (put id_cmp id r es) ≡ least (first_overlapped addr size es) (hit (is_meeting addr size r.addr r.size) id))
        → first_overlapped addr size (by_order o ((id, r) ∷ e ∷ es) ((e.0, r) ∷ es) (e ∷ put id_cmp id r es)) ≡ least (first_overlapped addr size (e ∷ es)) (hit (is_meeting addr size r.addr r.size) id)
    by_order_of Less is later_on = before (below_found addr size id (e ∷ es) (both_hold (is_lt (id_cmp id e.0)) (below_all id_cmp id es) (lesser id e.0 is) (in_front is es behind))) (is_meeting addr size r.addr r.size)
    by_order_of Equal is later_on = absurd (not_found e.1 (find id_cmp id es) (sym (ap (λ o. cond (is_eq o) (Some e.1) (find id_cmp id es)) is) ∙ none))
    by_order_of Greater is later_on = behind_first is (is_meeting addr size e.1.addr e.1.size) (later_on (sym (ap (λ o. cond (is_eq o) (Some e.1) (find id_cmp id es)) is) ∙ none))

-- ---- a thread's ranges

counts_less : (t a b : ℕ) → a < b → id_cmp (id_of t a) (id_of t b) ≡ Less
counts_less t a b lt = ap (λ o. ordering_then o (nat_cmp a b)) (tied_itself nat_cmp_total t) ∙ sym (nat_cmp_is a b Less lt)

below_picked : (t a count : ℕ) (asks : List Ask) (picks : List ℕ) → a < count → T (below_all id_cmp (id_of t a) (picked t count asks picks))
below_picked t a count [] picks lt = tt
below_picked t a count (ask ∷ asks) [] lt = tt
below_picked t a count (Address size align ∷ asks) (addr ∷ picks) lt =
    both_hold (is_lt (id_cmp (id_of t a) (id_of t count))) (below_all id_cmp (id_of t a) (picked t (count + 1) asks picks))
    (lesser (id_of t a) (id_of t count) (counts_less t a count lt)) (below_picked t a (count + 1) asks picks (omega arith))
below_picked t a count (Waiter lock ∷ asks) (thread ∷ picks) lt = below_picked t a count asks picks lt

counted_put : (rs : Ranges) (t count : ℕ) (r : Range) → AreUncounted rs t count → AreUncounted (put id_cmp (id_of t count) r rs) t (count + 1)
counted_put rs t count r none c le =
    find-put id_cmp id_total (id_of t c) (id_of t count) r rs
    ∙ ap (λ o. cond (is_eq o) (Some r) (find id_cmp (id_of t c) rs)) (id_total.antisymm (id_of t c) (id_of t count) ∙ ap ordering_reverse (counts_less t count c (omega arith)))
    ∙ none c (omega arith)

-- THE LEAST IDENTITY that is overlapped is that among the others, or among the thread's
pub overlaps : (addr size : ℕ) (rs : Ranges) (t count : ℕ) (asks : List Ask) (picks : List ℕ) → T (is_sorted id_cmp rs) → AreUncounted rs t count
    → first_overlapped addr size (with_ranges rs (picked t count asks picks)) ≡ least (first_overlapped addr size rs) (first_overlapped addr size (picked t count asks picks))
overlaps addr size rs t count [] picks h none = sym (least_none (first_overlapped addr size rs))
overlaps addr size rs t count (ask ∷ asks) [] h none = sym (least_none (first_overlapped addr size rs))
overlaps addr size rs t count (Address s align ∷ asks) (a ∷ picks) h none =
    let id = id_of t count in
    let r : Range = record { addr = a; size = s } in
    let more = picked t (count + 1) asks picks in
    overlaps addr size (put id_cmp id r rs) t (count + 1) asks picks (is_sorted-put id_cmp id_total id r rs h) (counted_put rs t count r none)
    ∙ ap (λ o. least o (first_overlapped addr size more)) (overlap-put addr size id r rs h (none count (omega arith)))
    ∙ least_joins id (is_meeting addr size a s) (first_overlapped addr size rs) (first_overlapped addr size more)
    (below_found addr size id more (below_picked t count (count + 1) asks picks (omega arith)))
overlaps addr size rs t count (Waiter lock ∷ asks) (thread ∷ picks) h none = overlaps addr size rs t count asks picks h none
