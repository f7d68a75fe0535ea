-- An allocation adds its range; freeing and storing keep all ranges.
use Rattle.mr_mem.proofs.Common.{◌≡◌, ℕ, ◌-◌, refl, sym, ap, ◌∙◌, List, [], ◌∷◌, Bool, true, false, cond, length, Some, None, Option, ◌&&◌, OnErr, Result, Ok, Err, put, by_order, below_all, is_sorted, find, is_eq, is_lt, Ordering, Less, Equal, Greater, AbstractByte, AllocId, Pointer, Memory, Allocation, inside, put_at, ranges_of, then_give, with_range, allocated, fresh, id_cmp, freed, freed_of, refusal, without_life, unless, IsStored}
use Rattle.std.proofs.Common.{map}
use Rattle.std.specs.Prelude.{T}
use Rattle.mr_base.specs.declared.byte.Kind.{Kind}
use Rattle.mr_base.specs.declared.reason.Reason.{Reason}
use Rattle.mr_runs.specs.Ranges.{with_range_replaced}
use Rattle.mr_mem.specs.declared.fault.Fault.{Fault}
use Rattle.mr_mem.specs.Memory.{range_of}
use Rattle.std.specs.FinMap as fin
use Rattle.mr_mem.proofs.Identities.{id_total, is_less}
use Rattle.mr_mem.proofs.Views.{no_entries}

map_by_order : {A B : Type 0} (f : A → B) (r : Ordering) (a b c : List A) → map f (by_order r a b c) ≡ by_order r (map f a) (map f b) (map f c)
map_by_order f Less a b c = refl
map_by_order f Equal a b c = refl
map_by_order f Greater a b c = refl

pub ranges-empty : ranges_of fin.empty ≡ []
unfolding ranges_of
ranges-empty = ap (map range_of) no_entries

range_put : (id : AllocId) (a : Allocation) (es : List (AllocId × Allocation)) → map range_of (put id_cmp id a es) ≡ with_range (map range_of es) id a.addr a.span
range_put id a [] = refl
range_put id a (e ∷ es) =
    map_by_order range_of (id_cmp id e.0) _ _ _
    ∙ ap (λ rs. by_order (id_cmp id e.0) (map range_of ((id, a) ∷ e ∷ es)) (map range_of ((e.0, a) ∷ es)) (range_of e ∷ rs)) (range_put id a es)

-- the ranges behind an insertion
pub ranges-insert : (m : Memory) (id : AllocId) (a : Allocation) → ranges_of (fin.insert m id a) ≡ with_range (ranges_of m) id a.addr a.span
unfolding ranges_of
ranges-insert m id a = ap (map range_of) (fin.entries-insert id_total m id a) ∙ range_put id a (fin.entries m)

pub ranges-allocated : (m : Memory) (id : AllocId) (kind : Kind) (size align addr : _) → ranges_of (allocated m id kind size align addr) ≡ with_range (ranges_of m) id addr size
ranges-allocated m id kind size align addr = ranges-insert m id (fresh kind size align addr)

first : (a b : Bool) → (a && b) ≡ true → a ≡ true
first true b p = refl
first false b p = p

second : (a b : Bool) → (a && b) ≡ true → b ≡ true
second true b p = p
second false b p = cc

-- a key below all others is none of them
find_below : (id : AllocId) (es : List (AllocId × Allocation)) → below_all id_cmp id es ≡ true → find id_cmp id es ≡ None
find_below id [] p = refl
find_below id (e ∷ es) p =
    ap (λ r. cond (is_eq r) (Some e.1) (find id_cmp id es)) (is_less _ (first _ _ p)) ∙ find_below id es (second _ _ p)

below_less : (x y : AllocId) (es : List (AllocId × Allocation)) → id_cmp x y ≡ Less → below_all id_cmp y es ≡ true → below_all id_cmp x es ≡ true
below_less x y [] p h = refl
below_less x y (e ∷ es) p h =
    ap (λ r. is_lt r && below_all id_cmp x es) (id_total.trans x y e.0 p (is_less _ (first _ _ h))) ∙ below_less x y es p (second _ _ h)

-- a value of the same range in the place of one that is there
same_put : (id : AllocId) (a b : Allocation) (es : List (AllocId × Allocation)) → is_sorted id_cmp es ≡ true → find id_cmp id es ≡ Some a
    → a.addr ≡ b.addr → a.span ≡ b.span → map range_of (put id_cmp id b es) ≡ map range_of es
same_put id a b [] h f e d = cc
same_put id a b (x ∷ es) h f e d = by_test (λ g. same_put id a b es (second _ _ h) g e d) (id_cmp id x.0) refl
  where
    by_test : (find id_cmp id es ≡ Some a → map range_of (put id_cmp id b es) ≡ map range_of es) → (r : Ordering) → id_cmp id x.0 ≡ r → map range_of (by_order r ((id, b) ∷ x ∷ es) ((x.0, b) ∷ es) (x ∷ put id_cmp id b es)) ≡ map range_of (x ∷ es)
    by_test more Less t =
        let none : find id_cmp id (x ∷ es) ≡ None =
        ap (λ r. cond (is_eq r) (Some x.1) (find id_cmp id es)) t ∙ find_below id es (below_less id x.0 es t (first _ _ h)) in cc
    by_test more Equal t =
        let here : Some x.1 ≡ Some a = sym (ap (λ r. cond (is_eq r) (Some x.1) (find id_cmp id es)) t) ∙ f in
        let same : x.1 ≡ a = cc in
        let addr : b.addr ≡ x.1.addr = sym e ∙ ap (λ w. w.addr) (sym same) in
        let span : b.span ≡ x.1.span = sym d ∙ ap (λ w. w.span) (sym same) in
        λ i. (x.0, record { addr = addr i; size = span i }) ∷ map range_of es
    by_test more Greater t =
        let there : find id_cmp id es ≡ Some a = sym (ap (λ r. cond (is_eq r) (Some x.1) (find id_cmp id es)) t) ∙ f in
        ap (λ rs. range_of x ∷ rs) (more there)

truth : (b : Bool) → T b → b ≡ true
truth true h = refl
truth false h = absurd h

same_ranges : (m : Memory) (id : AllocId) (a b : Allocation) → fin.get m id ≡ Some a → a.addr ≡ b.addr → a.span ≡ b.span → ranges_of (fin.insert m id b) ≡ ranges_of m
unfolding ranges_of
same_ranges m id a b g e d =
    ap (map range_of) (fin.entries-insert id_total m id b)
    ∙ same_put id a b (fin.entries m) (truth _ (fin.entries_sorted m)) (sym (fin.get-entries m id) ∙ g) e d

-- ---- freeing

pub ranges-without_life : (m : Memory) (id : AllocId) (o : Option Allocation) → fin.get m id ≡ o → ranges_of (without_life m id o) ≡ ranges_of m
ranges-without_life m id None g = refl
ranges-without_life m id (Some a) g = same_ranges m id a (record a { live = false }) g refl refl

freed_unless : (m m' : Memory) (id id' : AllocId) (r : Option Reason) → unless {A = AllocId × Memory} r (id, without_life m id (fin.get m id)) ≡ Ok (id', m') → ranges_of m' ≡ ranges_of m
freed_unless m m' id id' None h =
    let e : without_life m id (fin.get m id) ≡ m' = ap (λ r. ok_memory m r) h in
    ap ranges_of (sym e) ∙ ranges-without_life m id (fin.get m id) refl
  where
    ok_memory : Memory → Result (AllocId × Memory) Reason → Memory
    ok_memory d (Ok x) = x.1
    ok_memory d (Err r) = d
freed_unless m m' id id' (Some r) h = cc

freed_by : (m m' : Memory) (prov : Option AllocId) (addr : ℕ) (kind : Kind) (size align : ℕ) (id' : AllocId) → freed_of m prov addr kind size align ≡ Ok (id', m') → ranges_of m' ≡ ranges_of m
freed_by m m' None addr kind size align id' h = cc
freed_by m m' (Some id) addr kind size align id' h = freed_unless m m' id id' (refusal (fin.get m id) addr kind size align) h

-- freeing keeps all ranges
pub ranges-freed : (m m' : Memory) (p : Pointer) (kind : Kind) (size align : ℕ) (id : AllocId) → freed m p kind size align ≡ Ok (id, m') → ranges_of m' ≡ ranges_of m
unfolding freed
ranges-freed m m' p kind size align id h = freed_by m m' p.prov p.addr kind size align id h

-- ---- storing

put_inside : (m m' : Memory) (id : AllocId) (a b : Allocation) (r : Result Allocation Reason) → fin.get m id ≡ Some a → a.addr ≡ b.addr → a.span ≡ b.span
    → then_give (then_give r (λ _. b)) (fin.insert m id) ≡ Ok m' → ranges_of m' ≡ ranges_of m
put_inside m m' id a b (Ok x) g e d h =
    let stored : fin.insert m id b ≡ m' = cc in
    ap ranges_of (sym stored) ∙ same_ranges m id a b g e d
put_inside m m' id a b (Err r) g e d h = cc

put_into : (m m' : Memory) (id : AllocId) (o : Option Allocation) (addr : ℕ) (bytes : List AbstractByte) → fin.get m id ≡ o → put_at m id o addr bytes ≡ Ok m' → ranges_of m' ≡ ranges_of m
put_into m m' id None addr bytes g h = cc
put_into m m' id (Some a) addr bytes g h =
    put_inside m m' id a (record a { bytes = with_range_replaced a.bytes (addr - a.addr) bytes }) (inside (Some a) addr (length bytes)) g refl refl h

-- storing keeps all ranges, whatever it comes to
pub ranges-stored : (m m' : Memory) (id : AllocId) (addr : ℕ) (bytes : List AbstractByte) (result : Result (Unit {0}) Fault)
    → IsStored (put_at m id (fin.get m id) addr bytes) m' result → OnErr result (m' ≡ m) → ranges_of m' ≡ ranges_of m
ranges-stored m m' id addr bytes (Ok u) h same = put_into m m' id (fin.get m id) addr bytes refl h
ranges-stored m m' id addr bytes (Err e) h same = ap ranges_of same

-- ---- the ranges of a memory, by identity

below_ranges : (id : AllocId) (es : List (AllocId × Allocation)) → below_all id_cmp id (map range_of es) ≡ below_all id_cmp id es
below_ranges id [] = refl
below_ranges id (e ∷ es) = ap (λ b. is_lt (id_cmp id e.0) && b) (below_ranges id es)

sorted_ranges : (es : List (AllocId × Allocation)) → is_sorted id_cmp (map range_of es) ≡ is_sorted id_cmp es
sorted_ranges [] = refl
sorted_ranges (e ∷ es) = λ i. below_ranges e.0 es i && sorted_ranges es i

absent_ranges : (id : AllocId) (es : List (AllocId × Allocation)) → find id_cmp id es ≡ None → find id_cmp id (map range_of es) ≡ None
absent_ranges id [] h = refl
absent_ranges id (e ∷ es) h = by_test (is_eq (id_cmp id e.0)) (absent_ranges id es) h
  where
    by_test : (b : Bool) → (find id_cmp id es ≡ None → find id_cmp id (map range_of es) ≡ None) → cond b (Some e.1) (find id_cmp id es) ≡ None → cond b (Some (range_of e).1) (find id_cmp id (map range_of es)) ≡ None
    by_test true later k = absurd (cc)
    by_test false later k = later k

pub ranges_sorted : (m : Memory) → is_sorted id_cmp (ranges_of m) ≡ true
unfolding ranges_of
ranges_sorted m = sorted_ranges (fin.entries m) ∙ truth _ (fin.entries_sorted m)

-- what has no allocation has no range
pub ranges_absent : (m : Memory) (id : AllocId) → fin.get m id ≡ None → find id_cmp id (ranges_of m) ≡ None
unfolding ranges_of
ranges_absent m id none = absent_ranges id (fin.entries m) (sym (fin.get-entries m id) ∙ none)
