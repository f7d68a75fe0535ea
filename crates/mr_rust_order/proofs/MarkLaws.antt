-- Marks in their order, and the rows that are found by them.
use Rattle.mr_rust_order.proofs.Common.{◌≡◌, ℕ, zero, suc, ◌⊎◌, inl, inr, ◌+◌, ◌-◌, ◌<◌, ◌≤◌, ◌^◌, List, [], ◌∷◌, ◌++◌, Bool, true, false, cond, length, get_or, refl, sym, ◌∙◌, ap, subst, arith, and_parts, both_ways, get_or_append_left, get_or_push, get_or_read, ℕ_discrete, ◌&&◌, ◌||◌, Access, conflicts, overlaps, Mark, Shelf, Row, AreKept, AreMarked, IsListed, IsMarked, IsOnShelf, has_mark, mark_of, no_shelf, shelf_at, row_at}
use Rattle.std.proofs.Common.{map, length-append, min}
use Rattle.std.proofs.lemmas.List.{get_or-append-add, get_or-map, length-map}
use Rattle.std.proofs.lemmas.Map.Lookups.{CmpEqualImpliesEq, exact_unsigned}
use Rattle.std.proofs.lemmas.Map.Views.{Contains-from_any, any-filter_same, range_contains-from_IsInRange, tells_apart}
use Rattle.std.specs.BTreeMap.{is_at}
use Rattle.std.specs.BTreeMap.Range.{range_contains}
use Rattle.std.specs.Cmp.{IsTotalOrder, on_total, then_total, nat_cmp_total, ranked}
use Rattle.std.specs.List.{filter}
use Rattle.std.specs.Ordering.{eq_by_cmp, is_gt, nat_cmp, ordering_then}
use Rattle.std.specs.declared.cmp.Ordering.{Ordering}
use Rattle.std.specs.declared.cmp.Ordering.TheVariants.{Less, Equal, Greater}
use Rattle.std.specs.declared.ops.Bound.TheVariants.{Included}
use Rattle.mr_base.proofs.Comparisons.{lt_from}
use Rattle.mr_rust_order.specs.Marks.{mark_cmp}

-- ---- the order of marks

pub mark_total : IsTotalOrder mark_cmp
mark_total =
    then_total (on_total (λ (m : Mark). m.shelf) nat_cmp_total)
    (then_total (on_total (λ (m : Mark). m.place) nat_cmp_total) (then_total (on_total (λ (m : Mark). m.thread) nat_cmp_total) (on_total (λ (m : Mark). m.row) nat_cmp_total)))

then_equal : (a b : Ordering) → ordering_then a b ≡ Equal → (a ≡ Equal) × (b ≡ Equal)
then_equal Less b e = cc
then_equal Equal b e = (refl, e)
then_equal Greater b e = cc

-- marks that compare alike are one
pub mark_exact : CmpEqualImpliesEq mark_cmp
mark_exact x y e =
    let t = then_equal (nat_cmp x.shelf y.shelf) (ordering_then (nat_cmp x.place y.place) (ordering_then (nat_cmp x.thread y.thread) (nat_cmp x.row y.row))) e in
    let u = then_equal (nat_cmp x.place y.place) (ordering_then (nat_cmp x.thread y.thread) (nat_cmp x.row y.row)) t.1 in
    let v = then_equal (nat_cmp x.thread y.thread) (nat_cmp x.row y.row) u.1 in
    let one : x.shelf ≡ y.shelf = exact_unsigned x.shelf y.shelf t.0 in
    let two : x.place ≡ y.place = exact_unsigned x.place y.place u.0 in
    let three : x.thread ≡ y.thread = exact_unsigned x.thread y.thread v.0 in
    let four : x.row ≡ y.row = exact_unsigned x.row y.row v.1 in
    λ i. record { shelf = one i; place = two i; thread = three i; row = four i }

then_low : (a b : Ordering) → is_gt a ≡ false → is_gt b ≡ false → is_gt (ordering_then a b) ≡ false
then_low Less b p q = refl
then_low Equal b p q = q
then_low Greater b p q = p

low_number : (a b : ℕ) → a ≤ b → is_gt (nat_cmp a b) ≡ false
low_number a b le = by_order (nat_cmp a b) refl
  where
    by_order : (o : Ordering) → nat_cmp a b ≡ o → is_gt o ≡ false
    by_order Less is = refl
    by_order Equal is = refl
    by_order Greater is = let above : b < a = ranked a b Greater (sym is) in absurd (omega arith)

-- a mark in the same shelf, not before it in place, in thread and in row
pub low_mark : (a b : Mark) → a.shelf ≡ b.shelf → a.place ≤ b.place → a.thread ≤ b.thread → a.row ≤ b.row → is_gt (mark_cmp a b) ≡ false
low_mark a b e p t r =
    then_low (nat_cmp a.shelf b.shelf) (ordering_then (nat_cmp a.place b.place) (ordering_then (nat_cmp a.thread b.thread) (nat_cmp a.row b.row))) (low_number a.shelf b.shelf (omega (arith, e)))
    (then_low (nat_cmp a.place b.place) (ordering_then (nat_cmp a.thread b.thread) (nat_cmp a.row b.row)) (low_number a.place b.place p)
    (then_low (nat_cmp a.thread b.thread) (nat_cmp a.row b.row) (low_number a.thread b.thread t) (low_number a.row b.row r)))

-- the same of equal marks
pub low_read : (f l a b : Mark) → f ≡ a → l ≡ b → is_gt (mark_cmp a b) ≡ false → is_gt (mark_cmp f l) ≡ false
low_read f l a b e g h = ap (λ (q : Mark). is_gt (mark_cmp q l)) e ∙ ap (λ (q : Mark). is_gt (mark_cmp a q)) g ∙ h

-- ---- numbers that stand in a list

pub listed_left : (xs ys : List ℕ) (x : ℕ) → IsListed xs x → IsListed (xs ++ ys) x
listed_left xs ys x t = (t.0, omega (arith, length-append xs ys, t.1), get_or_append_left xs ys 0 t.0 t.1 ∙ t.2)

pub listed_right : (xs ys : List ℕ) (x : ℕ) → IsListed ys x → IsListed (xs ++ ys) x
listed_right xs ys x t = (length xs + t.0, omega (arith, length-append xs ys, t.1), get_or-append-add xs ys t.0 0 ∙ t.2)

pub listed_push : (xs ys : List ℕ) (x : ℕ) → ys ≡ xs ++ x ∷ [] → IsListed ys x
listed_push xs ys x e = subst (λ (l : List ℕ). IsListed l x) (sym e) (listed_right xs (x ∷ []) x (0, omega arith, refl))

pub listed_kept : (xs ys zs : List ℕ) (x : ℕ) → ys ≡ xs ++ zs → IsListed xs x → IsListed ys x
listed_kept xs ys zs x e t = subst (λ (l : List ℕ). IsListed l x) (sym e) (listed_left xs zs x t)

-- the marks between two, as the code finds them
abbrev pub marks_between : List Mark → Mark → Mark → List Mark
marks_between marks first last = filter (range_contains mark_cmp (Included first) (Included last)) marks

abbrev pub rows_of : List Mark → List ℕ
rows_of marks = map (λ (m : Mark). m.row) marks

-- a mark that lies between them is among them
pub found_between : (marks : List Mark) (first last m : Mark) → is_gt (mark_cmp first m) ≡ false → is_gt (mark_cmp m last) ≡ false → has_mark marks m ≡ true → IsListed (rows_of (marks_between marks first last)) m.row
found_between marks first last m low high has =
    let inside = range_contains-from_IsInRange mark_total (Included first) (Included last) m (low, high) in
    let still : has_mark (marks_between marks first last) m ≡ true =
    any-filter_same (is_at (mark_cmp m)) (range_contains mark_cmp (Included first) (Included last)) true
    (λ k e. subst (λ (q : Mark). range_contains mark_cmp (Included first) (Included last) q ≡ true) (tells_apart {R = mark_cmp} mark_exact m k e) inside) marks ∙ has in
    let c = Contains-from_any {eq = eq_by_cmp mark_cmp} (λ x y t. tells_apart {R = mark_cmp} mark_exact x y t) m (marks_between marks first last) still in
    (c.0, omega (arith, length-map (marks_between marks first last) (λ (m : Mark). m.row), c.1), get_or-map (λ (m : Mark). m.row) (marks_between marks first last) c.0 m 0 c.1 ∙ ap (λ (q : Mark). q.row) c.2)

-- what the search of a part of a shelf comes to
pub collected : (marks : List Mark) (shelf low high : ℕ) (first last : Mark) → first ≡ mark_of shelf low 0 0 → last ≡ mark_of shelf high (2 ^ 32 - 1) (2 ^ 64 - 1) → (p t x : ℕ) → low ≤ p → p ≤ high → t < 2 ^ 32 → x < 2 ^ 64 → has_mark marks (mark_of shelf p t x) ≡ true → IsListed (rows_of (marks_between marks first last)) x
collected marks shelf low high first last is_first is_last p t x from to narrow small has =
    let m = mark_of shelf p t x in
    let at_first : is_gt (mark_cmp first m) ≡ false = ap (λ (q : Mark). is_gt (mark_cmp q m)) is_first ∙ low_mark (mark_of shelf low 0 0) m refl from (omega arith) (omega arith) in
    let at_last : is_gt (mark_cmp m last) ≡ false = ap (λ (q : Mark). is_gt (mark_cmp m q)) is_last ∙ low_mark m (mark_of shelf high (2 ^ 32 - 1) (2 ^ 64 - 1)) refl to (omega (arith, narrow)) (omega (arith, small)) in
    found_between marks first last m at_first at_last has

-- a number that stands in a list stands first there, or behind
pub listed_parts : (y : ℕ) (ys : List ℕ) (x : ℕ) → IsListed (y ∷ ys) x → (x ≡ y) ⊎ IsListed ys x
listed_parts y ys x (zero, lt, is) = inl (sym is)
listed_parts y ys x (suc k, lt, is) = inr (k, omega (arith, lt), is)

-- where no marks are left, all that is wanted is there
pub wanted_all : (rest : List Mark) (new : List ℕ) (x : ℕ) → rest ≡ [] → IsListed new x ⊎ IsListed (rows_of rest) x → IsListed new x
wanted_all rest new x none (inl known) = known
wanted_all rest new x none (inr left) = let t = subst (λ (l : List Mark). IsListed (rows_of l) x) none left in absurd (omega (arith, t.1))

-- ---- ranges

-- a range that conflicts with an access begins in the part that is searched for it
pub begins_inside : (r b : Access) (width : ℕ) → conflicts r b ≡ true → r.len ≤ width → (b.addr - width ≤ r.addr) × (r.addr ≤ b.addr + b.len)
begins_inside r b width h wide =
    let p = and_parts _ (overlaps r b) h in
    let q = and_parts _ _ p.1 in
    let s = and_parts _ _ q.1 in
    let t = and_parts _ _ s.1 in
    let one : r.addr < b.addr + b.len = lt_from _ _ t.0 in
    let two : b.addr < r.addr + r.len = lt_from _ _ t.1 in
    (omega (arith, two, wide), omega (arith, one))

-- two loads don't conflict
pub loads_apart : (r b : Access) → r.store ≡ false → b.store ≡ false → conflicts r b ≡ false
loads_apart r b one two = ap (λ (q : Bool). (q || b.store) && overlaps r b) one ∙ ap (λ (q : Bool). q && overlaps r b) two

-- ---- marks and shelves that were there are there

pub shelf_read : (shelves : List Shelf) (s : ℕ) (shelf : Shelf) → s < length shelves → shelf ≡ get_or shelves s shelf → shelf ≡ shelf_at shelves s
shelf_read shelves s shelf lt e = get_or_read shelves s shelf lt e no_shelf

pub all_kept_here : (shelves : List Shelf) → AreKept shelves shelves
all_kept_here shelves = λ s lt. (lt, refl)

pub kept_push : (old new : List Shelf) (shelf : Shelf) → new ≡ old ++ shelf ∷ [] → AreKept old new
kept_push old new shelf e = λ s lt.
    let long = ap length e in
    (omega (arith, lt, long, length-append old (shelf ∷ [])), ap (λ (l : List Shelf). shelf_at l s) e ∙ get_or_append_left old (shelf ∷ []) no_shelf s lt)

on_kept : (old new : List Shelf) (r : Access) (s : ℕ) → AreKept old new → IsOnShelf old r s → IsOnShelf new r s
on_kept old new r s kept on =
    let here = kept s on.within in
    record {
      within = here.0;
      narrow = let le = on.narrow in let same = ap (λ (q : Shelf). q.width) here.1 in omega (arith, le, same);
      stored = λ e. on.stored (sym (ap (λ (q : Shelf). q.stores) here.1) ∙ e);
      small = on.small;
    }

-- a range is on a shelf that was made for it
pub on_shelf : (shelves : List Shelf) (r : Access) (s : ℕ) (shelf : Shelf) → s < length shelves → shelf_at shelves s ≡ shelf → r.len ≤ shelf.width → shelf.stores ≡ r.store → r.addr < 2 ^ 64 → IsOnShelf shelves r s
on_shelf shelves r s shelf lt e wide same small = record {
  within = lt;
  narrow = let width = ap (λ (q : Shelf). q.width) e in omega (arith, wide, width);
  stored = λ none. sym same ∙ sym (ap (λ (q : Shelf). q.stores) e) ∙ none;
  small = small;
}

-- and so it is on one that is put behind the others
pub on_new_shelf : (old new : List Shelf) (r : Access) (shelf : Shelf) → new ≡ old ++ shelf ∷ [] → r.len ≤ shelf.width → shelf.stores ≡ r.store → r.addr < 2 ^ 64 → IsOnShelf new r (length old)
on_new_shelf old new r shelf e wide same small =
    let long = ap length e in
    on_shelf new r (length old) shelf (omega (arith, long, length-append old (shelf ∷ []))) (ap (λ (l : List Shelf). shelf_at l (length old)) e ∙ get_or_push old shelf no_shelf (length old) refl) wide same small

-- ---- rows that come and go

-- ---- one mark more

kept_by : (b c : Bool) → c ≡ true → cond b true c ≡ true
kept_by true c e = refl
kept_by false c e = e

-- a set of marks that has one more
pub marks_kept : (old new : List Mark) (m : Mark) → ((q : Mark) → has_mark new q ≡ cond (is_at (mark_cmp m) q) true (has_mark old q)) → (q : Mark) → has_mark old q ≡ true → has_mark new q ≡ true
marks_kept old new m updates q e = updates q ∙ kept_by (is_at (mark_cmp m) q) (has_mark old q) e

-- ---- the search, shelf by shelf

-- the ranges of a shelf
pub shelf_found : (shelves : List Shelf) (marks : List Mark) (a : Access) (s low high : ℕ) (shelf : Shelf) (P : ℕ → Type 0) → shelf ≡ shelf_at shelves s → low ≡ a.addr - shelf.width → high ≡ min (a.addr + a.len) (2 ^ 64 - 1)
    → ((p t x : ℕ) → low ≤ p → p ≤ high → t < 2 ^ 32 → x < 2 ^ 64 → has_mark marks (mark_of s p t x) ≡ true → P x)
    → (r : Access) (t x : ℕ) → conflicts r a ≡ true → IsOnShelf shelves r s → t < 2 ^ 32 → x < 2 ^ 64 → has_mark marks (mark_of s r.addr t x) ≡ true → P x
shelf_found shelves marks a s low high shelf P is is_low is_high here r t x con on narrow small has =
    let width = ap (λ (q : Shelf). q.width) is in
    let le = on.narrow in
    let part = begins_inside r a shelf.width con (omega (arith, le, width)) in
    let from = part.0 in
    let to = part.1 in
    let addr = on.small in
    here r.addr t x (omega (arith, is_low, from)) (omega (arith, is_high, to, addr)) narrow small has

-- no range of a shelf of loads conflicts with a load
pub none_found : (shelves : List Shelf) (marks : List Mark) (a : Access) (s : ℕ) (shelf : Shelf) (P : ℕ → Type 0) → shelf ≡ shelf_at shelves s → a.store ≡ false → shelf.stores ≡ false → (r : Access) (t x : ℕ) → conflicts r a ≡ true → IsOnShelf shelves r s → t < 2 ^ 32 → x < 2 ^ 64 → has_mark marks (mark_of s r.addr t x) ≡ true → P x
none_found shelves marks a s shelf P is load loads r t x con on narrow small has =
    absurd (both_ways (conflicts r a) (loads_apart r a (on.stored (sym (ap (λ (q : Shelf). q.stores) is) ∙ loads)) load) con)

-- the ranges of one more shelf
pub range_more : (shelves : List Shelf) (marks : List Mark) (C : Access → Type 0) (s : ℕ) (P Q : ℕ → Type 0)
    → ((r : Access) (t x : ℕ) → C r → IsOnShelf shelves r s → t < 2 ^ 32 → x < 2 ^ 64 → has_mark marks (mark_of s r.addr t x) ≡ true → Q x)
    → ((x : ℕ) → P x → Q x)
    → ((z : ℕ) (r : Access) (t x : ℕ) → z < s → C r → IsOnShelf shelves r z → t < 2 ^ 32 → x < 2 ^ 64 → has_mark marks (mark_of z r.addr t x) ≡ true → P x)
    → (z : ℕ) (r : Access) (t x : ℕ) → z < s + 1 → C r → IsOnShelf shelves r z → t < 2 ^ 32 → x < 2 ^ 64 → has_mark marks (mark_of z r.addr t x) ≡ true → Q x
range_more shelves marks C s P Q here kept old z r t x lt con on narrow small has =
    elim (ℕ_discrete z s) [
      | no ne ↦ kept x (old z r t x (omega (arith, lt, ne)) con on narrow small has)
      | yes is ↦
          here r t x con (subst (λ (q : ℕ). IsOnShelf shelves r q) is on) narrow small
          (ap (λ (q : ℕ). has_mark marks (mark_of q r.addr t x)) (sym is) ∙ has)
    ]

-- one more mark was looked at
pub wanted_more : (m : Mark) (rest all : List Mark) (old new : List ℕ) → all ≡ m ∷ rest → new ≡ old ++ m.row ∷ []
    → (x : ℕ) → IsListed old x ⊎ IsListed (rows_of all) x → IsListed new x ⊎ IsListed (rows_of rest) x
wanted_more m rest all old new is pushed x (inl known) = inl (listed_kept old new (m.row ∷ []) x pushed known)
wanted_more m rest all old new is pushed x (inr left) =
    elim (listed_parts m.row (rows_of rest) x (subst (λ (l : List Mark). IsListed (rows_of l) x) is left)) [
      | inl same ↦ inl (subst (λ (q : ℕ). IsListed new q) (sym same) (listed_push old new m.row pushed))
      | inr later ↦ inr later
    ]

-- the rows of all ranges that conflict
pub range_all : (shelves : List Shelf) (marks : List Mark) (C : Access → Type 0) (s : ℕ) (P : ℕ → Type 0) → length shelves ≤ s
    → ((z : ℕ) (r : Access) (t x : ℕ) → z < s → C r → IsOnShelf shelves r z → t < 2 ^ 32 → x < 2 ^ 64 → has_mark marks (mark_of z r.addr t x) ≡ true → P x)
    → (r : Access) (x : ℕ) → C r → IsMarked shelves marks r x → P x
range_all shelves marks C s P long all r x con m =
    let inside = m.belongs.within in
    all m.shelf r m.thread x (omega (arith, inside, long)) con m.belongs m.narrow m.small m.marked

pub marked_kept : (old new : List Shelf) (marks more : List Mark) (r : Access) (x : ℕ) → AreKept old new → ((m : Mark) → has_mark marks m ≡ true → has_mark more m ≡ true) → IsMarked old marks r x → IsMarked new more r x
marked_kept old new marks more r x wide kept m =
    record { small = m.small; thread = m.thread; narrow = m.narrow; shelf = m.shelf; belongs = on_kept old new r m.shelf wide m.belongs; marked = kept (mark_of m.shelf r.addr m.thread x) m.marked }

pub all_kept : (old new : List Shelf) (marks more : List Mark) (rows : List Row) → AreKept old new → ((m : Mark) → has_mark marks m ≡ true → has_mark more m ≡ true) → AreMarked old marks rows → AreMarked new more rows
all_kept old new marks more rows wide kept all = λ x lt. marked_kept old new marks more (row_at rows x).range x wide kept (all x lt)

-- a new mark
pub marked_new : (shelves : List Shelf) (marks : List Mark) (r : Access) (x thread shelf : ℕ) → x < 2 ^ 64 → thread < 2 ^ 32 → IsOnShelf shelves r shelf → has_mark marks (mark_of shelf r.addr thread x) ≡ true → IsMarked shelves marks r x
marked_new shelves marks r x thread shelf small narrow belongs marked = record { small = small; thread = thread; narrow = narrow; shelf = shelf; belongs = belongs; marked = marked }
