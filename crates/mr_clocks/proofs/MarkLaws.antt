-- Marks in their order, and the rows that are found by them.
use Rattle.mr_clocks.proofs.Common.{◌≡◌, ℕ, suc, ◌⊎◌, inl, inr, ◌+◌, ◌-◌, ◌<◌, ◌≤◌, ◌^◌, List, [], ◌∷◌, ◌++◌, Bool, true, false, cond, map, length, length-append, get_or, take, refl, sym, ◌∙◌, ap, subst, arith, and_parts, both_ways, get_or-map, get_or-take, get_or_append_left, get_or_default, get_or_push, get_or_read, length-map, take-take, take_all, ℕ_discrete, dec_lt, ◌&&◌, ◌||◌, Contains, Access, conflicts, overlaps, Key, Lock, Creation, Spawning, Starts, Joins, Made, Touched, Range, Wakes, Shelf, Row, IsExact, AreKept, AreMarked, IsMarked, IsOnShelf, has_mark, mark_of, no_shelf, shelf_at, HaveKeysOf, IsGrown, IsListed, IsRowFor, no_row, row_at}
use Rattle.std.proofs.Common.{zero, min}
use Rattle.std.proofs.lemmas.List.{get_or-append-add, take-append-le}
use Rattle.std.proofs.lemmas.Map.Lookups.{CmpEqualImpliesEq, exact_unsigned}
use Rattle.std.proofs.lemmas.Map.Views.{Contains-from_any, any-filter_same, range_contains-from_IsInRange, tells_apart}
use Rattle.std.specs.BTreeMap.{is_at}
use Rattle.std.specs.BTreeMap.Range.{range_contains}
use Rattle.std.specs.Cmp.{IsTotalOrder, on_total, then_total, nat_cmp_total, ranked}
use Rattle.std.specs.List.{filter}
use Rattle.std.specs.Ordering.{eq_by_cmp, is_gt, nat_cmp, ordering_then}
use Rattle.std.specs.declared.cmp.Ordering.{Ordering}
use Rattle.std.specs.declared.cmp.Ordering.TheVariants.{Less, Equal, Greater}
use Rattle.std.specs.declared.ops.Bound.TheVariants.{Included}
use Rattle.mr_base.proofs.Comparisons.{lt_from}
use Rattle.mr_clocks.specs.declared.index.Mark.{Mark}
use Rattle.mr_clocks.specs.Marks.{IsShelfOf, mark_cmp, place_of, shelf_of}
use Rattle.mr_clocks.specs.declared.keys.Key.TheVariants.{Storing}

-- ---- the order of marks

pub mark_total : IsTotalOrder mark_cmp
mark_total =
    then_total (on_total (λ (m : Mark). m.shelf) nat_cmp_total)
    (then_total (on_total (λ (m : Mark). m.place) nat_cmp_total) (then_total (on_total (λ (m : Mark). m.thread) nat_cmp_total) (on_total (λ (m : Mark). m.row) nat_cmp_total)))

then_equal : (a b : Ordering) → ordering_then a b ≡ Equal → (a ≡ Equal) × (b ≡ Equal)
then_equal Less b e = cc
then_equal Equal b e = (refl, e)
then_equal Greater b e = cc

-- marks that compare alike are one
pub mark_exact : CmpEqualImpliesEq mark_cmp
mark_exact x y e =
    let t = then_equal (nat_cmp x.shelf y.shelf) (ordering_then (nat_cmp x.place y.place) (ordering_then (nat_cmp x.thread y.thread) (nat_cmp x.row y.row))) e in
    let u = then_equal (nat_cmp x.place y.place) (ordering_then (nat_cmp x.thread y.thread) (nat_cmp x.row y.row)) t.1 in
    let v = then_equal (nat_cmp x.thread y.thread) (nat_cmp x.row y.row) u.1 in
    let one : x.shelf ≡ y.shelf = exact_unsigned x.shelf y.shelf t.0 in
    let two : x.place ≡ y.place = exact_unsigned x.place y.place u.0 in
    let three : x.thread ≡ y.thread = exact_unsigned x.thread y.thread v.0 in
    let four : x.row ≡ y.row = exact_unsigned x.row y.row v.1 in
    λ i. record { shelf = one i; place = two i; thread = three i; row = four i }

then_low : (a b : Ordering) → is_gt a ≡ false → is_gt b ≡ false → is_gt (ordering_then a b) ≡ false
then_low Less b p q = refl
then_low Equal b p q = q
then_low Greater b p q = p

low_number : (a b : ℕ) → a ≤ b → is_gt (nat_cmp a b) ≡ false
low_number a b le = by_order (nat_cmp a b) refl
  where
    by_order : (o : Ordering) → nat_cmp a b ≡ o → is_gt o ≡ false
    by_order Less is = refl
    by_order Equal is = refl
    by_order Greater is = let above : b < a = ranked a b Greater (sym is) in absurd (omega arith)

-- a mark in the same shelf, not before it in place, in thread and in row
pub low_mark : (a b : Mark) → a.shelf ≡ b.shelf → a.place ≤ b.place → a.thread ≤ b.thread → a.row ≤ b.row → is_gt (mark_cmp a b) ≡ false
low_mark a b e p t r =
    then_low (nat_cmp a.shelf b.shelf) (ordering_then (nat_cmp a.place b.place) (ordering_then (nat_cmp a.thread b.thread) (nat_cmp a.row b.row))) (low_number a.shelf b.shelf (omega (arith, e)))
    (then_low (nat_cmp a.place b.place) (ordering_then (nat_cmp a.thread b.thread) (nat_cmp a.row b.row)) (low_number a.place b.place p)
    (then_low (nat_cmp a.thread b.thread) (nat_cmp a.row b.row) (low_number a.thread b.thread t) (low_number a.row b.row r)))

-- the same of equal marks
pub low_read : (f l a b : Mark) → f ≡ a → l ≡ b → is_gt (mark_cmp a b) ≡ false → is_gt (mark_cmp f l) ≡ false
low_read f l a b e g h = ap (λ (q : Mark). is_gt (mark_cmp q l)) e ∙ ap (λ (q : Mark). is_gt (mark_cmp a q)) g ∙ h

-- ---- numbers that stand in a list

pub listed_left : (xs ys : List ℕ) (x : ℕ) → IsListed xs x → IsListed (xs ++ ys) x
listed_left xs ys x t = (t.0, omega (arith, length-append xs ys, t.1), get_or_append_left xs ys 0 t.0 t.1 ∙ t.2)

pub listed_right : (xs ys : List ℕ) (x : ℕ) → IsListed ys x → IsListed (xs ++ ys) x
listed_right xs ys x t = (length xs + t.0, omega (arith, length-append xs ys, t.1), get_or-append-add xs ys t.0 0 ∙ t.2)

pub listed_push : (xs ys : List ℕ) (x : ℕ) → ys ≡ xs ++ x ∷ [] → IsListed ys x
listed_push xs ys x e = subst (λ (l : List ℕ). IsListed l x) (sym e) (listed_right xs (x ∷ []) x (0, omega arith, refl))

pub listed_kept : (xs ys zs : List ℕ) (x : ℕ) → ys ≡ xs ++ zs → IsListed xs x → IsListed ys x
listed_kept xs ys zs x e t = subst (λ (l : List ℕ). IsListed l x) (sym e) (listed_left xs zs x t)

-- the marks between two, as the code finds them
abbrev pub marks_between : List Mark → Mark → Mark → List Mark
marks_between marks first last = filter (range_contains mark_cmp (Included first) (Included last)) marks

abbrev pub rows_of : List Mark → List ℕ
rows_of marks = map (λ (m : Mark). m.row) marks

-- a mark that lies between them is among them
pub found_between : (marks : List Mark) (first last m : Mark) → is_gt (mark_cmp first m) ≡ false → is_gt (mark_cmp m last) ≡ false → has_mark marks m ≡ true → IsListed (rows_of (marks_between marks first last)) m.row
found_between marks first last m low high has =
    let inside = range_contains-from_IsInRange mark_total (Included first) (Included last) m (low, high) in
    let still : has_mark (marks_between marks first last) m ≡ true =
    any-filter_same (is_at (mark_cmp m)) (range_contains mark_cmp (Included first) (Included last)) true
    (λ k e. subst (λ (q : Mark). range_contains mark_cmp (Included first) (Included last) q ≡ true) (tells_apart {R = mark_cmp} mark_exact m k e) inside) marks ∙ has in
    let c = Contains-from_any {eq = eq_by_cmp mark_cmp} (λ x y t. tells_apart {R = mark_cmp} mark_exact x y t) m (marks_between marks first last) still in
    (c.0, omega (arith, length-map (marks_between marks first last) (λ (m : Mark). m.row), c.1), get_or-map (λ (m : Mark). m.row) (marks_between marks first last) c.0 m 0 c.1 ∙ ap (λ (q : Mark). q.row) c.2)

-- what the search of a part of a shelf comes to
pub collected : (marks : List Mark) (shelf low high : ℕ) (first last : Mark) → first ≡ mark_of shelf low 0 0 → last ≡ mark_of shelf high (2 ^ 32 - 1) (2 ^ 64 - 1) → (p t x : ℕ) → low ≤ p → p ≤ high → t < 2 ^ 32 → x < 2 ^ 64 → has_mark marks (mark_of shelf p t x) ≡ true → IsListed (rows_of (marks_between marks first last)) x
collected marks shelf low high first last is_first is_last p t x from to narrow small has =
    let m = mark_of shelf p t x in
    let at_first : is_gt (mark_cmp first m) ≡ false = ap (λ (q : Mark). is_gt (mark_cmp q m)) is_first ∙ low_mark (mark_of shelf low 0 0) m refl from (omega arith) (omega arith) in
    let at_last : is_gt (mark_cmp m last) ≡ false = ap (λ (q : Mark). is_gt (mark_cmp m q)) is_last ∙ low_mark m (mark_of shelf high (2 ^ 32 - 1) (2 ^ 64 - 1)) refl to (omega (arith, narrow)) (omega (arith, small)) in
    found_between marks first last m at_first at_last has

-- a number that stands in a list stands first there, or behind
pub listed_parts : (y : ℕ) (ys : List ℕ) (x : ℕ) → IsListed (y ∷ ys) x → (x ≡ y) ⊎ IsListed ys x
listed_parts y ys x (zero, lt, is) = inl (sym is)
listed_parts y ys x (suc k, lt, is) = inr (k, omega (arith, lt), is)

-- what is wanted of the marks that are left, when one more was looked at
pub wanted_more : (P : ℕ → Type 0) (m : Mark) (rest all : List Mark) (old new : List ℕ) → all ≡ m ∷ rest
    → ((x : ℕ) → IsListed old x → IsListed new x) → (P m.row → IsListed new m.row)
    → (x : ℕ) → P x → IsListed old x ⊎ IsListed (rows_of all) x → IsListed new x ⊎ IsListed (rows_of rest) x
wanted_more P m rest all old new is kept here x wanted (inl known) = inl (kept x known)
wanted_more P m rest all old new is kept here x wanted (inr left) =
    elim (listed_parts m.row (rows_of rest) x (subst (λ (l : List Mark). IsListed (rows_of l) x) is left)) [
      | inl same ↦ inl (subst (λ (q : ℕ). IsListed new q) (sym same) (here (subst P same wanted)))
      | inr later ↦ inr later
    ]

-- where no marks are left, all that is wanted is there
pub wanted_all : (rest : List Mark) (new : List ℕ) (x : ℕ) → rest ≡ [] → IsListed new x ⊎ IsListed (rows_of rest) x → IsListed new x
wanted_all rest new x none (inl known) = known
wanted_all rest new x none (inr left) = let t = subst (λ (l : List Mark). IsListed (rows_of l) x) none left in absurd (omega (arith, t.1))

-- ---- ranges

-- a range that conflicts with an access begins in the part that is searched for it
pub begins_inside : (r b : Access) (width : ℕ) → conflicts r b ≡ true → r.len ≤ width → (b.addr - width ≤ r.addr) × (r.addr ≤ b.addr + b.len)
begins_inside r b width h wide =
    let p = and_parts _ (overlaps r b) h in
    let q = and_parts _ _ p.1 in
    let s = and_parts _ _ q.1 in
    let t = and_parts _ _ s.1 in
    let one : r.addr < b.addr + b.len = lt_from _ _ t.0 in
    let two : b.addr < r.addr + r.len = lt_from _ _ t.1 in
    (omega (arith, two, wide), omega (arith, one))

-- two loads don't conflict
pub loads_apart : (r b : Access) → r.store ≡ false → b.store ≡ false → conflicts r b ≡ false
loads_apart r b one two = ap (λ (q : Bool). (q || b.store) && overlaps r b) one ∙ ap (λ (q : Bool). q && overlaps r b) two

-- ---- marks and shelves that were there are there

pub shelf_read : (shelves : List Shelf) (s : ℕ) (shelf : Shelf) → s < length shelves → shelf ≡ get_or shelves s shelf → shelf ≡ shelf_at shelves s
shelf_read shelves s shelf lt e = get_or_read shelves s shelf lt e no_shelf

pub all_kept_here : (shelves : List Shelf) → AreKept shelves shelves
all_kept_here shelves = λ s lt. (lt, refl)

pub kept_push : (old new : List Shelf) (shelf : Shelf) → new ≡ old ++ shelf ∷ [] → AreKept old new
kept_push old new shelf e = λ s lt.
    let long = ap length e in
    (omega (arith, lt, long, length-append old (shelf ∷ [])), ap (λ (l : List Shelf). shelf_at l s) e ∙ get_or_append_left old (shelf ∷ []) no_shelf s lt)

on_kept : (old new : List Shelf) (r : Access) (s : ℕ) → AreKept old new → IsOnShelf old r s → IsOnShelf new r s
on_kept old new r s kept on =
    let here = kept s on.within in
    record {
      within = here.0;
      narrow = let le = on.narrow in let same = ap (λ (q : Shelf). q.width) here.1 in omega (arith, le, same);
      stored = λ e. on.stored (sym (ap (λ (q : Shelf). q.stores) here.1) ∙ e);
      small = on.small;
    }

-- a range is on a shelf that was made for it
pub on_shelf : (shelves : List Shelf) (r : Access) (s : ℕ) (shelf : Shelf) → s < length shelves → shelf_at shelves s ≡ shelf → r.len ≤ shelf.width → shelf.stores ≡ r.store → r.addr < 2 ^ 64 → IsOnShelf shelves r s
on_shelf shelves r s shelf lt e wide same small = record {
  within = lt;
  narrow = let width = ap (λ (q : Shelf). q.width) e in omega (arith, wide, width);
  stored = λ none. sym same ∙ sym (ap (λ (q : Shelf). q.stores) e) ∙ none;
  small = small;
}

-- and so it is on one that is put behind the others
pub on_new_shelf : (old new : List Shelf) (r : Access) (shelf : Shelf) → new ≡ old ++ shelf ∷ [] → r.len ≤ shelf.width → shelf.stores ≡ r.store → r.addr < 2 ^ 64 → IsOnShelf new r (length old)
on_new_shelf old new r shelf e wide same small =
    let long = ap length e in
    on_shelf new r (length old) shelf (omega (arith, long, length-append old (shelf ∷ []))) (ap (λ (l : List Shelf). shelf_at l (length old)) e ∙ get_or_push old shelf no_shelf (length old) refl) wide same small

pub shelf_kept : (old new : List Shelf) (key : Key) (s : ℕ) → AreKept old new → IsShelfOf old key s → IsShelfOf new key s
shelf_kept old new (Range r) s kept b = on_kept old new r s kept b
shelf_kept old new (Lock n) s kept b = b
shelf_kept old new (Storing n) s kept b = b
shelf_kept old new Creation s kept b = b
shelf_kept old new Spawning s kept b = b
shelf_kept old new (Starts t) s kept b = b
shelf_kept old new (Joins t) s kept b = b
shelf_kept old new (Made a) s kept b = b
shelf_kept old new (Touched a) s kept b = b
shelf_kept old new (Wakes t) s kept b = b

pub marked_kept : (old new : List Shelf) (marks more : List Mark) (key : Key) (x : ℕ) → AreKept old new → ((m : Mark) → has_mark marks m ≡ true → has_mark more m ≡ true) → IsMarked old marks key x → IsMarked new more key x
marked_kept old new marks more key x wide kept m =
    record { small = m.small; thread = m.thread; narrow = m.narrow; shelf = m.shelf; belongs = shelf_kept old new key m.shelf wide m.belongs; marked = kept (mark_of m.shelf (place_of key) m.thread x) m.marked }

pub all_kept : (old new : List Shelf) (marks more : List Mark) (rows : List Row) → AreKept old new → ((m : Mark) → has_mark marks m ≡ true → has_mark more m ≡ true) → AreMarked old marks rows → AreMarked new more rows
all_kept old new marks more rows wide kept all = λ x lt. marked_kept old new marks more (row_at rows x).key x wide kept (all x lt)

-- a new mark
pub marked_new : (shelves : List Shelf) (marks : List Mark) (key : Key) (x thread shelf : ℕ) → x < 2 ^ 64 → thread < 2 ^ 32 → IsShelfOf shelves key shelf → has_mark marks (mark_of shelf (place_of key) thread x) ≡ true → IsMarked shelves marks key x
marked_new shelves marks key x thread shelf small narrow belongs marked = record { small = small; thread = thread; narrow = narrow; shelf = shelf; belongs = belongs; marked = marked }

-- ---- rows that come and go

pub marked_push : (shelves : List Shelf) (marks : List Mark) (rows new : List Row) (row : Row) → AreMarked shelves marks rows → IsMarked shelves marks row.key (length rows) → new ≡ rows ++ row ∷ [] → AreMarked shelves marks new
marked_push shelves marks rows new row all own e = λ x lt.
    elim (ℕ_discrete x (length rows)) [
      | yes is ↦
          let same : row_at new x ≡ row = ap (λ (l : List Row). row_at l x) e ∙ get_or_push rows row no_row x (sym is) in
          subst (λ (r : Row). IsMarked shelves marks r.key x) (sym same) (subst (λ (q : ℕ). IsMarked shelves marks row.key q) (sym is) own)
      | no ne ↦
          let long = ap length e in
          let low : x < length rows = omega (arith, lt, ne, long, length-append rows (row ∷ [])) in
          let same : row_at new x ≡ row_at rows x = ap (λ (l : List Row). row_at l x) e ∙ get_or_append_left rows (row ∷ []) no_row x low in
          subst (λ (r : Row). IsMarked shelves marks r.key x) (sym same) (all x low)
    ]

pub marked_taken : (shelves : List Shelf) (marks : List Mark) (rows less : List Row) → IsGrown less rows → AreMarked shelves marks rows → AreMarked shelves marks less
marked_taken shelves marks rows less g all = λ x lt.
    let longer = g.longer in
    let same : row_at less x ≡ row_at rows x = ap (λ (l : List Row). row_at l x) (sym g.same) ∙ get_or-take (length less) rows x no_row lt in
    subst (λ (r : Row). IsMarked shelves marks r.key x) (sym same) (all x (omega (arith, lt, longer)))

pub marked_same : (shelves : List Shelf) (marks : List Mark) (rows new : List Row) → HaveKeysOf rows new → AreMarked shelves marks rows → AreMarked shelves marks new
marked_same shelves marks rows new keys all = λ x lt.
    let many = keys.many in
    subst (λ (k : Key). IsMarked shelves marks k x) (sym (keys.key x)) (all x (omega (arith, lt, many)))

pub grown_same : (rows : List Row) → IsGrown rows rows
grown_same rows = record { longer = omega arith; same = take_all (length rows) rows (omega arith); empty = λ x low high. absurd (omega (arith, low, high)) }

pub grown_push : (old rows new : List Row) (row : Row) → IsGrown old rows → row.last ≡ 0 → new ≡ rows ++ row ∷ [] → IsGrown old new
grown_push old rows new row g none e =
    record {
      longer = let long = ap length e in let longer = g.longer in omega (arith, long, longer, length-append rows (row ∷ []));
      same = ap (λ (l : List Row). take (length old) l) e ∙ take_first ∙ g.same;
      empty = λ x low high. elim (ℕ_discrete x (length rows)) [
        | yes is ↦
            let same : row_at new x ≡ row = ap (λ (l : List Row). row_at l x) e ∙ get_or_push rows row no_row x (sym is) in
            ap (λ (r : Row). r.last) same ∙ none
        | no ne ↦
            let long = ap length e in
            let less : x < length rows = omega (arith, high, ne, long, length-append rows (row ∷ [])) in
            let same : row_at new x ≡ row_at rows x = ap (λ (l : List Row). row_at l x) e ∙ get_or_append_left rows (row ∷ []) no_row x less in
            ap (λ (r : Row). r.last) same ∙ g.empty x low less
      ];
    }
  where
    take_first : take (length old) (rows ++ row ∷ []) ≡ take (length old) rows
    take_first = take-append-le (length old) rows (row ∷ []) (let longer = g.longer in longer)

-- the row that is put behind the others is of its key and thread
pub row_pushed : (rows new : List Row) (row : Row) (x : ℕ) → x ≡ length rows → new ≡ rows ++ row ∷ [] → IsRowFor new x row.key row.thread
row_pushed rows new row x at e =
    let same : row_at new x ≡ row = ap (λ (l : List Row). row_at l x) e ∙ get_or_push rows row no_row x (sym at) in
    record {
      within = let long = ap length e in omega (arith, at, long, length-append rows (row ∷ []));
      of_key = ap (λ (r : Row). r.key) same;
      of_thread = λ _. ap (λ (r : Row). r.thread) same;
    }

pub grown_trans : (one two three : List Row) → IsGrown one two → IsGrown two three → IsGrown one three
grown_trans one two three a b =
    record {
      longer = let p = a.longer in let q = b.longer in omega (arith, p, q);
      same = sym (take-take (length one) (length two) three (let p = a.longer in p)) ∙ ap (λ (l : List Row). take (length one) l) b.same ∙ a.same;
      empty = λ x low high. elim (dec_lt x (length two)) [
        | yes less ↦
            let same : row_at three x ≡ row_at two x = sym (get_or-take (length two) three x no_row less) ∙ ap (λ (l : List Row). row_at l x) b.same in
            ap (λ (r : Row). r.last) same ∙ a.empty x low less
        | no more ↦ b.empty x (omega (arith, more)) high
      ];
    }

-- ---- one mark more

kept_by : (b c : Bool) → c ≡ true → cond b true c ≡ true
kept_by true c e = refl
kept_by false c e = e

-- a set of marks that has one more
pub marks_kept : (old new : List Mark) (m : Mark) → ((q : Mark) → has_mark new q ≡ cond (is_at (mark_cmp m) q) true (has_mark old q)) → (q : Mark) → has_mark old q ≡ true → has_mark new q ≡ true
marks_kept old new m updates q e = updates q ∙ kept_by (is_at (mark_cmp m) q) (has_mark old q) e

-- ---- the search, shelf by shelf

-- the ranges of a shelf
pub shelf_found : (shelves : List Shelf) (marks : List Mark) (a : Access) (s low high : ℕ) (shelf : Shelf) (P : ℕ → Type 0) → shelf ≡ shelf_at shelves s → low ≡ a.addr - shelf.width → high ≡ min (a.addr + a.len) (2 ^ 64 - 1)
    → ((p t x : ℕ) → low ≤ p → p ≤ high → t < 2 ^ 32 → x < 2 ^ 64 → has_mark marks (mark_of s p t x) ≡ true → P x)
    → (r : Access) (t x : ℕ) → conflicts r a ≡ true → IsOnShelf shelves r s → t < 2 ^ 32 → x < 2 ^ 64 → has_mark marks (mark_of s r.addr t x) ≡ true → P x
shelf_found shelves marks a s low high shelf P is is_low is_high here r t x con on narrow small has =
    let width = ap (λ (q : Shelf). q.width) is in
    let le = on.narrow in
    let part = begins_inside r a shelf.width con (omega (arith, le, width)) in
    let from = part.0 in
    let to = part.1 in
    let addr = on.small in
    here r.addr t x (omega (arith, is_low, from)) (omega (arith, is_high, to, addr)) narrow small has

-- no range of a shelf of loads conflicts with a load
pub none_found : (shelves : List Shelf) (marks : List Mark) (a : Access) (s : ℕ) (shelf : Shelf) (P : ℕ → Type 0) → shelf ≡ shelf_at shelves s → a.store ≡ false → shelf.stores ≡ false → (r : Access) (t x : ℕ) → conflicts r a ≡ true → IsOnShelf shelves r s → t < 2 ^ 32 → x < 2 ^ 64 → has_mark marks (mark_of s r.addr t x) ≡ true → P x
none_found shelves marks a s shelf P is load loads r t x con on narrow small has =
    absurd (both_ways (conflicts r a) (loads_apart r a (on.stored (sym (ap (λ (q : Shelf). q.stores) is) ∙ loads)) load) con)

-- the ranges of one more shelf
pub range_more : (shelves : List Shelf) (marks : List Mark) (C : Access → Type 0) (s : ℕ) (P Q : ℕ → Type 0)
    → ((r : Access) (t x : ℕ) → C r → IsOnShelf shelves r s → t < 2 ^ 32 → x < 2 ^ 64 → has_mark marks (mark_of s r.addr t x) ≡ true → Q x)
    → ((x : ℕ) → P x → Q x)
    → ((z : ℕ) (r : Access) (t x : ℕ) → z < s → C r → IsOnShelf shelves r z → t < 2 ^ 32 → x < 2 ^ 64 → has_mark marks (mark_of z r.addr t x) ≡ true → P x)
    → (z : ℕ) (r : Access) (t x : ℕ) → z < s + 1 → C r → IsOnShelf shelves r z → t < 2 ^ 32 → x < 2 ^ 64 → has_mark marks (mark_of z r.addr t x) ≡ true → Q x
range_more shelves marks C s P Q here kept old z r t x lt con on narrow small has =
    elim (ℕ_discrete z s) [
      | no ne ↦ kept x (old z r t x (omega (arith, lt, ne)) con on narrow small has)
      | yes is ↦
          here r t x con (subst (λ (q : ℕ). IsOnShelf shelves r q) is on) narrow small
          (ap (λ (q : ℕ). has_mark marks (mark_of q r.addr t x)) (sym is) ∙ has)
    ]

-- all ranges that conflict
pub range_all : (shelves : List Shelf) (marks : List Mark) (C : Access → Type 0) (s : ℕ) (P : ℕ → Type 0) → length shelves ≤ s
    → ((z : ℕ) (r : Access) (t x : ℕ) → z < s → C r → IsOnShelf shelves r z → t < 2 ^ 32 → x < 2 ^ 64 → has_mark marks (mark_of z r.addr t x) ≡ true → P x)
    → (r : Access) (x : ℕ) → C r → IsMarked shelves marks (Range r) x → P x
range_all shelves marks C s P long all r x con m =
    let inside = m.belongs.within in
    all m.shelf r m.thread x (omega (arith, inside, long)) con m.belongs m.narrow m.small m.marked

-- a key that is no range is marked in its own shelf
pub exact_mark : (shelves : List Shelf) (marks : List Mark) (key : Key) (x : ℕ) → IsExact key → (m : IsMarked shelves marks key x) → has_mark marks (mark_of (shelf_of key) (place_of key) m.thread x) ≡ true
exact_mark shelves marks key x exact m = ap (λ (q : ℕ). has_mark marks (mark_of q (place_of key) m.thread x)) (sym (exact_shelf key m.shelf exact m.belongs)) ∙ m.marked
  where
    exact_shelf : (k : Key) (s : ℕ) → IsExact k → IsShelfOf shelves k s → s ≡ shelf_of k
    exact_shelf (Range r) s exact b = absurd exact
    exact_shelf (Lock n) s exact b = b
    exact_shelf (Storing n) s exact b = b
    exact_shelf Creation s exact b = b
    exact_shelf Spawning s exact b = b
    exact_shelf (Starts t) s exact b = b
    exact_shelf (Joins t) s exact b = b
    exact_shelf (Made a) s exact b = b
    exact_shelf (Touched a) s exact b = b
    exact_shelf (Wakes t) s exact b = b

-- the rows of a key that is no range
pub key_found : (shelves : List Shelf) (marks : List Mark) (key : Key) (shelf place : ℕ) (P : ℕ → Type 0) → shelf ≡ shelf_of key → place ≡ place_of key
    → ((p t x : ℕ) → place ≤ p → p ≤ place → t < 2 ^ 32 → x < 2 ^ 64 → has_mark marks (mark_of shelf p t x) ≡ true → P x)
    → IsExact key → (x : ℕ) → IsMarked shelves marks key x → P x
key_found shelves marks key shelf place P is_shelf is_place here exact x m =
    here (place_of key) m.thread x (omega (arith, is_place)) (omega (arith, is_place)) m.narrow m.small
    (ap (λ (q : ℕ). has_mark marks (mark_of q (place_of key) m.thread x)) is_shelf ∙ exact_mark shelves marks key x exact m)

-- what holds of an element that is read holds of it by whatever stands past the end
pub any_default : (P : Key → Type 0) (keys : List Key) (i : ℕ) (d e : Key) → i < length keys → P (get_or keys i e) → P (get_or keys i d)
any_default P keys i d e lt h = subst P (get_or_default keys i e d lt) h

-- the rows of one more key
pub keys_more : (shelves : List Shelf) (marks : List Mark) (keys : List Key) (i : ℕ) (P Q : ℕ → Type 0)
    → ((d : Key) → IsExact (get_or keys i d) → (x : ℕ) → IsMarked shelves marks (get_or keys i d) x → Q x)
    → ((x : ℕ) → P x → Q x)
    → ((d : Key) (z x : ℕ) → z < i → IsExact (get_or keys z d) → IsMarked shelves marks (get_or keys z d) x → P x)
    → (d : Key) (z x : ℕ) → z < i + 1 → IsExact (get_or keys z d) → IsMarked shelves marks (get_or keys z d) x → Q x
keys_more shelves marks keys i P Q here kept old d z x lt exact m =
    elim (ℕ_discrete z i) [
      | no ne ↦ kept x (old d z x (omega (arith, lt, ne)) exact m)
      | yes is ↦
          here d (subst (λ (q : ℕ). IsExact (get_or keys q d)) is exact) x (subst (λ (q : ℕ). IsMarked shelves marks (get_or keys q d) x) is m)
    ]

-- the rows of all keys
pub keys_all : (shelves : List Shelf) (marks : List Mark) (keys : List Key) (i : ℕ) (P : ℕ → Type 0) → length keys ≤ i
    → ((d : Key) (z x : ℕ) → z < i → IsExact (get_or keys z d) → IsMarked shelves marks (get_or keys z d) x → P x)
    → (key : Key) (x : ℕ) → IsExact key → Contains keys key → IsMarked shelves marks key x → P x
keys_all shelves marks keys i P long all key x exact c m =
    let inside = c.1 in
    all key c.0 x (omega (arith, inside, long)) (subst (λ (k : Key). IsExact k) (sym c.2) exact) (subst (λ (k : Key). IsMarked shelves marks k x) (sym c.2) m)
