-- Rows that are put in, one access after another, and the rows of one more step.
use Rattle.mr_rust_order.proofs.Common.{◌≡◌, ◌≢◌, ℕ, zero, suc, ◌+◌, ◌<◌, ◌≤◌, List, [], ◌∷◌, ◌++◌, length, get_or, set, slice_index, refl, sym, ap, ◌∙◌, subst, inl, inr, ◌⊎◌, arith, ℕ_discrete, dec_lt, Contains, get_or_append_left, get_or_push, get_or_read, get_or-set_other, get_or-set_same, length-set, length_push, Access, Footprint, step_at, thread_at, Mark, Shelf, Row, IsClockBehind, Reaches, AreMarked, IsMarked, IsPlaceFor, AreNoted, AreRows, IsPut, IsRow, row_at}
use Rattle.std.proofs.lemmas.List.Elements.{Contains-append_left, Contains-append_right}
use Rattle.mr_rust_order.specs.Rows.{IsKnown, IsKnownRow, IsOldOrPut, IsRowOf, no_row}
use Rattle.mr_rust_order.proofs.AccessLaws.{contains_cases}
use Rattle.mr_rust_order.proofs.OrderLaws.{reach_on}

pub row_read : (rows : List Row) (x : ℕ) (row : Row) → x < length rows → row ≡ get_or rows x row → row ≡ row_at rows x
row_read rows x row lt e = get_or_read rows x row lt e no_row

-- the one element of a list
single : (r a : Access) → Contains (r ∷ []) a → r ≡ a
single r a (zero, lt, e) = e
single r a (suc k, lt, e) = absurd (omega (arith, lt))

row_of_same : (old new : List Row) (x : ℕ) → x < length new → row_at new x ≡ row_at old x → IsRowOf new x (row_at old x).range
row_of_same old new x lt same = record { within = lt; of_range = ap (λ (r : Row). r.range) same }

row_of_on : (new : List Row) (x : ℕ) (a b : Access) → IsRowOf new x a → a ≡ b → IsRowOf new x b
row_of_on new x a b f e = record { within = f.within; of_range = f.of_range ∙ e }

-- the row at a place for a range is of the range
pub place_range : (shelves : List Shelf) (marks : List Mark) (rows : List Row) (range : Access) (clock : List ℕ) (x : ℕ) (row : Row) → IsPlaceFor shelves marks rows range clock x → x < length rows
    → row ≡ get_or rows x row → row.range ≡ range
place_range shelves marks rows range clock x row (inr t) lt e = absurd (let at = t.0 in omega (arith, at, lt))
place_range shelves marks rows range clock x row (inl f) lt e = ap (λ (r : Row). r.range) (row_read rows x row lt e) ∙ f.of_range

-- ---- one access

-- a row that is put in the place of one of its range, whose step was known
pub noted_set : (old new : List Row) (range : Access) (thread j : ℕ) (clock : List ℕ) (row : Row) (x : ℕ) → IsPut (range ∷ []) thread j clock row → row.range ≡ range
    → IsKnownRow old x range clock → new ≡ set old x row → AreNoted old (range ∷ []) thread j clock new
noted_set old new range thread j clock row x put is f e =
    record {
      longer = omega (arith, long);
      each = λ y lt. elim (ℕ_discrete y x) [
        | yes at ↦ inr (subst (λ (r : Row). IsPut (range ∷ []) thread j clock r) (sym (here y at)) put)
        | no ne ↦ inl (omega (arith, lt, long), there y ne)
      ];
      kept = λ y lt. elim (ℕ_discrete y x) [
        | yes at ↦
            record {
              within = omega (arith, lt, long);
              of_range = ap (λ (r : Row). r.range) (here y at) ∙ is ∙ sym f.of_range ∙ ap (λ (z : ℕ). (row_at old z).range) (sym at);
            }
        | no ne ↦ row_of_same old new y (omega (arith, lt, long)) (there y ne)
      ];
      known = λ y lt. elim (ℕ_discrete y x) [
        | yes at ↦ inr (subst (λ (z : ℕ). IsKnown (row_at old z) clock) (sym at) f.known)
        | no ne ↦ inl (there y ne)
      ];
      here = λ a c.
          let same = here x refl in
          let lt = f.within in (
            x,
            record { within = omega (arith, lt, long); of_range = ap (λ (r : Row). r.range) same ∙ is ∙ single range a c },
            ap (λ (r : Row). r.last) same ∙ put.last,
          );
    }
  where
    long : length new ≡ length old
    long = ap length e ∙ length-set old x row

    here : (y : ℕ) → y ≡ x → row_at new y ≡ row
    here y at = ap (λ (l : List Row). row_at l y) e ∙ ap (row_at (set old x row)) at ∙ get_or-set_same old x row no_row f.within

    there : (y : ℕ) → y ≢ x → row_at new y ≡ row_at old y
    there y ne = ap (λ (l : List Row). row_at l y) e ∙ get_or-set_other old x y row no_row ne

-- a row that is put behind all others
pub noted_push : (old new : List Row) (range : Access) (thread j : ℕ) (clock : List ℕ) (row : Row) → IsPut (range ∷ []) thread j clock row → row.range ≡ range
    → new ≡ old ++ row ∷ [] → AreNoted old (range ∷ []) thread j clock new
noted_push old new range thread j clock row put is e =
    record {
      longer = omega (arith, long);
      each = λ y lt. elim (dec_lt y (length old)) [
        | yes low ↦ inl (low, there y low)
        | no over ↦ inr (subst (λ (r : Row). IsPut (range ∷ []) thread j clock r) (sym (here y (omega (arith, lt, over, long)))) put)
      ];
      kept = λ y lt. row_of_same old new y (omega (arith, lt, long)) (there y lt);
      known = λ y lt. inl (there y lt);
      here = λ a c.
          let same = here (length old) refl in (
            length old,
            record { within = omega (arith, long); of_range = ap (λ (r : Row). r.range) same ∙ is ∙ single range a c },
            ap (λ (r : Row). r.last) same ∙ put.last,
          );
    }
  where
    long : length new ≡ length old + 1
    long = ap length e ∙ length_push old row

    here : (y : ℕ) → length old ≡ y → row_at new y ≡ row
    here y at = ap (λ (l : List Row). row_at l y) e ∙ get_or_push old row no_row y at

    there : (y : ℕ) → y < length old → row_at new y ≡ row_at old y
    there y lt = ap (λ (l : List Row). row_at l y) e ∙ get_or_append_left old (row ∷ []) no_row y lt

-- the marks of the rows serve, if those of new places do
pub marked_noted : (shelves : List Shelf) (marks : List Mark) (old new : List Row) (accesses : List Access) (thread j : ℕ) (clock : List ℕ) → AreMarked shelves marks old
    → AreNoted old accesses thread j clock new → ((x : ℕ) → length old ≤ x → x < length new → IsMarked shelves marks (row_at new x).range x) → AreMarked shelves marks new
marked_noted shelves marks old new accesses thread j clock all n more = λ x lt.
    elim (dec_lt x (length old)) [
      | yes low ↦ subst (λ (r : Access). IsMarked shelves marks r x) (sym (n.kept x low).of_range) (all x low)
      | no over ↦ more x (omega (arith, over)) lt
    ]

-- a row at the place for its range: both the rows and their marks
pub put_set : (shelves : List Shelf) (marks : List Mark) (old : List Row) (range : Access) (thread j x : ℕ) (clock : List ℕ) (row : Row) → IsPut (range ∷ []) thread j clock row → row.range ≡ range
    → IsPlaceFor shelves marks old range clock x → x < length old → AreMarked shelves marks old
    → AreNoted old (range ∷ []) thread j clock (set old x row) × AreMarked shelves marks (set old x row)
put_set shelves marks old range thread j x clock row put is (inr t) lt all = absurd (let at = t.0 in omega (arith, at, lt))
put_set shelves marks old range thread j x clock row put is (inl f) lt all =
    let n = noted_set old (set old x row) range thread j clock row x put is f refl in
    let long = length-set old x row in
    (n, marked_noted shelves marks old (set old x row) (range ∷ []) thread j clock all n (λ y high low. absurd (omega (arith, high, low, long))))

pub put_push : (shelves : List Shelf) (marks : List Mark) (old new : List Row) (range : Access) (thread j x : ℕ) (clock : List ℕ) (row : Row) → IsPut (range ∷ []) thread j clock row → row.range ≡ range
    → IsPlaceFor shelves marks old range clock x → length old ≤ x → new ≡ old ++ row ∷ [] → AreMarked shelves marks old
    → AreNoted old (range ∷ []) thread j clock new × AreMarked shelves marks new
put_push shelves marks old new range thread j x clock row put is (inl f) past e all = absurd (let lt = f.within in omega (arith, lt, past))
put_push shelves marks old new range thread j x clock row put is (inr t) past e all =
    let n = noted_push old new range thread j clock row put is e in
    let long = length_push old row in
    let grown = ap length e in
    let at = t.0 in (
      n,
      marked_noted shelves marks old new (range ∷ []) thread j clock all n
          (λ y high low.
          let here : y ≡ length old = omega (arith, high, low, long, grown) in
          let same : row_at new y ≡ row = ap (λ (l : List Row). row_at l y) e ∙ get_or_push old row no_row y (sym here) in
          subst (λ (r : Access). IsMarked shelves marks r y) (sym (ap (λ (w : Row). w.range) same ∙ is)) (subst (IsMarked shelves marks range) (at ∙ sym here) t.1)),
    )

-- ---- one access after another

put_wider : (xs ys : List Access) (thread j : ℕ) (clock : List ℕ) (row : Row) → ((a : Access) → Contains xs a → Contains ys a) → IsPut xs thread j clock row → IsPut ys thread j clock row
put_wider xs ys thread j clock row wider p = record { made = wider row.range p.made; of_thread = p.of_thread; last = p.last; kept = p.kept }

pub noted_none : (old : List Row) (thread j : ℕ) (clock : List ℕ) → AreNoted old [] thread j clock old
noted_none old thread j clock =
    record {
      longer = omega arith;
      each = λ x lt. inl (lt, refl);
      kept = λ x lt. row_of_same old old x lt refl;
      known = λ x lt. inl refl;
      here = λ a c. let lt = c.1 in absurd (omega (arith, lt));
    }

pub noted_more : (old mid new : List Row) (xs : List Access) (r : Access) (thread j : ℕ) (clock : List ℕ) → AreNoted old xs thread j clock mid → AreNoted mid (r ∷ []) thread j clock new
    → AreNoted old (xs ++ r ∷ []) thread j clock new
noted_more old mid new xs r thread j clock n m =
    record {
      longer = let a = n.longer in let b = m.longer in omega (arith, a, b);
      each = λ x lt. from_mid x (m.each x lt);
      kept = λ x lt.
          let f = n.kept x lt in
          let g = m.kept x f.within in
          row_of_on new x (row_at mid x).range (row_at old x).range g f.of_range;
      known = λ x lt. known_on x (n.known x lt) (m.known x (n.kept x lt).within);
      here = λ a c. at_access a (contains_cases xs r a c);
    }
  where
    left : (a : Access) → Contains xs a → Contains (xs ++ r ∷ []) a
    left a c = Contains-append_left xs (r ∷ []) a c

    right : (a : Access) → Contains (r ∷ []) a → Contains (xs ++ r ∷ []) a
    right a c = Contains-append_right xs (r ∷ []) a c

    known_on : (x : ℕ) → (row_at mid x ≡ row_at old x) ⊎ IsKnown (row_at old x) clock → (row_at new x ≡ row_at mid x) ⊎ IsKnown (row_at mid x) clock
        → (row_at new x ≡ row_at old x) ⊎ IsKnown (row_at old x) clock
    known_on x (inr known) later = inr known
    known_on x (inl same) (inl still) = inl (still ∙ same)
    known_on x (inl same) (inr known) = inr (subst (λ (w : Row). IsKnown w clock) same known)

    from_old : (x : ℕ) → row_at new x ≡ row_at mid x → IsOldOrPut old xs thread j clock x (row_at mid x) → IsOldOrPut old (xs ++ r ∷ []) thread j clock x (row_at new x)
    from_old x same (inl t) = inl (t.0, same ∙ t.1)
    from_old x same (inr p) = inr (subst (λ (w : Row). IsPut (xs ++ r ∷ []) thread j clock w) (sym same) (put_wider xs (xs ++ r ∷ []) thread j clock (row_at mid x) left p))

    from_mid : (x : ℕ) → IsOldOrPut mid (r ∷ []) thread j clock x (row_at new x) → IsOldOrPut old (xs ++ r ∷ []) thread j clock x (row_at new x)
    from_mid x (inl t) = from_old x t.1 (n.each x t.0)
    from_mid x (inr p) = inr (put_wider (r ∷ []) (xs ++ r ∷ []) thread j clock (row_at new x) right p)

    still : (x : ℕ) → (row_at mid x).last ≡ j → IsOldOrPut mid (r ∷ []) thread j clock x (row_at new x) → (row_at new x).last ≡ j
    still x is (inl t) = ap (λ (w : Row). w.last) t.1 ∙ is
    still x is (inr p) = p.last

    at_access : (a : Access) → Contains xs a ⊎ (r ≡ a) → (x : ℕ) × IsRowOf new x a × ((row_at new x).last ≡ j)
    at_access a (inl c) =
        let h = n.here a c in
        let g = m.kept h.0 h.1.within in
        (h.0, row_of_on new h.0 (row_at mid h.0).range a g h.1.of_range, still h.0 h.2 (m.each h.0 g.within))
    at_access a (inr e) = m.here a (0, omega arith, e)

-- ---- one more step

pub rows_none : (run : List Footprint) (rows : List Row) → rows ≡ [] → AreRows run 0 rows
rows_none run rows none =
    record {
      each = λ x lt. let long = ap length none in absurd (omega (arith, lt, long));
      held = λ i a lt c. absurd (omega (arith, lt));
    }

row_put : (run : List Footprint) (j : ℕ) (clock : List ℕ) (row : Row) → IsClockBehind run clock j → IsPut (step_at run j).accesses (thread_at run j) j clock row → IsRow run (j + 1) row
row_put run j clock row behind p =
    record {
      within = let is = p.last in omega (arith, is);
      thread = ap (thread_at run) p.last ∙ sym p.of_thread;
      made = subst (λ (i : ℕ). Contains (step_at run i).accesses row.range) (sym p.last) p.made;
      clock = λ release.
          subst (λ (i : ℕ). IsClockBehind run row.clock i) (sym p.last) (subst (λ (l : List ℕ). IsClockBehind run l j) (sym (p.kept release)) behind);
    }

row_later : (run : List Footprint) (j : ℕ) (row : Row) → IsRow run j row → IsRow run (j + 1) row
row_later run j row r = record { within = let lt = r.within in omega (arith, lt); thread = r.thread; made = r.made; clock = r.clock }

pub rows_more : (run : List Footprint) (j : ℕ) (old new : List Row) (clock : List ℕ) → AreRows run j old → IsClockBehind run clock j
    → AreNoted old (step_at run j).accesses (thread_at run j) j clock new → AreRows run (j + 1) new
rows_more run j old new clock rows behind n =
    record {
      each = λ x lt. row_of x (n.each x lt);
      held = λ i a lt c. elim (dec_lt i j) [
        | yes low ↦
            let h = rows.held i a low c in
            let g = n.kept h.row h.found.within in
            record {
              row = h.row;
              found = row_of_on new h.row (row_at old h.row).range a g h.found.of_range;
              reached = still i h.row h.found.within h.reached (n.known h.row h.found.within) (n.each h.row g.within);
            }
        | no over ↦
            let at : j ≡ i = omega (arith, lt, over) in
            let h = n.here a (subst (λ (k : ℕ). Contains (step_at run k).accesses a) (sym at) c) in
            record { row = h.0; found = h.1; reached = inl (sym at ∙ sym h.2) }
      ];
    }
  where
    row_of : (x : ℕ) → IsOldOrPut old (step_at run j).accesses (thread_at run j) j clock x (row_at new x) → IsRow run (j + 1) (row_at new x)
    row_of x (inl t) = subst (λ (w : Row). IsRow run (j + 1) w) (sym t.1) (row_later run j (row_at old x) (rows.each x t.0))
    row_of x (inr p) = row_put run j clock (row_at new x) behind p

    -- the step of a row that is known reaches step j
    known_reaches : (x : ℕ) → x < length old → IsKnown (row_at old x) clock → Reaches run (row_at old x).last j
    known_reaches x lt known = behind.only (row_at old x).last (subst (λ (t : ℕ). (row_at old x).last < slice_index clock t) (sym (rows.each x lt).thread) known)

    still : (i x : ℕ) → x < length old → Reaches run i (row_at old x).last → (row_at new x ≡ row_at old x) ⊎ IsKnown (row_at old x) clock
        → IsOldOrPut old (step_at run j).accesses (thread_at run j) j clock x (row_at new x) → Reaches run i (row_at new x).last
    still i x lt r (inl same) w = subst (λ (q : Row). Reaches run i q.last) (sym same) r
    still i x lt r (inr known) (inl t) = subst (λ (q : Row). Reaches run i q.last) (sym t.1) r
    still i x lt r (inr known) (inr p) = subst (Reaches run i) (sym p.last) (reach_on run i (row_at old x).last j r (known_reaches x lt known))
