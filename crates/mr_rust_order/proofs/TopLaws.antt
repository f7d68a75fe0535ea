-- The greatest step of some rows, and a clock that is raised to those of some rows: of none, of one more, of all.
use Rattle.mr_rust_order.proofs.Common.{◌≡◌, ℕ, zero, suc, ◌+◌, ◌<◌, ◌≤◌, max, List, length, slice_index, Bool, true, false, refl, sym, ap, ◌∙◌, subst, inl, inr, ◌⊎◌, arith, dec_lt, ℕ_discrete, both_ways, Row, IsJoin, IsRaised, AreJoined, IsListed, IsTop, Passes, row_at}
use Rattle.mr_rust_order.specs.Rows.{IsTopWith}
use Rattle.mr_rust_order.proofs.ClockLaws.{join_cases, join_one, join_other, raised_here, raised_on}

-- ---- the first places of a list

-- a number is one of the first z in a list
abbrev pub IsAmong : List ℕ → ℕ → ℕ → Type 0
IsAmong found z x = (y : ℕ) × (y < z) × (slice_index found y ≡ x)

pub among_none : (found : List ℕ) (x : ℕ) → IsAmong found 0 x → ⊥
among_none found x a = let lt = a.1 in omega (arith, lt)

pub among_more : (found : List ℕ) (z x : ℕ) → IsAmong found (z + 1) x → IsAmong found z x ⊎ (x ≡ slice_index found z)
among_more found z x a = elim (ℕ_discrete a.0 z) [
  | yes is ↦ inr (sym a.2 ∙ ap (slice_index found) is)
  | no ne ↦ let lt = a.1 in inl (a.0, omega (arith, lt, ne), a.2)
]

pub among_wider : (found : List ℕ) (z x : ℕ) → IsAmong found z x → IsAmong found (z + 1) x
among_wider found z x a = let lt = a.1 in (a.0, omega (arith, lt), a.2)

pub among_last : (found : List ℕ) (z x : ℕ) → x ≡ slice_index found z → IsAmong found (z + 1) x
among_last found z x e = (z, omega arith, sym e)

pub among_all : (found : List ℕ) (z x : ℕ) → length found ≤ z → IsListed found x → IsAmong found z x
among_all found z x long l = let lt = l.1 in (l.0, omega (arith, lt, long), l.2)

-- ---- the greatest step

pub top_none : (rows : List Row) (P : ℕ → Type 0) → ((x : ℕ) → P x → ⊥) → IsTop rows P 0
top_none rows P none = record { above = λ x p. absurd (none x p); reached = λ i e. absurd (omega (arith, e)) }

pub top_same : (rows : List Row) (P Q : ℕ → Type 0) (n : ℕ) → ((x : ℕ) → P x → Q x) → ((x : ℕ) → Q x → P x) → IsTop rows P n → IsTop rows Q n
top_same rows P Q n to from t = record { above = λ x q. t.above x (from x q); reached = λ i e. let r = t.reached i e in (r.0, to r.0 r.1, r.2) }

-- with one row more
pub top_with : (rows : List Row) (P R : ℕ → Type 0) (test : Row → Bool) (x old new : ℕ) → IsTop rows P old → IsTopWith rows test x old new → ((y : ℕ) → P y → R y) → (Passes rows test x → R x)
    → ((y : ℕ) → R y → P y ⊎ ((y ≡ x) × Passes rows test y)) → IsTop rows R new
top_with rows P R test x old new t w wider here cases =
    record { above = λ y r. above y (cases y r); reached = λ i e. reached i e w.only }
  where
    above : (y : ℕ) → P y ⊎ ((y ≡ x) × Passes rows test y) → (row_at rows y).last < new
    above y (inl p) = let low = t.above y p in let up = w.grown in omega (arith, low, up)
    above y (inr q) =
        let low = w.here (subst (Passes rows test) q.0 q.1) in
        let same = ap (λ (z : ℕ). (row_at rows z).last) q.0 in
        omega (arith, low, same)

    reached : (i : ℕ) → new ≡ i + 1 → (new ≡ old) ⊎ (Passes rows test x × (new ≡ (row_at rows x).last + 1)) → (y : ℕ) × R y × ((row_at rows y).last ≡ i)
    reached i e (inl same) = let r = t.reached i (sym same ∙ e) in (r.0, wider r.0 r.1, r.2)
    reached i e (inr q) = let is = q.1 in (x, here q.0, omega (arith, is, e))

-- the greater one of two
pub top_max : (rows : List Row) (P Q R : ℕ → Type 0) (m n k : ℕ) → k ≡ max m n → IsTop rows P m → IsTop rows Q n → ((x : ℕ) → P x → R x) → ((x : ℕ) → Q x → R x) → ((x : ℕ) → R x → P x ⊎ Q x) → IsTop rows R k
top_max rows P Q R m n k is s t one two cases =
    record {
      above = λ x r. above x (cases x r);
      reached = λ i e. elim (dec_lt m n) [
        | yes lt ↦ let q = t.reached i (omega (arith, is, e, lt)) in (q.0, two q.0 q.1, q.2)
        | no over ↦ let p = s.reached i (omega (arith, is, e, over)) in (p.0, one p.0 p.1, p.2)
      ];
    }
  where
    above : (x : ℕ) → P x ⊎ Q x → (row_at rows x).last < k
    above x (inl p) = let low = s.above x p in omega (arith, low, is)
    above x (inr q) = let low = t.above x q in omega (arith, low, is)

pub top_least : (rows : List Row) (P : ℕ → Type 0) (n m : ℕ) → IsTop rows P n → ((x : ℕ) → P x → (row_at rows x).last < m) → n ≤ m
top_least rows P zero m t all = omega arith
top_least rows P (suc i) m t all =
    let r = t.reached i (omega arith) in
    let lt = all r.0 r.1 in
    let is = r.2 in
    omega (arith, lt, is)

-- ---- a clock that is raised to those of rows

pub joined_none : (rows : List Row) (P : ℕ → Type 0) (clock : List ℕ) → ((x : ℕ) → P x → ⊥) → AreJoined rows P clock clock
joined_none rows P clock none = record { raised = raised_here clock; only = λ t n below. inl below; all = λ x p. absurd (none x p) }

pub joined_same : (rows : List Row) (P Q : ℕ → Type 0) (old new : List ℕ) → ((x : ℕ) → P x → Q x) → ((x : ℕ) → Q x → P x) → AreJoined rows P old new → AreJoined rows Q old new
joined_same rows P Q old new to from j =
    record {
      raised = j.raised;
      only = λ t n below. elim (j.only t n below) [ inl low ↦ inl low | inr r ↦ inr (r.0, to r.0 r.1, r.2) ];
      all = λ x q. j.all x (from x q);
    }

pub joined_more : (rows : List Row) (P Q R : ℕ → Type 0) (a b c : List ℕ) → ((x : ℕ) → P x → R x) → ((x : ℕ) → Q x → R x) → ((x : ℕ) → R x → P x ⊎ Q x)
    → AreJoined rows P a b → AreJoined rows Q b c → AreJoined rows R a c
joined_more rows P Q R a b c one two cases j k =
    record {
      raised = raised_on a b c j.raised k.raised;
      only = λ t n below. elim (k.only t n below) [
        | inr r ↦ inr (r.0, two r.0 r.1, r.2)
        | inl low ↦ elim (j.only t n low) [ inl least ↦ inl least | inr r ↦ inr (r.0, one r.0 r.1, r.2) ]
      ];
      all = λ x r. all x (cases x r);
    }
  where
    all : (x : ℕ) → P x ⊎ Q x → IsRaised (row_at rows x).clock c
    all x (inl p) = raised_on (row_at rows x).clock b c (j.all x p) k.raised
    all x (inr q) = k.all x q

-- to that of one row
pub joined_row : (rows : List Row) (P : ℕ → Type 0) (x : ℕ) (row : Row) (old new : List ℕ) → row ≡ row_at rows x → IsJoin old row.clock new → P x → ((y : ℕ) → P y → y ≡ x) → AreJoined rows P old new
joined_row rows P x row old new read join here only =
    record {
      raised = join_one old row.clock new join;
      only = λ t n below. elim (join_cases old row.clock new t n join below) [
        | inl low ↦ inl low
        | inr low ↦ let same = ap (λ (r : Row). slice_index r.clock t) read in inr (x, here, omega (arith, low, same))
      ];
      all = λ y p.
          subst (λ (z : ℕ). IsRaised (row_at rows z).clock new) (sym (only y p)) (subst (λ (r : Row). IsRaised r.clock new) read (join_other old row.clock new join));
    }

-- ---- row by row of a list

-- one of the first z in a list, whose row passes a test
abbrev pub HasPassed : List Row → (Row → Bool) → List ℕ → ℕ → ℕ → Type 0
HasPassed rows test found z x = IsAmong found z x × Passes rows test x

pub top_begins : (rows : List Row) (test : Row → Bool) (found : List ℕ) → IsTop rows (HasPassed rows test found 0) 0
top_begins rows test found = top_none rows (HasPassed rows test found 0) (λ x p. among_none found x p.0)

pub top_next : (rows : List Row) (test : Row → Bool) (found : List ℕ) (z old new : ℕ) → IsTop rows (HasPassed rows test found z) old → IsTopWith rows test (slice_index found z) old new
    → IsTop rows (HasPassed rows test found (z + 1)) new
top_next rows test found z old new t w =
    top_with rows (HasPassed rows test found z) (HasPassed rows test found (z + 1)) test (slice_index found z) old new t w
    (λ y p. (among_wider found z y p.0, p.1)) (λ p. (among_last found z (slice_index found z) refl, p))
    (λ y r. elim (among_more found z y r.0) [ inl a ↦ inl (a, r.1) | inr e ↦ inr (e, r.1) ])

pub top_ends : (rows : List Row) (test : Row → Bool) (found : List ℕ) (z n : ℕ) → length found ≤ z → ((x : ℕ) → Passes rows test x → IsListed found x) → IsTop rows (HasPassed rows test found z) n
    → IsTop rows (Passes rows test) n
top_ends rows test found z n long listed t =
    top_same rows (HasPassed rows test found z) (Passes rows test) n (λ x p. p.1) (λ x p. (among_all found z x long (listed x p), p)) t

pub joined_begins : (rows : List Row) (test : Row → Bool) (found : List ℕ) (clock : List ℕ) → AreJoined rows (HasPassed rows test found 0) clock clock
joined_begins rows test found clock = joined_none rows (HasPassed rows test found 0) clock (λ x p. among_none found x p.0)

pub joined_next : (rows : List Row) (test : Row → Bool) (found : List ℕ) (z : ℕ) (a b c : List ℕ) → AreJoined rows (HasPassed rows test found z) a b
    → AreJoined rows (λ y. (y ≡ slice_index found z) × Passes rows test y) b c → AreJoined rows (HasPassed rows test found (z + 1)) a c
joined_next rows test found z a b c j k =
    joined_more rows (HasPassed rows test found z) (λ y. (y ≡ slice_index found z) × Passes rows test y) (HasPassed rows test found (z + 1)) a b c
    (λ y p. (among_wider found z y p.0, p.1)) (λ y p. (among_last found z y p.0, p.1))
    (λ y r. elim (among_more found z y r.0) [ inl p ↦ inl (p, r.1) | inr e ↦ inr (e, r.1) ]) j k

pub joined_ends : (rows : List Row) (test : Row → Bool) (found : List ℕ) (z : ℕ) (a b : List ℕ) → length found ≤ z → ((x : ℕ) → Passes rows test x → IsListed found x) → AreJoined rows (HasPassed rows test found z) a b
    → AreJoined rows (Passes rows test) a b
joined_ends rows test found z a b long listed j =
    joined_same rows (HasPassed rows test found z) (Passes rows test) a b (λ x p. p.1) (λ x p. (among_all found z x long (listed x p), p)) j

-- ---- the row at a place

-- no row is there, or one that doesn't pass, or one that does
pub with_past : (rows : List Row) (test : Row → Bool) (x n : ℕ) → length rows ≤ x → IsTopWith rows test x n n
with_past rows test x n past = record { grown = omega arith; here = λ p. absurd (let lt = p.within in omega (arith, lt, past)); only = inl refl }

pub with_not : (rows : List Row) (test : Row → Bool) (x n : ℕ) (row : Row) → row ≡ row_at rows x → test row ≡ false → IsTopWith rows test x n n
with_not rows test x n row read fails =
    record { grown = omega arith; here = λ p. absurd (both_ways (test row) fails (ap test read ∙ p.passed)); only = inl refl }

pub with_passed : (rows : List Row) (test : Row → Bool) (x old new : ℕ) (row : Row) → x < length rows → row ≡ row_at rows x → test row ≡ true → new ≡ max old (row.last + 1) → IsTopWith rows test x old new
with_passed rows test x old new row lt read passes is =
    record {
      grown = omega (arith, is);
      here = λ p. omega (arith, is, last);
      only = elim (dec_lt old (row.last + 1)) [
        | yes less ↦ inr (record { within = lt; passed = ap test (sym read) ∙ passes }, omega (arith, is, last, less))
        | no over ↦ inl (omega (arith, is, over))
      ];
    }
  where
    last : row.last ≡ (row_at rows x).last
    last = ap (λ (r : Row). r.last) read

pub joined_past : (rows : List Row) (test : Row → Bool) (x : ℕ) (clock : List ℕ) → length rows ≤ x → AreJoined rows (λ y. (y ≡ x) × Passes rows test y) clock clock
joined_past rows test x clock past =
    joined_none rows (λ y. (y ≡ x) × Passes rows test y) clock (λ y p. let same = p.0 in let lt = p.1.within in omega (arith, same, lt, past))

pub joined_not : (rows : List Row) (test : Row → Bool) (x : ℕ) (clock : List ℕ) (row : Row) → row ≡ row_at rows x → test row ≡ false → AreJoined rows (λ y. (y ≡ x) × Passes rows test y) clock clock
joined_not rows test x clock row read fails =
    joined_none rows (λ y. (y ≡ x) × Passes rows test y) clock
    (λ y p. both_ways (test row) fails (ap test (read ∙ ap (row_at rows) (sym p.0)) ∙ p.1.passed))

pub joined_passed : (rows : List Row) (test : Row → Bool) (x : ℕ) (row : Row) (old new : List ℕ) → x < length rows → row ≡ row_at rows x → test row ≡ true → IsJoin old row.clock new
    → AreJoined rows (λ y. (y ≡ x) × Passes rows test y) old new
joined_passed rows test x row old new lt read passes join =
    joined_row rows (λ y. (y ≡ x) × Passes rows test y) x row old new read join (refl, record { within = lt; passed = ap test (sym read) ∙ passes }) (λ y p. p.0)
