-- No two lists are the races of a run.
use Rattle.mr_rust_order.proofs.Common.{◌≡◌, ℕ, suc, zero, ◌<◌, ◌≤◌, ◌+◌, List, [], ◌∷◌, length, get_or, refl, sym, ◌∙◌, ap, subst, inl, inr, arith, All, Footprint, Pair, AreRaces, AreRacesBelow, IsGreatestRace, IsRace}
use Rattle.std.specs.Prelude.{Any, AllPairs}
use Rattle.std.proofs.lemmas.Bool.{cases_order}

-- the pairs of the steps from m on and below n
record Listed (run : List Footprint) (m n : ℕ) (pairs : List Pair) : Type 0 where
  pub low : All (λ p. m ≤ p.second) pairs
  pub within : All (λ p. p.second < n) pairs
  pub listed : All (λ p. IsGreatestRace run p.first p.second) pairs
  pub rising : AllPairs (λ p q. p.second < q.second) pairs
  pub complete : (i j : ℕ) → m ≤ j → j < n → IsRace run i j → Any (λ p. p.second ≡ j) pairs

from_start : (run : List Footprint) (n : ℕ) (pairs : List Pair) → AreRacesBelow run n pairs → Listed run 0 n pairs
from_start run n pairs h =
    record {
      low = λ k d lt. omega arith;
      within = h.within;
      listed = h.listed;
      rising = h.rising;
      complete = λ i j low lt r. h.complete i j lt r;
    }

in_rest : (p : Pair) (pairs : List Pair) (j : ℕ) → p.second < j → Any (λ q. q.second ≡ j) (p ∷ pairs) → Any (λ q. q.second ≡ j) pairs
in_rest p pairs j lt t = at_place t.0 t.1 t.2 t.3 t.4
  where
    at_place : (k : ℕ) (x : Pair) → k < length (p ∷ pairs) → get_or (p ∷ pairs) k x ≡ x → x.second ≡ j → Any (λ q. q.second ≡ j) pairs
    at_place zero x low e same = absurd (let second = ap (λ q. q.second) e in omega arith)
    at_place (suc k) x low e same = (k, x, omega arith, e, same)

rest_listed : (run : List Footprint) (m n : ℕ) (p : Pair) (pairs : List Pair) → Listed run m n (p ∷ pairs) → Listed run (p.second + 1) n pairs
rest_listed run m n p pairs h =
    record {
      low = λ k d lt. let rises = h.rising 0 (suc k) d (omega arith) (omega arith) in omega arith;
      within = λ k d lt. h.within (suc k) d (omega arith);
      listed = λ k d lt. h.listed (suc k) d (omega arith);
      rising = λ i j d lt high. h.rising (suc i) (suc j) d (omega arith) (omega arith);
      complete = λ i j low lt r.
          let first : m ≤ p.second = h.low 0 p (omega arith) in
          in_rest p pairs j (omega arith) (h.complete i j (omega arith) lt r);
    }

-- the first of a list has the least second step
none_below : (run : List Footprint) (m n j : ℕ) (p : Pair) (pairs : List Pair) → Listed run m n (p ∷ pairs) → j < p.second → Any (λ q. q.second ≡ j) (p ∷ pairs) → ⊥
none_below run m n j p pairs h lt t = at_place t.0 t.1 t.2 t.3 t.4
  where
    at_place : (k : ℕ) (x : Pair) → k < length (p ∷ pairs) → get_or (p ∷ pairs) k x ≡ x → x.second ≡ j → ⊥
    at_place zero x low e same = let second = ap (λ q. q.second) e in omega arith
    at_place (suc k) x low e same =
        let rises = h.rising 0 (suc k) x (omega arith) low in
        let second = ap (λ q. q.second) e in
        omega arith

first_missing : (run : List Footprint) (m n : ℕ) (p q : Pair) (pairs others : List Pair) → Listed run m n (p ∷ pairs) → Listed run m n (q ∷ others) → p.second < q.second → ⊥
first_missing run m n p q pairs others h k lt =
    none_below run m n p.second q others k lt
    (k.complete p.first p.second (h.low 0 p (omega arith)) (h.within 0 p (omega arith)) (h.listed 0 p (omega arith)).race)

nothing_listed : (run : List Footprint) (m n : ℕ) (p : Pair) (pairs : List Pair) → Listed run m n [] → Listed run m n (p ∷ pairs) → ⊥
nothing_listed run m n p pairs h k =
    let t = h.complete p.first p.second (k.low 0 p (omega arith)) (k.within 0 p (omega arith)) (k.listed 0 p (omega arith)).race in
    omega (arith, t.2)

same_first : (run : List Footprint) (i k j : ℕ) → IsGreatestRace run i j → IsGreatestRace run k j → i ≡ k
same_first run i k j g h =
    elim (cases_order i k) [
      | inl e ↦ e
      | inr c ↦ elim c [ inl lt ↦ absurd (g.greatest k lt h.race) | inr gt ↦ absurd (h.greatest i gt g.race) ]
    ]

same_pair : (p q : Pair) → p.first ≡ q.first → p.second ≡ q.second → p ≡ q
same_pair p q e f = ap (λ (i : ℕ). record { first = i; second = p.second }) e ∙ ap (λ (j : ℕ). record { first = q.first; second = j }) f

same_lists : (run : List Footprint) (m n : ℕ) (pairs others : List Pair) → Listed run m n pairs → Listed run m n others → pairs ≡ others
same_lists run m n [] [] h k = refl
same_lists run m n [] (q ∷ others) h k = absurd (nothing_listed run m n q others h k)
same_lists run m n (p ∷ pairs) [] h k = absurd (nothing_listed run m n p pairs k h)
same_lists run m n (p ∷ pairs) (q ∷ others) h k =
    elim (cases_order p.second q.second) [
      | inl e ↦
          let g : IsGreatestRace run q.first p.second = subst (λ (j : ℕ). IsGreatestRace run q.first j) (sym e) (k.listed 0 q (omega arith)) in
          let same : p ≡ q = same_pair p q (same_first run p.first q.first p.second (h.listed 0 p (omega arith)) g) e in
          let rest : Listed run (p.second + 1) n others = subst (λ (j : ℕ). Listed run (j + 1) n others) (sym e) (rest_listed run m n q others k) in
          ap (λ (x : Pair). x ∷ pairs) same ∙ ap (λ (l : List Pair). q ∷ l) (same_lists run (p.second + 1) n pairs others (rest_listed run m n p pairs h) rest)
      | inr c ↦ elim c [
        | inl lt ↦ absurd (first_missing run m n p q pairs others h k lt)
        | inr gt ↦ absurd (first_missing run m n q p others pairs k h gt)
      ]
    ]

-- a run without a race has the empty list
pub none_listed : (run : List Footprint) → ((i j : ℕ) → IsRace run i j → ⊥) → AreRaces run []
none_listed run none =
    record {
      within = λ k d lt. absurd (omega (arith, lt));
      listed = λ k d lt. absurd (omega (arith, lt));
      rising = λ i k d lt high. absurd (omega (arith, high));
      complete = λ i j lt r. absurd (none i j r);
    }

pub one_list : (run : List Footprint) (pairs others : List Pair) → AreRaces run pairs → AreRaces run others → pairs ≡ others
one_list run pairs others h k = same_lists run 0 (length run) pairs others (from_start run (length run) pairs h) (from_start run (length run) others k)
