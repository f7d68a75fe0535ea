-- Lists of rooms in another order.
use Rattle.mr_plan.proofs.Common.{◌≡◌, ◌≢◌, ℕ, zero, suc, ◌+◌, ◌<◌, refl, ap, ◌∙◌, List, [], ◌∷◌, ◌++◌, length, arith, ◌⊎◌, inl, inr, Some, slice_get, Slot}
use Rattle.mr_plan.proofs.StorageRuns.{Entails}

-- what stands in two lists in a row
pub append_cases : {A : Type 0} (xs ys : List A) (i : ℕ) (x : A) → slice_get (xs ++ ys) i ≡ Some x
    → ((i < length xs) × (slice_get xs i ≡ Some x)) ⊎ ((k : ℕ) × (i ≡ length xs + k) × (slice_get ys k ≡ Some x))
append_cases [] ys i x h = inr (i, omega arith, h)
append_cases (y ∷ xs) ys zero x h = inl (omega arith, h)
append_cases (y ∷ xs) ys (suc i) x h = elim (append_cases xs ys i x h) [
  | inl l ↦ inl ((let lt = l.0 in omega arith), l.1)
  | inr r ↦ inr (r.0, (let e = r.1 in omega arith), r.2)
]

pub in_front : {A : Type 0} (xs ys : List A) (i : ℕ) (x : A) → slice_get xs i ≡ Some x → slice_get (xs ++ ys) i ≡ Some x
in_front [] ys i x h = absurd (cc)
in_front (y ∷ xs) ys zero x h = h
in_front (y ∷ xs) ys (suc i) x h = in_front xs ys i x h

pub behind : {A : Type 0} (xs ys : List A) (k : ℕ) (x : A) → slice_get ys k ≡ Some x → slice_get (xs ++ ys) (length xs + k) ≡ Some x
behind [] ys k x h = let e : 0 + k ≡ k = omega arith in ap (slice_get ys) e ∙ h
behind (y ∷ xs) ys k x h = let e : suc (length xs) + k ≡ suc (length xs + k) = omega arith in ap (slice_get (y ∷ (xs ++ ys))) e ∙ behind xs ys k x h

-- where a position comes from, when two lists change places in front of a third
pub data Moved (la lb : ℕ) (i j : ℕ) : Type 0 where
  first : (k : ℕ) → k < lb → i ≡ k → j ≡ la + k → Moved la lb i j
  second : (k : ℕ) → k < la → i ≡ lb + k → j ≡ k → Moved la lb i j
  third : (k : ℕ) → i ≡ lb + (la + k) → j ≡ la + (lb + k) → Moved la lb i j

moved_apart : (la lb i j i' j' : ℕ) → Moved la lb i j → Moved la lb i' j' → i ≢ i' → j ≢ j'
moved_apart la lb i j i' j' (first k lt ei ej) (first k' lt' ei' ej') d = λ e. d (omega arith)
moved_apart la lb i j i' j' (first k lt ei ej) (second k' lt' ei' ej') d = λ e. omega arith
moved_apart la lb i j i' j' (first k lt ei ej) (third k' ei' ej') d = λ e. omega arith
moved_apart la lb i j i' j' (second k lt ei ej) (first k' lt' ei' ej') d = λ e. omega arith
moved_apart la lb i j i' j' (second k lt ei ej) (second k' lt' ei' ej') d = λ e. d (omega arith)
moved_apart la lb i j i' j' (second k lt ei ej) (third k' ei' ej') d = λ e. omega arith
moved_apart la lb i j i' j' (third k ei ej) (first k' lt' ei' ej') d = λ e. omega arith
moved_apart la lb i j i' j' (third k ei ej) (second k' lt' ei' ej') d = λ e. omega arith
moved_apart la lb i j i' j' (third k ei ej) (third k' ei' ej') d = λ e. d (omega arith)

-- a room of the one order, in the other
pub record CameFrom (a b c : List Slot) (i : ℕ) (slot : Slot) : Type 0 where
  pub index : ℕ
  pub moved : Moved (length a) (length b) i index
  pub here : slice_get (a ++ (b ++ c)) index ≡ Some slot

came_from : (a b c : List Slot) (i : ℕ) (slot : Slot) → slice_get (b ++ (a ++ c)) i ≡ Some slot → CameFrom a b c i slot
came_from a b c i slot h = elim (append_cases b (a ++ c) i slot h) [
  | inl l ↦ record { index = length a + i; moved = first i l.0 refl refl; here = behind a (b ++ c) i slot (in_front b c i slot l.1) }
  | inr r ↦ elim (append_cases a c r.0 slot r.2) [
    | inl l ↦ record { index = r.0; moved = second r.0 l.0 r.1 refl; here = in_front a (b ++ c) r.0 slot l.1 }
    | inr s ↦ record {
      index = length a + (length b + s.0);
      moved = third s.0 (r.1 ∙ ap (λ k. length b + k) s.1) refl;
      here = behind a (b ++ c) (length b + s.0) slot (behind b c s.0 slot s.2);
    }
  ]
]

-- TWO LISTS CHANGE PLACES
pub change_places : (a b c : List Slot) → Entails (a ++ (b ++ c)) (b ++ (a ++ c))
change_places a b c = λ m h. record {
  each = λ i slot p here is. let f = came_from a b c i slot here in h.each f.index slot p f.here is;
  apart = λ i k x y p q d hx hy px py.
      let f = came_from a b c i x hx in
      let g = came_from a b c k y hy in
      h.apart f.index g.index x y p q (moved_apart (length a) (length b) i f.index k g.index f.moved g.moved d) f.here g.here px py;
}
