-- The way from a step to a later one leads there by edges.
use Rattle.mr_picture.proofs.Common.{◌≡◌, ◌⊎◌, inl, inr, ℕ, zero, suc, ◌+◌, ◌-◌, ◌<◌, ◌≤◌, Bool, true, false, List, [], ◌∷◌, refl, sym, ap, subst, ◌∙◌, arith, Option, Some, None, ◌&&◌, ◌||◌, ◌==◌, if◌then◌else◌, and_from, and_parts, eq-eqb, eqb-true, ne_eqb, Footprint, Edge, HappensBefore, greatest_below, happens_before, HappensBefore-before, happens_before_is, leads, next_step, way, way_within}
use Rattle.std.proofs.Common.{⊎_elim, true≢false}
use native.Mathlib.Decide.{ℕ_discrete}
use Rattle.std.specs.Prelude.{cond}
use Rattle.std.proofs.lemmas.Bool.{or_cases, or_left, or_right}
use Rattle.mr_event.specs.Order.HappensBefore.{edge, chain}
use Rattle.mr_event.specs.Predicted.{has_edge}
use Rattle.mr_event.proofs.Ordered.{Edge-before}
use Rattle.mr_event.proofs.Tests.{has_edge_is}
use Rattle.mr_picture.specs.Way.{IsWay, way_over}

-- ---- the greatest number that passes

-- where the one here passes it is that
pub found_here : (p : ℕ → Bool) (n : ℕ) → p n ≡ true → greatest_below p (suc n) ≡ Some n
found_here p n e = ap (λ b. cond b (Some n) (greatest_below p n)) e

-- and else it is below
pub found_below : (p : ℕ → Bool) (n : ℕ) → p n ≡ false → greatest_below p (suc n) ≡ greatest_below p n
found_below p n e = ap (λ b. cond b (Some n) (greatest_below p n)) e

-- where a number passes, there is a greatest one
record IsFound (p : ℕ → Bool) (n : ℕ) : Type 0 where
  at : ℕ
  is : greatest_below p n ≡ Some at
  within : at < n
  passes : p at ≡ true

found_step : (p : ℕ → Bool) (n k : ℕ) → k < suc n → p k ≡ true → (k < n → IsFound p n) → (b : Bool) → p n ≡ b → IsFound p (suc n)
found_step p n k lt e rest true here = record { at = n; is = found_here p n here; within = omega arith; passes = here }
found_step p n k lt e rest false here =
    let below : k < n = elim (ℕ_discrete k n) [
      | yes same ↦ absurd (true≢false (sym e ∙ ap p same ∙ here))
      | no other ↦ omega (arith, lt, other)
    ] in
    let found = rest below in
    record { at = found.at; is = found_below p n here ∙ found.is; within = omega (arith, found.within); passes = found.passes }

some_found : (p : ℕ → Bool) (n k : ℕ) → k < n → p k ≡ true → IsFound p n
some_found p zero k lt e = absurd (omega arith)
some_found p (suc n) k lt e = found_step p n k lt e (λ less. some_found p n k less e) (p n) refl

-- ---- a step that leads on

-- a step that happens before another has an edge to that one, or to one that happens before it
first_edge : (run : List Footprint) (i j : ℕ) → HappensBefore run i j → (k : ℕ) × Edge run i k × ((k ≡ j) ⊎ HappensBefore run k j)
first_edge run i j (edge e) = (j, e, inl refl)
first_edge run i j (chain {j = mid} h g) =
    let (k, e, rest) = first_edge run i mid h in
    (k, e, ⊎_elim (λ (same : k ≡ mid). inr (subst (λ m. HappensBefore run m j) (sym same) g)) (λ (on : HappensBefore run k mid). inr (chain on g)) rest)

-- what the test of a step that leads on says
record IsOn (run : List Footprint) (i j k : ℕ) : Type 0 where
  from : Edge run i k
  on : (k ≡ j) ⊎ HappensBefore run k j

leads_on : (run : List Footprint) (i j k : ℕ) → leads run i j k ≡ true → IsOn run i j k
leads_on run i j k e =
    let parts = and_parts (has_edge run i k) ((k == j) || happens_before run k j) e in
    record {
      from = (has_edge_is run i k).0 parts.0;
      on = ⊎_elim (λ s. inl (eqb-true k j s)) (λ h. inr ((happens_before_is run k j).0 h)) (or_cases (k == j) (happens_before run k j) parts.1);
    }

on_leads : (run : List Footprint) (i j k : ℕ) → IsOn run i j k → leads run i j k ≡ true
on_leads run i j k h =
    and_from (has_edge run i k) ((k == j) || happens_before run k j) ((has_edge_is run i k).1 h.from)
    (⊎_elim (λ (s : k ≡ j). or_left (k == j) (happens_before run k j) (eq-eqb k j s))
    (λ (b : HappensBefore run k j). or_right (k == j) (happens_before run k j) ((happens_before_is run k j).1 b)) h.on)

-- what is found is behind the one and no further than the other
pub record IsNextStep (run : List Footprint) (i j : ℕ) (found : Option ℕ) : Type 0 where
  pub step : ℕ
  pub is : found ≡ Some step
  pub from : Edge run i step
  pub on : (step ≡ j) ⊎ HappensBefore run step j

pub next_is : (run : List Footprint) (i j : ℕ) → HappensBefore run i j → IsNextStep run i j (next_step run i j)
next_is run i j h =
    let (k, e, rest) = first_edge run i j h in
    let low : k ≤ j = ⊎_elim (λ (s : k ≡ j). omega (arith, s)) (λ (b : HappensBefore run k j). let less = HappensBefore-before b in omega (arith, less)) rest in
    let found = some_found (leads run i j) (suc j) k (omega (arith, low)) (on_leads run i j k (record { from = e; on = rest })) in
    let is = leads_on run i j found.at found.passes in
    record { step = found.at; is = found.is; from = is.from; on = is.on }

-- ---- ways

on_before : (run : List Footprint) (k j : ℕ) → (k ≡ j) ⊎ HappensBefore run k j → k ≤ j
on_before run k j on = ⊎_elim (λ (s : k ≡ j). omega (arith, s)) (λ (b : HappensBefore run k j). let less = HappensBefore-before b in omega (arith, less)) on

-- at its end a way is empty
pub way_ends : (n : ℕ) (run : List Footprint) (j : ℕ) → way_within n run j j ≡ []
way_ends zero run j = refl
way_ends (suc n) run j = ap (λ b. if b then [] else way_over (λ k. way_within n run k j) (next_step run j j)) (eq-eqb j j refl)

-- before it it goes on over the next step
pub way_goes : (n : ℕ) (run : List Footprint) (i j k : ℕ) → (i ≡ j → ⊥) → next_step run i j ≡ Some k → way_within (suc n) run i j ≡ k ∷ way_within n run k j
way_goes n run i j k apart e =
    ap (λ b. if b then [] else way_over (λ m. way_within n run m j) (next_step run i j)) (ne_eqb i j apart)
    ∙ ap (way_over (λ m. way_within n run m j)) e

-- or ends where there is none
pub way_stops : (n : ℕ) (run : List Footprint) (i j : ℕ) → next_step run i j ≡ None → way_within n run i j ≡ []
way_stops zero run i j e = refl
way_stops (suc n) run i j e = by (i == j)
  where
    by : (b : Bool) → (if b then [] else way_over (λ m. way_within n run m j) (next_step run i j)) ≡ []
    by true = refl
    by false = ap (way_over (λ m. way_within n run m j)) e

leads_there : (n : ℕ) (run : List Footprint) (i j : ℕ) → j ≤ i + n → (i ≡ j) ⊎ HappensBefore run i j → IsWay run i j (way_within n run i j)
leads_there zero run i j short (inl same) = same
leads_there zero run i j short (inr before) = let less = HappensBefore-before before in absurd (omega (arith, less, short))
leads_there (suc n) run i j short (inl same) = subst (IsWay run i j) (sym (ap (λ k. way_within (suc n) run k j) same ∙ way_ends (suc n) run j)) same
leads_there (suc n) run i j short (inr before) =
    let next = next_is run i j before in
    let behind : i < next.step = Edge-before next.from in
    let less = HappensBefore-before before in
    subst (IsWay run i j) (sym (way_goes n run i j next.step (λ same. omega (arith, less, same)) next.is))
    (next.from, leads_there n run next.step j (omega (arith, short, behind)) next.on)

pub way_leads : (run : List Footprint) (i j : ℕ) → HappensBefore run i j → IsWay run i j (way run i j)
way_leads run i j before = leads_there (j - i) run i j (omega arith) (inr before)

-- a way leads to no earlier step
reach : (run : List Footprint) (k j : ℕ) (steps : List ℕ) → IsWay run k j steps → k ≤ j
reach run k j [] same = omega (arith, same)
reach run k j (m ∷ steps) (f, rest) =
    let less = Edge-before f in
    let on = reach run m j steps rest in
    omega (arith, less, on)

-- where a way leads to a later step, the one happens before it
pub led_before : (run : List Footprint) (i j : ℕ) (steps : List ℕ) → i < j → IsWay run i j steps → HappensBefore run i j
led_before run i j [] lt same = absurd (omega (arith, lt, same))
led_before run i j (k ∷ []) lt (e, same) = edge (subst (Edge run i) same e)
led_before run i j (k ∷ m ∷ steps) lt (e, (f, rest)) =
    let less = Edge-before f in
    let on = reach run m j steps rest in
    chain (edge e) (led_before run k j (m ∷ steps) (omega (arith, less, on)) (f, rest))
