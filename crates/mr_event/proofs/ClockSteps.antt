-- The clock of a step, made from the last step before it down.
use Rattle.mr_event.proofs.Common.{◌≡◌, ℕ, suc, ◌<◌, ◌≤◌, ◌+◌, List, length, get_or, refl, sym, ◌∙◌, ap, subst, inl, inr, ◌⊎◌, arith, ℕ_discrete, dec_lt, Footprint, IsClock, Follows, Edge, HappensBefore, in_thread, edge, chain}
use Rattle.mr_event.specs.Clocks.{AreSlots, IsBelow}
use Rattle.mr_event.proofs.Ordered.{first_edge, Edge-before, HappensBefore-before}

-- the clock of step k as far as the steps from i on have been looked at: what lies below it happens before k, and with
-- each step all that happen before that; and each step from i on that happens before k lies below it
pub record IsClockFrom (run : List Footprint) (slots clock : List ℕ) (i k : ℕ) : Type 0 where
  pub bounded : (s : ℕ) → get_or clock s 0 ≤ k
  pub sound : (m : ℕ) → m < k → IsBelow slots clock m → HappensBefore run m k
  pub closed : (m q : ℕ) → m < k → IsBelow slots clock m → HappensBefore run q m → IsBelow slots clock q
  pub complete : (m : ℕ) → i ≤ m → m < k → HappensBefore run m k → IsBelow slots clock m

-- the next step down lies below the clock, or is not before step k
pub clock_stays : (run : List Footprint) (slots clock : List ℕ) (i k : ℕ) → IsClockFrom run slots clock (suc i) k → (HappensBefore run i k → IsBelow slots clock i) → IsClockFrom run slots clock i k
clock_stays run slots clock i k c here =
    record {
      bounded = c.bounded;
      sound = c.sound;
      closed = c.closed;
      complete = λ m low high h. elim (ℕ_discrete m i) [
        | yes same ↦ subst (λ n. IsBelow slots clock n) (sym same) (here (subst (λ n. HappensBefore run n k) same h))
        | no differs ↦ c.complete m (omega arith) high h
      ];
    }

-- with no edge to step k, a step happens before it only where it lies below already
pub below_by_edges : (run : List Footprint) (slots clock : List ℕ) (i k : ℕ) → IsClockFrom run slots clock (suc i) k → (Edge run i k → ⊥) → HappensBefore run i k → IsBelow slots clock i
below_by_edges run slots clock i k c none h =
    elim (first_edge h) [
      | inl e ↦ absurd (none e)
      | inr t ↦
          let low : i < t.0 = Edge-before t.1 in
          let high : t.0 < k = HappensBefore-before t.2 in
          c.closed t.0 i high (c.complete t.0 (omega arith) high t.2) (edge t.1)
    ]

-- what lies below the clock that followed a step lay below one of the two, or is of the step's slot and not behind it
below_cases : (slots old other new : List ℕ) (i m : ℕ) → Follows old other (get_or slots i 0) i new → IsBelow slots new m → IsBelow slots old m ⊎ IsBelow slots other m ⊎ ((get_or slots m 0 ≡ get_or slots i 0) × (m ≤ i))
below_cases slots old other new i m f below =
    elim (ℕ_discrete (get_or slots m 0) (get_or slots i 0)) [
      | yes same ↦
          let is : get_or new (get_or slots m 0) 0 ≡ i + 1 = ap (λ s. get_or new s 0) same ∙ f.own in
          inr (inr (same, omega (arith, is, below)))
      | no apart ↦
          let is = f.each (get_or slots m 0) apart in
          elim (dec_lt m (get_or old (get_or slots m 0) 0)) [
            | yes lt ↦ inl lt
            | no over ↦ inr (inl (omega (arith, is, below, over)))
          ]
    ]

-- and all of those lie below it
below_old : (slots old other new : List ℕ) (i m : ℕ) → Follows old other (get_or slots i 0) i new → get_or old (get_or slots i 0) 0 ≤ i + 1 → IsBelow slots old m → IsBelow slots new m
below_old slots old other new i m f bound below =
    elim (ℕ_discrete (get_or slots m 0) (get_or slots i 0)) [
      | yes same ↦
          let new_is : get_or new (get_or slots m 0) 0 ≡ i + 1 = ap (λ s. get_or new s 0) same ∙ f.own in
          let old_is : get_or old (get_or slots m 0) 0 ≡ get_or old (get_or slots i 0) 0 = ap (λ s. get_or old s 0) same in
          omega (arith, new_is, old_is, bound, below)
      | no apart ↦ let is = f.each (get_or slots m 0) apart in omega (arith, is, below)
    ]

below_other : (slots old other new : List ℕ) (i m : ℕ) → Follows old other (get_or slots i 0) i new → get_or other (get_or slots i 0) 0 ≤ i → IsBelow slots other m → IsBelow slots new m
below_other slots old other new i m f bound below =
    elim (ℕ_discrete (get_or slots m 0) (get_or slots i 0)) [
      | yes same ↦
          let new_is : get_or new (get_or slots m 0) 0 ≡ i + 1 = ap (λ s. get_or new s 0) same ∙ f.own in
          let other_is : get_or other (get_or slots m 0) 0 ≡ get_or other (get_or slots i 0) 0 = ap (λ s. get_or other s 0) same in
          omega (arith, new_is, other_is, bound, below)
      | no apart ↦ let is = f.each (get_or slots m 0) apart in omega (arith, is, below)
    ]

below_own : (slots old other new : List ℕ) (i m : ℕ) → Follows old other (get_or slots i 0) i new → get_or slots m 0 ≡ get_or slots i 0 → m ≤ i → IsBelow slots new m
below_own slots old other new i m f same le =
    let new_is : get_or new (get_or slots m 0) 0 ≡ i + 1 = ap (λ s. get_or new s 0) same ∙ f.own in
    omega (arith, new_is, le)

-- an edge leads from the next step down, which did not lie below the clock
pub clock_follows : (run : List Footprint) (slots : List ℕ) (count : ℕ) (old other new : List ℕ) (i k : ℕ) → AreSlots run slots count → k < length run → i < k → IsClock run slots other i → IsClockFrom run slots old (suc i) k → (IsBelow slots old i → ⊥) → Edge run i k → Follows old other (get_or slots i 0) i new → IsClockFrom run slots new i k
clock_follows run slots count old other new i k s within lt before c apart e f =
    record {
      bounded = bound;
      sound = λ m high below. elim (below_cases slots old other new i m f below) [
        | inl h ↦ c.sound m high h
        | inr (inl h) ↦ chain (under m h) (edge e)
        | inr (inr h) ↦ up_to m h.0 h.1
      ];
      closed = λ m q high below h. elim (below_cases slots old other new i m f below) [
        | inl b ↦ below_old slots old other new i q f (omega (arith)) (c.closed m q high b h)
        | inr (inl b) ↦ over q (chain h (under m b))
        | inr (inr b) ↦ elim (ℕ_discrete m i) [
          | yes same ↦ over q (subst (λ n. HappensBefore run q n) same h)
          | no differs ↦ over q (chain h (edge (in_thread (omega (arith, b.1, differs)) (s.apart m i (omega arith) (omega arith) b.0))))
        ]
      ];
      complete = λ m low high h. elim (ℕ_discrete m i) [
        | yes same ↦ subst (λ n. IsBelow slots new n) (sym same) (below_own slots old other new i i f refl (omega arith))
        | no differs ↦ below_old slots old other new i m f (omega arith) (c.complete m (omega arith) high h)
      ];
    }
  where
    old_low : get_or old (get_or slots i 0) 0 ≤ i
    old_low = omega (arith, apart)

    other_low : get_or other (get_or slots i 0) 0 ≤ i
    other_low = before.bounded (get_or slots i 0)

    bound : (t : ℕ) → get_or new t 0 ≤ k
    bound t = elim (ℕ_discrete t (get_or slots i 0)) [
      | yes same ↦ let is : get_or new t 0 ≡ i + 1 = ap (λ x. get_or new x 0) same ∙ f.own in omega (arith, is, lt)
      | no no_own ↦ omega (arith, f.each t no_own, c.bounded t, before.bounded t, lt)
    ]

    under : (m : ℕ) → IsBelow slots other m → HappensBefore run m i
    under m h = (before.exact m (omega (arith, before.bounded (get_or slots m 0), h))).0 h

    over : (q : ℕ) → HappensBefore run q i → IsBelow slots new q
    over q h = below_other slots old other new i q f other_low ((before.exact q (HappensBefore-before h)).1 h)

    up_to : (m : ℕ) → get_or slots m 0 ≡ get_or slots i 0 → m ≤ i → HappensBefore run m k
    up_to m same le = elim (ℕ_discrete m i) [
      | yes is ↦ subst (λ n. HappensBefore run n k) (sym is) (edge e)
      | no no_i ↦ chain (edge (in_thread (omega (arith, le, no_i)) (s.apart m i (omega arith) (omega arith) same))) (edge e)
    ]
