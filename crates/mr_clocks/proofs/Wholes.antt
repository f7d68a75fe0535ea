-- What lies before the fronts, and under the clocks of some steps joined.
use Rattle.mr_clocks.proofs.Common.{◌≡◌, ℕ, ◌<◌, ◌≤◌, ◌+◌, ◌↔◌, List, [], ◌∷◌, ◌++◌, Bool, false, IsTrue, length, get_or, slice_index, sym, ◌∙◌, ap, subst, inl, inr, arith, ℕ_discrete, dec_lt, get_or_append_left, get_or_default, get_or_push, Footprint, thread_at, in_thread, edge, HappensBefore-before, IsClockOf, IsUnder, Follows, IsNeededBy, IsUpTo, front_of}
use Rattle.std.proofs.lemmas.List.{get_or_past}
use Rattle.mr_clocks.specs.Whole.{AreFronts, IsReady}
use Rattle.mr_clocks.proofs.Parts.{under_cases, under_old, under_other, under_own}

-- ---- fronts

module _ (run : List Footprint) (clock fronts : List ℕ) (k : ℕ) (step : k < length run) where
  front_there : (t : ℕ) → t < length fronts → slice_index fronts t ≡ front_of run fronts t
  front_there t lt = get_or_default fronts t 0 (length run) lt

  -- a step is ready where its clock is within the fronts, and it is not behind that of its own thread
  pub within_ready : IsClockOf run clock k → ((t : ℕ) → t < length fronts → slice_index clock t ≤ slice_index fronts t) → k ≤ front_of run fronts (thread_at run k) → IsReady run fronts k
  within_ready c within own = λ a h.
      let before = HappensBefore-before h in
      elim (ℕ_discrete (thread_at run a) (thread_at run k)) [
        | yes same ↦ let number = ap (front_of run fronts) same in omega (arith, number, before, own)
        | no apart ↦ elim (dec_lt (thread_at run a) (length fronts)) [
          | yes lt ↦
              let under = c.exact a apart h in
              let le = within (thread_at run a) lt in
              let is = front_there (thread_at run a) lt in
              omega (arith, under, le, is)
          | no past ↦ let is = get_or_past fronts (thread_at run a) (length run) (omega (arith, past)) in omega (arith, is, before, step)
        ]
      ]

  -- and so it is where it is ready, for a front that it is beyond is itself a step that happens before it
  pub ready_within : IsClockOf run clock k → AreFronts run fronts → IsReady run fronts k → (t : ℕ) → t < length fronts → slice_index clock t ≤ slice_index fronts t
  ready_within c are ready t lt =
      elim (dec_lt (slice_index fronts t) (slice_index clock t)) [
        | no le ↦ omega (arith, le)
        | yes low ↦
            let bound = c.bounded t in
            let is = front_there t lt in
            let own = are t (omega (arith, bound, is, low, step)) in
            let number = ap (slice_index clock) own in
            let h = ready (front_of run fronts t) (c.sound (front_of run fronts t) (omega (arith, number, is, low))) in
            let same = ap (front_of run fronts) own in
            absurd (omega (arith, h, same))
      ]

-- a ready step is not behind the front of its thread
pub ready_own : (run : List Footprint) (fronts : List ℕ) (k : ℕ) → k < length run → AreFronts run fronts → IsReady run fronts k → k ≤ front_of run fronts (thread_at run k)
ready_own run fronts k step are ready =
    elim (dec_lt (front_of run fronts (thread_at run k)) k) [
      | no le ↦ omega (arith, le)
      | yes low ↦
          let own = are (thread_at run k) (omega (arith, low, step)) in
          let h = ready (front_of run fronts (thread_at run k)) (edge (in_thread low own)) in
          let same = ap (front_of run fronts) own in
          absurd (omega (arith, h, same))
    ]

-- ---- clocks joined

-- nothing lies under an empty clock
pub join_none : (run : List Footprint) (clock steps : List ℕ) → clock ≡ [] → (k : ℕ) → IsUnder run clock k ↔ IsNeededBy run steps 0 k
join_none run clock steps is k = (
  λ under. let none = ap (λ (l : List ℕ). slice_index l (thread_at run k)) is in absurd (omega (arith, none, under)),
  λ n. absurd (let lt = n.1 in omega (arith, lt)),
)

-- one more step is followed
pub join_more : (run : List Footprint) (old other new steps : List ℕ) (x i : ℕ) → i ≡ slice_index steps x → IsClockOf run other i → Follows old other (thread_at run i) i new
    → ((k : ℕ) → IsUnder run old k ↔ IsNeededBy run steps x k) → (k : ℕ) → IsUnder run new k ↔ IsNeededBy run steps (x + 1) k
join_more run old other new steps x i at c f was k = (
  λ under. elim (under_cases run old other new i k f under) [
    | inl h ↦ let r = (was k).0 h in let lt = r.1 in (r.0, omega (arith, lt), r.2)
    | inr (inl h) ↦ last (inr (c.sound k h))
    | inr (inr h) ↦ last (up_to h.0 h.1)
  ],
  λ n. elim (ℕ_discrete n.0 x) [
    | yes same ↦ here (subst (λ (s : ℕ). IsUpTo run s k) (ap (slice_index steps) same ∙ sym at) n.2)
    | no differs ↦ under_old run old other new i k f ((was k).1 (n.0, (let lt = n.1 in omega (arith, lt, differs)), n.2))
  ],
)
  where
    last : IsUpTo run i k → IsNeededBy run steps (x + 1) k
    last u = (x, omega arith, subst (λ (s : ℕ). IsUpTo run s k) at u)

    up_to : thread_at run k ≡ thread_at run i → k ≤ i → IsUpTo run i k
    up_to same le = elim (ℕ_discrete k i) [ yes e ↦ inl e | no differs ↦ inr (edge (in_thread (omega (arith, le, differs)) same)) ]

    here : IsUpTo run i k → IsUnder run new k
    here (inl e) = under_own run old other new i k f (ap (thread_at run) e) (omega (arith, e))
    here (inr h) = elim (ℕ_discrete (thread_at run k) (thread_at run i)) [
      | yes same ↦ let lt = HappensBefore-before h in under_own run old other new i k f same (omega (arith, lt))
      | no apart ↦ under_other run old other new i k f (c.exact k apart h)
    ]

-- ---- marks

-- one more mark
pub marks_more : (P : ℕ → Type 0) (k : ℕ) (old new : List Bool) (b : Bool) → length old ≡ k → new ≡ old ++ b ∷ [] → ((m : ℕ) → m < k → IsTrue (get_or old m false) ↔ P m) → (IsTrue b ↔ P k)
    → (m : ℕ) → m < k + 1 → IsTrue (get_or new m false) ↔ P m
marks_more P k old new b wide is was here m lt =
    elim (ℕ_discrete m k) [
      | yes e ↦
          let at : get_or new m false ≡ b = ap (λ l. get_or l m false) is ∙ get_or_push old b false m (wide ∙ sym e) in
          subst (λ (x : Bool). IsTrue x ↔ P m) (sym at) (subst (λ (n : ℕ). IsTrue b ↔ P n) (sym e) here)
      | no ne ↦
          let low : m < k = omega (arith, lt, ne) in
          let at : get_or new m false ≡ get_or old m false = ap (λ l. get_or l m false) is ∙ get_or_append_left old (b ∷ []) false m (omega (arith, wide, low)) in
          subst (λ (x : Bool). IsTrue x ↔ P m) (sym at) (was m low)
    ]
