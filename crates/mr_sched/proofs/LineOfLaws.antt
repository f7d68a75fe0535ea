-- The line of an entry holds it.
use Rattle.mr_sched.proofs.Common.{◌≡◌, ℕ, suc, zero, ◌+◌, ◌<◌, ◌≤◌, Bool, true, false, if◌then◌else◌, List, [], ◌∷◌, length, take, refl, ap, ◌∙◌, arith, Entry, Group, Version, are_together, begun_to, entry_count, groups_behind, groups_of, is_joined, line_in}
use Rattle.std.proofs.Common.{◌-◌}
use Rattle.mr_sched.specs.Versions.{HoldsEntry}
use Rattle.mr_sched.proofs.VersionLaws.{joined_behind}

-- a line more where a number of lines begin, unless the entry is joined
abbrev begins : Bool → ℕ → ℕ
begins b n = if b then n else suc n

begins_twice : (b c : Bool) (n : ℕ) → begins b (begins c n) ≡ begins c (begins b n)
begins_twice true true n = refl
begins_twice true false n = refl
begins_twice false true n = refl
begins_twice false false n = refl

begun_behind : (v : Version) (e f : Entry) (es : List Entry) (k : ℕ) → begun_to v (e ∷ f ∷ es) (suc k) ≡ begins (are_together v e f) (begun_to v (f ∷ es) k)
begun_behind v e f es zero = refl
begun_behind v e f es (suc k) =
    ap (λ (b : Bool). begins b (begun_to v (e ∷ f ∷ es) (suc k))) (joined_behind v e (f ∷ es) k)
    ∙ ap (begins (is_joined v (f ∷ es) k)) (begun_behind v e f es k)
    ∙ begins_twice (is_joined v (f ∷ es) k) (are_together v e f) (begun_to v (f ∷ es) k)

-- line number i, from 0, holds the entry at this place
abbrev Stands : List Group → ℕ → ℕ → Type 0
Stands gs i k = (i < length gs) × (entry_count (take i gs) ≤ k) × (k < entry_count (take (suc i) gs))

stands : (v : Version) (n : ℕ) (e : Entry) (es : List Entry) (k : ℕ) → k < length (e ∷ es) → Stands (groups_behind v n (e ∷ es)) (begun_to v (e ∷ es) k) (n + k)
stands v n e [] zero within = (omega arith, omega arith, omega arith)
stands v n e [] (suc k) within = absurd (omega arith)
stands v n e (f ∷ es) zero within = by (are_together v e f) (stands v (n + 1) f es zero (omega arith))
  where
    by : (b : Bool) → Stands (groups_behind v (n + 1) (f ∷ es)) 0 (n + 1 + 0) → Stands (if b then groups_behind v (n + 1) (f ∷ es) else record { entry = e; count = n + 1 } ∷ groups_behind v 0 (f ∷ es)) 0 (n + 0)
    by true on = (on.0, omega arith, omega (arith, on.2))
    by false on = (omega arith, omega arith, omega arith)
stands v n e (f ∷ es) (suc k) within =
    subst_stands (groups_behind v n (e ∷ f ∷ es)) (begun_behind v e f es k)
    (by (are_together v e f) (stands v (n + 1) f es k (omega arith)) (stands v 0 f es k (omega arith)))
  where
    subst_stands : (gs : List Group) → {i j : ℕ} → i ≡ j → Stands gs j (n + suc k) → Stands gs i (n + suc k)
    subst_stands gs same h = rw same h

    by : (b : Bool) → Stands (groups_behind v (n + 1) (f ∷ es)) (begun_to v (f ∷ es) k) (n + 1 + k) → Stands (groups_behind v 0 (f ∷ es)) (begun_to v (f ∷ es) k) (0 + k)
        → Stands (if b then groups_behind v (n + 1) (f ∷ es) else record { entry = e; count = n + 1 } ∷ groups_behind v 0 (f ∷ es)) (begins b (begun_to v (f ∷ es) k)) (n + suc k)
    by true on anew = (on.0, omega (arith, on.1), omega (arith, on.2))
    by false on anew = (omega (arith, anew.0), omega (arith, anew.1), omega (arith, anew.2))

-- THE LINE OF AN ENTRY HOLDS IT
pub line_has : (v : Version) (es : List Entry) (k : ℕ) → k < length es → HoldsEntry (groups_of v es) (line_in v es k - 3) k
line_has v [] k within = absurd (omega arith)
line_has v (e ∷ es) k within =
    let h = stands v 0 e es k within in
    let i = begun_to v (e ∷ es) k in
    let at : line_in v (e ∷ es) k - 3 ≡ i = omega arith in
    let next : i + 1 ≡ suc i = omega arith in
    rw (at, next) (h.0, omega (arith, h.1), omega (arith, h.2))
