-- The links of a row, from one to the one before it.
use Rattle.mr_clocks.proofs.Common.{◌≡◌, ℕ, suc, ◌+◌, ◌<◌, ◌≤◌, ◌⊎◌, inl, inr, List, ◌++◌, length, refl, sym, ap, subst, arith, get_or_append_left, Link, AreLinks, IsIn, link_at, no_link, step_of}
use Rattle.mr_clocks.specs.Rows.IsIn.{latest, behind}

-- it is the first, or one of those that begin where the first leads to
pub in_cases : {links : List Link} {k at : ℕ} → IsIn links k at → (at ≡ k + 1) ⊎ ((m : ℕ) × (at ≡ m + 1) × IsIn links k (link_at links m).before)
in_cases latest = inl (omega arith)
in_cases (behind m r) = inr (m, omega arith, r)

pub in_here : (links : List Link) (k at : ℕ) → at ≡ k + 1 → IsIn links k at
in_here links k at e = let is : suc k ≡ at = omega (arith, e) in subst (λ (n : ℕ). IsIn links k n) is latest

pub in_behind : (links : List Link) (k m at : ℕ) → at ≡ m + 1 → IsIn links k (link_at links m).before → IsIn links k at
in_behind links k m at e r = let is : suc m ≡ at = omega (arith, e) in subst (λ (n : ℕ). IsIn links k n) is (behind m r)

pub in_none : (links : List Link) (k at : ℕ) → at ≡ 0 → IsIn links k at → ⊥
in_none links k at e r = elim (in_cases r) [
  | inl is ↦ absurd (omega (arith, e, is))
  | inr t ↦ absurd (let is = t.1 in omega (arith, e, is))
]

-- no link is behind the first
pub in_low : (links : List Link) → AreLinks links → {k at : ℕ} → IsIn links k at → at ≤ length links → k + 1 ≤ at
in_low links a latest le = omega arith
in_low links a (behind m r) le =
    let low = a.low m (omega (arith, le)) in
    let more = in_low links a r (omega (arith, le, low)) in
    omega (arith, low, more)

-- the links behind one keep earlier steps
pub in_falls : (links : List Link) → AreLinks links → {k : ℕ} → (m : ℕ) → m < length links → {b : ℕ} → IsIn links k b → b ≡ (link_at links m).before → step_of links k < step_of links m
in_falls links a {k = k} m lt latest e = a.falling m k lt (omega (arith, e))
in_falls links a m lt (behind q r) e =
    let low = a.low m lt in
    let one = a.falling m q lt (omega (arith, e)) in
    let two = in_falls links a q (omega (arith, e, low, lt)) r refl in
    omega (arith, one, two)

-- the first link keeps the latest step
pub in_most : (links : List Link) → AreLinks links → (m k at : ℕ) → at ≡ m + 1 → at ≤ length links → IsIn links k at → step_of links k ≤ step_of links m
in_most links a m k at e le r = elim (in_cases r) [
  | inl is ↦ let same : k ≡ m = omega (arith, e, is) in let step = ap (step_of links) same in omega (arith, step)
  | inr t ↦
      let is = t.1 in
      let same : t.0 ≡ m = omega (arith, e, is) in
      let less = in_falls links a m (omega (arith, e, le)) t.2 (ap (λ (q : ℕ). (link_at links q).before) same) in
      omega (arith, less)
]

-- further links change nothing in those that were there
module _ (links more : List Link) (a : AreLinks links) where
  pub link_left : (m : ℕ) → m < length links → link_at (links ++ more) m ≡ link_at links m
  link_left m lt = get_or_append_left links more no_link m lt

  pub in_more : {k at : ℕ} → IsIn links k at → at ≤ length links → IsIn (links ++ more) k at
  in_more latest le = latest
  in_more {k = k} (behind m r) le =
      let lt : m < length links = omega (arith, le) in
      let low = a.low m lt in
      behind m (subst (λ (l : Link). IsIn (links ++ more) k l.before) (sym (link_left m lt)) (in_more r (omega (arith, low, lt))))

  pub in_less : {k at : ℕ} → IsIn (links ++ more) k at → at ≤ length links → IsIn links k at
  in_less latest le = latest
  in_less {k = k} (behind m r) le =
      let lt : m < length links = omega (arith, le) in
      let low = a.low m lt in
      let same = ap (λ (l : Link). l.before) (link_left m lt) in
      behind m (subst (λ (l : Link). IsIn links k l.before) (link_left m lt) (in_less r (omega (arith, low, lt, same))))
