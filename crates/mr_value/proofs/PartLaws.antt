-- Parts of a list of bytes.
use Rattle.mr_value.proofs.Common.{◌≡◌, ℕ, zero, suc, ◌+◌, ◌-◌, ◌<◌, ◌≤◌, [], ◌∷◌, ◌++◌, take, drop, Some, refl, ap, ◌∙◌, arith, slice_get, drop-drop, AbstractByte, Bytes, part}
use Rattle.std.proofs.lemmas.List.{take-take, drop-take}
use Rattle.mr_base.proofs.Lists.{slice_get-drop}

step : (b : Bytes) (at len : ℕ) (x : AbstractByte) → slice_get b at ≡ Some x → take (suc len) (drop at b) ≡ x ∷ take len (drop (suc at) b)
step [] at len x e = cc
step (y ∷ b) zero len x e = let h : y ≡ x = cc in ap (λ (z : AbstractByte). z ∷ take len b) h
step (y ∷ b) (suc at) len x e = step b at len x e

-- a part is its first byte and the part after it
pub part_step : (b : Bytes) (at len : ℕ) (x : AbstractByte) → slice_get b at ≡ Some x → 0 < len → part at len b ≡ x ∷ part (at + 1) (len - 1) b
part_step b at len x e p =
    let h : len ≡ suc (len - 1) = omega arith in
    let g : suc at ≡ at + 1 = omega arith in
    ap (λ n. take n (drop at b)) h ∙ step b at (len - 1) x e ∙ ap (λ n. x ∷ take (len - 1) (drop n b)) g

pub part_none : (b : Bytes) (at : ℕ) → part at 0 b ≡ []
part_none b at = refl

take_push : (b : Bytes) (i : ℕ) (x : AbstractByte) → slice_get b i ≡ Some x → take (suc i) b ≡ take i b ++ x ∷ []
take_push [] i x e = cc
take_push (y ∷ b) zero x e = let h : y ≡ x = cc in ap (λ (z : AbstractByte). z ∷ []) h
take_push (y ∷ b) (suc i) x e = ap (λ (r : Bytes). y ∷ r) (take_push b i x e)

-- a part that is one byte longer
pub part_push : (b : Bytes) (at i : ℕ) (x : AbstractByte) → slice_get b (at + i) ≡ Some x → part at (i + 1) b ≡ part at i b ++ x ∷ []
part_push b at i x e =
    let h : i + 1 ≡ suc i = omega arith in
    ap (λ n. part at n b) h ∙ take_push (drop at b) i x (slice_get-drop b at i ∙ e)

-- a part of a part
pub part_part : (b : Bytes) (at size from len : ℕ) → from + len ≤ size → part from len (part at size b) ≡ part (at + from) len b
part_part b at size from len p =
    let e : size ≡ from + (size - from) = omega arith in
    let h : len ≤ size - from = omega arith in
    ap (λ n. take len (drop from (take n (drop at b)))) e
    ∙ ap (take len) (drop-take from (size - from) (drop at b))
    ∙ take-take len (size - from) (drop from (drop at b)) h
    ∙ ap (take len) (drop-drop from at b)

pub ruleset part_laws = (part_step, part_none)
