-- One turn of each loop of decoding.
use Rattle.mr_value.proofs.Common.{◌≡◌, ℕ, suc, ◌+◌, ◌-◌, ◌*◌, ◌<◌, ◌≤◌, true, List, [], ◌∷◌, ◌++◌, length, get_or, take, drop, Option, Some, None, refl, sym, ap, ◌∙◌, arith, append_assoc, append-nil, option_map, option_and_then, nat_le, ◌==◌, drop-drop, drop_more, and_parts, Ty, Variant, size_of, is_ok, are_ok, are_variants_ok, are_chunks_ok, Val, Bytes, part, Reader, decoded, read_fields, elements_in, chunks_in, eq_from, le_from}
use Rattle.std.proofs.Math.Nat.{mul-le-mul_right}
use Rattle.mr_value.proofs.PartLaws.{part_part}

-- the next field lies inside, and its type and the fields behind it break no rule
pub record NextField (size : ℕ) (fields : List (ℕ × Ty)) (i : ℕ) (f : ℕ × Ty) : Type 0 where
  pub ok : is_ok f.1 ≡ true
  pub inside : f.0 + size_of f.1 ≤ size
  pub rest : are_ok size (drop (i + 1) fields) ≡ true

pub next_field : (size : ℕ) (fields : List (ℕ × Ty)) (i : ℕ) (d : ℕ × Ty) → i < length fields → are_ok size (drop i fields) ≡ true → NextField size fields i (get_or fields i d)
next_field size fields i d p u =
    let e = drop_more fields i d p in
    let f = get_or fields i d in
    let a = and_parts (is_ok f.1) _ (sym (ap (are_ok size) e) ∙ u) in
    let b = and_parts (nat_le (f.0 + size_of f.1) size) (are_ok size (drop (i + 1) fields)) a.1 in
    record { ok = a.0; inside = le_from (f.0 + size_of f.1) size b.0; rest = b.1 }

-- the next variant has the size, and its type and the variants behind it break no rule
pub record NextVariant (size : ℕ) (variants : List Variant) (i : ℕ) (v : Variant) : Type 0 where
  pub ok : is_ok v.ty ≡ true
  pub sized : size_of v.ty ≡ size
  pub rest : are_variants_ok size (drop (i + 1) variants) ≡ true

pub next_variant : (size : ℕ) (variants : List Variant) (i : ℕ) (d : Variant) → i < length variants → are_variants_ok size (drop i variants) ≡ true → NextVariant size variants i (get_or variants i d)
next_variant size variants i d p u =
    let e = drop_more variants i d p in
    let v = get_or variants i d in
    let a = and_parts (is_ok v.ty) _ (sym (ap (are_variants_ok size) e) ∙ u) in
    let b = and_parts (size_of v.ty == size) (are_variants_ok size (drop (i + 1) variants)) a.1 in
    record { ok = a.0; sized = eq_from (size_of v.ty) size b.0; rest = b.1 }

-- the next chunk lies inside, and so do those behind it
pub record NextChunk (size : ℕ) (chunks : List (ℕ × ℕ)) (i : ℕ) (c : ℕ × ℕ) : Type 0 where
  pub inside : c.0 + c.1 ≤ size
  pub rest : are_chunks_ok size (drop (i + 1) chunks) ≡ true

pub next_chunk : (size : ℕ) (chunks : List (ℕ × ℕ)) (i : ℕ) (d : ℕ × ℕ) → i < length chunks → are_chunks_ok size (drop i chunks) ≡ true → NextChunk size chunks i (get_or chunks i d)
next_chunk size chunks i d p u =
    let e = drop_more chunks i d p in
    let c = get_or chunks i d in
    let a = and_parts (nat_le (c.0 + c.1) size) (are_chunks_ok size (drop (i + 1) chunks)) (sym (ap (are_chunks_ok size) e) ∙ u) in
    record { inside = le_from (c.0 + c.1) size a.0; rest = a.1 }

-- what is read of one part and then of the rest, behind values that were read before
abbrev pub after : List Val → Option Val → Option (List Val) → Option (List Val)
after values one rest = option_map (λ vs. values ++ vs) (option_and_then (λ v. option_map (λ vs. v ∷ vs) rest) one)

pub after_some : (values : List Val) (v : Val) (one : Option Val) (rest : Option (List Val)) → Some v ≡ one → after values one rest ≡ option_map (λ vs. (values ++ v ∷ []) ++ vs) rest
after_some values v one rest e = ap (λ (o : Option Val). after values o rest) (sym e) ∙ joined rest
  where
    joined : (o : Option (List Val)) → option_map (λ vs. values ++ vs) (option_map (λ vs. v ∷ vs) o) ≡ option_map (λ vs. (values ++ v ∷ []) ++ vs) o
    joined None = refl
    joined (Some vs) = ap Some (sym (append_assoc values (v ∷ []) vs))

pub after_none : (values : List Val) (one : Option Val) (rest : Option (List Val)) → None ≡ one → after values one rest ≡ None
after_none values one rest e = ap (λ (o : Option Val). after values o rest) (sym e)

pub fields_next : (b : Bytes) (at size : ℕ) (fields : List (ℕ × Ty)) (i : ℕ) (d : ℕ × Ty) (values : List Val) → i < length fields → (get_or fields i d).0 + size_of (get_or fields i d).1 ≤ size
    → option_map (λ vs. values ++ vs) (read_fields (drop i fields) (part at size b)) ≡ after values (decoded (get_or fields i d).1 (part (at + (get_or fields i d).0) (size_of (get_or fields i d).1) b)) (read_fields (drop (i + 1) fields) (part at size b))
fields_next b at size fields i d values p q =
    let f = get_or fields i d in
    ap (λ (x : List (ℕ × Ty)). option_map (λ vs. values ++ vs) (read_fields x (part at size b))) (drop_more fields i d p)
    ∙ ap (λ (x : Bytes). after values (decoded f.1 x) (read_fields (drop (i + 1) fields) (part at size b))) (part_part b at size f.0 (size_of f.1) q)

pub elements_next : (b : Bytes) (at count size : ℕ) (read : Reader) (i : ℕ) (values : List Val) → i < count → i * size + size ≤ count * size
    → option_map (λ vs. values ++ vs) (elements_in (count - i) size read (drop (i * size) (part at (count * size) b))) ≡ after values (read (part (at + i * size) size b)) (elements_in (count - (i + 1)) size read (drop ((i + 1) * size) (part at (count * size) b)))
elements_next b at count size read i values p q =
    let whole = part at (count * size) b in
    let left : count - i ≡ suc (count - (i + 1)) = omega arith in
    let further : i * size + size ≡ (i + 1) * size = omega arith in
    ap (λ n. option_map (λ vs. values ++ vs) (elements_in n size read (drop (i * size) whole))) left
    ∙ ap (λ (x : Bytes). after values (read (take size (drop (i * size) whole))) (elements_in (count - (i + 1)) size read x)) (drop-drop size (i * size) whole ∙ ap (λ n. drop n whole) further)
    ∙ ap (λ (x : Bytes). after values (read x) (elements_in (count - (i + 1)) size read (drop ((i + 1) * size) whole))) (part_part b at (count * size) (i * size) size q)

-- the element with a number lies inside
pub element_inside : (i count size : ℕ) → i < count → i * size + size ≤ count * size
element_inside i count size p = let h : (i + 1) * size ≤ count * size = mul-le-mul_right size (omega arith) in omega arith

-- the chunks' bytes, one chunk further
pub chunks_next : (b : Bytes) (at size : ℕ) (chunks : List (ℕ × ℕ)) (i : ℕ) (d : ℕ × ℕ) (content more : Bytes) → i < length chunks → (get_or chunks i d).0 + (get_or chunks i d).1 ≤ size
    → more ≡ content ++ part (at + (get_or chunks i d).0) (get_or chunks i d).1 b
    → content ++ chunks_in (drop i chunks) (part at size b) ≡ more ++ chunks_in (drop (i + 1) chunks) (part at size b)
chunks_next b at size chunks i d content more p q e =
    let c = get_or chunks i d in
    let rest = chunks_in (drop (i + 1) chunks) (part at size b) in
    ap (λ (x : List (ℕ × ℕ)). content ++ chunks_in x (part at size b)) (drop_more chunks i d p)
    ∙ ap (λ (x : Bytes). content ++ (x ++ rest)) (part_part b at size c.0 c.1 q)
    ∙ sym (append_assoc content (part (at + c.0) c.1 b) rest)
    ∙ ap (λ (x : Bytes). x ++ rest) (sym e)

-- no element is left
pub elements_end : (count i size : ℕ) (read : Reader) (b : Bytes) (values : List Val) → count ≤ i → option_map (λ vs. values ++ vs) (elements_in (count - i) size read b) ≡ Some values
elements_end count i size read b values p =
    let none : count - i ≡ 0 = omega arith in
    ap (λ n. option_map (λ vs. values ++ vs) (elements_in n size read b)) none ∙ ap Some (append-nil values)
