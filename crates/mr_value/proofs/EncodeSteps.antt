-- One turn of each loop of encoding.
use Rattle.mr_value.proofs.Common.{◌≡◌, ℕ, suc, ◌+◌, ◌-◌, ◌/◌, ◌%◌, ◌<◌, ◌≤◌, Bool, true, false, List, [], ◌∷◌, ◌++◌, length, get_or, drop, Option, refl, sym, ap, ◌∙◌, arith, append_assoc, append-nil, not, ◌&&◌, ◌==◌, if◌then◌else◌, and_parts, drop_more, Num, Tag, Ty, Variant, AllocId, Init, same_num, are_tags, with_range_replaced, with_provenance, Val, Bytes, little_endian, BeginsWith, tag_bytes, with_tags, encoding_of, write_fields, has_shape, fields_have_shape, variant_has_shape}
use mathlib.Core.Bool.{beq}
use Rattle.std.specs.Prelude.{Result, IsErr, OnErr, ⊤}
use Rattle.std.proofs.lemmas.Result.{MatchResult-from_err}
use Rattle.mr_value.proofs.TagParts.{TagOk, first_tag}

-- a list begins with itself, with what it was before it grew, and with what that began with
pub begins_with_itself : (bytes : Bytes) → BeginsWith bytes bytes
begins_with_itself bytes = ([], sym (append-nil bytes))

pub begins_with_more : (bytes front more longer : Bytes) → longer ≡ bytes ++ more → BeginsWith bytes front → BeginsWith longer front
begins_with_more bytes front more longer e h = (h.0 ++ more, e ∙ ap (λ (x : Bytes). x ++ more) h.1 ∙ append_assoc front h.0 more)

-- one byte more of a number
pub number_next : (provenance : Option AllocId) (count i rest : ℕ) (out more : Bytes) → i < count → more ≡ out ++ Init (rest % 256) provenance ∷ []
    → out ++ with_provenance provenance (little_endian (count - i) rest) ≡ more ++ with_provenance provenance (little_endian (count - (i + 1)) (rest / 256))
number_next provenance count i rest out more p e =
    let left : count - i ≡ suc (count - (i + 1)) = omega arith in
    let tail = with_provenance provenance (little_endian (count - (i + 1)) (rest / 256)) in
    ap (λ n. out ++ with_provenance provenance (little_endian n rest)) left
    ∙ sym (append_assoc out (Init (rest % 256) provenance ∷ []) tail)
    ∙ ap (λ (x : Bytes). x ++ tail) (sym e)

pub number_end : (provenance : Option AllocId) (count i rest : ℕ) (out : Bytes) → count ≤ i → out ++ with_provenance provenance (little_endian (count - i) rest) ≡ out
number_end provenance count i rest out p =
    let none : count - i ≡ 0 = omega arith in
    ap (λ n. out ++ with_provenance provenance (little_endian n rest)) none ∙ append-nil out

-- what holds after a failed call
pub on_err : {T E P : Type 0} (r : Result T E) → IsErr r → P → OnErr r P
on_err {T} {E} {P} r e p = MatchResult-from_err r (λ _. ⊤) (λ _. P) e (λ _. p)

-- one value for each field
pub same_length : (fields : List (ℕ × Ty)) (vs : List Val) → fields_have_shape fields vs ≡ true → length fields ≡ length vs
same_length [] [] e = refl
same_length [] (v ∷ vs) e = cc
same_length (f ∷ fields) [] e = cc
same_length (f ∷ fields) (v ∷ vs) e = ap suc (same_length fields vs (and_parts (has_shape f.1 v) (fields_have_shape fields vs) e).1)

-- the next value has the shape of the next field, and so do those behind it
pub record NextValue (fields : List (ℕ × Ty)) (vs : List Val) (i : ℕ) (f : ℕ × Ty) (v : Val) : Type 0 where
  pub here : has_shape f.1 v ≡ true
  pub rest : fields_have_shape (drop (i + 1) fields) (drop (i + 1) vs) ≡ true

pub next_value : (fields : List (ℕ × Ty)) (vs : List Val) (i : ℕ) (f : ℕ × Ty) (v : Val) → i < length fields → i < length vs → fields_have_shape (drop i fields) (drop i vs) ≡ true → NextValue fields vs i (get_or fields i f) (get_or vs i v)
next_value fields vs i f v p q e =
    let at = ap (λ (x : List (ℕ × Ty)). fields_have_shape x (drop i vs)) (drop_more fields i f p)
    ∙ ap (fields_have_shape (get_or fields i f ∷ drop (i + 1) fields)) (drop_more vs i v q) in
    let h = and_parts (has_shape (get_or fields i f).1 (get_or vs i v)) (fields_have_shape (drop (i + 1) fields) (drop (i + 1) vs)) (sym at ∙ e) in
    record { here = h.0; rest = h.1 }

pub fields_written : (fields : List (ℕ × Ty)) (vs : List Val) (bytes : Bytes) (i : ℕ) (f : ℕ × Ty) (v : Val) → i < length fields → i < length vs
    → write_fields (drop i fields) (drop i vs) bytes ≡ write_fields (drop (i + 1) fields) (drop (i + 1) vs) (with_range_replaced bytes (get_or fields i f).0 (encoding_of (get_or fields i f).1 (get_or vs i v)))
fields_written fields vs bytes i f v p q =
    ap (λ (x : List (ℕ × Ty)). write_fields x (drop i vs) bytes) (drop_more fields i f p)
    ∙ ap (λ (x : List Val). write_fields (get_or fields i f ∷ drop (i + 1) fields) x bytes) (drop_more vs i v q)

-- the next tag of an enum that breaks no rule
pub next_tag : (size : ℕ) (t : Ty) (tags : List Tag) (i : ℕ) (g : Tag) → i < length tags → are_tags size t (drop i tags) ≡ true → TagOk size t (get_or tags i g) (drop (i + 1) tags)
next_tag size t tags i g p e = first_tag size t (get_or tags i g) (drop (i + 1) tags) (sym (ap (are_tags size t) (drop_more tags i g p)) ∙ e)

pub tags_written : (tags : List Tag) (bytes : Bytes) (i : ℕ) (g : Tag) → i < length tags → with_tags (drop i tags) bytes ≡ with_tags (drop (i + 1) tags) (with_range_replaced bytes (get_or tags i g).at (tag_bytes (get_or tags i g)))
tags_written tags bytes i g p = ap (λ (x : List Tag). with_tags x bytes) (drop_more tags i g p)

-- the variant with a number, where the next one has it and where it hasn't
pub variant_shaped_here : (variants : List Variant) (i : ℕ) (w : Variant) (n : Num) (v : Val) → i < length variants → same_num (get_or variants i w).number n ≡ true → variant_has_shape (drop i variants) n v ≡ has_shape (get_or variants i w).ty v
variant_shaped_here variants i w n v p e =
    ap (λ (x : List Variant). variant_has_shape x n v) (drop_more variants i w p)
    ∙ ap (λ t. if t then has_shape (get_or variants i w).ty v else variant_has_shape (drop (i + 1) variants) n v) e

beq_is : (a b : Bool) → beq a b ≡ (if a then b else not b)
beq_is true true = refl
beq_is true false = refl
beq_is false true = refl
beq_is false false = refl

-- `==` on numbers
pub equal_is : (a b : Num) → (beq a.neg b.neg && (a.mag == b.mag)) ≡ same_num a b
equal_is a b = ap (λ t. t && (a.mag == b.mag)) (beq_is a.neg b.neg)
