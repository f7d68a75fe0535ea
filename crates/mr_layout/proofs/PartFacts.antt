-- The parts of a type without a broken rule, as facts.
use Rattle.mr_layout.proofs.Common.{◌≡◌, ℕ, ◌+◌, ◌≤◌, List, [], ◌∷◌, Ty, Variant, size_of, TypeOk}

-- a part breaks no rule and lies inside the size
pub record PartOk (size at : ℕ) (t : Ty) : Type 0 where
  pub ok : TypeOk t
  pub inside : at + size_of t ≤ size

-- the same of each field
abbrev pub FieldsOk : ℕ → List (ℕ × Ty) → Type 0
FieldsOk size [] = Unit {0}
FieldsOk size (f ∷ fields) = PartOk size f.0 f.1 × FieldsOk size fields

-- each chunk lies inside the size
abbrev pub ChunksInside : ℕ → List (ℕ × ℕ) → Type 0
ChunksInside size [] = Unit {0}
ChunksInside size (c ∷ chunks) = (c.0 + c.1 ≤ size) × ChunksInside size chunks

-- each variant breaks no rule and has the size
abbrev pub VariantsOk : ℕ → List Variant → Type 0
VariantsOk size [] = Unit {0}
VariantsOk size (v ∷ variants) = PartOk size 0 v.ty × (size_of v.ty ≡ size) × VariantsOk size variants
