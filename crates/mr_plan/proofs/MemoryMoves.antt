-- How two memories move, in which one allocation is put at the same identity.
use Rattle.mr_plan.proofs.Common.{◌≡◌, ℕ, sym, ap, ◌∙◌, subst, ◌⊎◌, inl, inr, Option, Some, AllocId, Allocation, Memory, get_here, get_there, Tally, ByteAt, HeaderOf, MemoryPlace, WritesMemory, byte_at, header_of, in_memory}
use Rattle.std.specs.FinMap as fin
use Rattle.mr_plan.proofs.IdentityCases.{id_cases}

-- a move of two states: what there is is as it was in both, or is now the same and was written
abbrev pub IsMove : {V : Type 0} → V → V → V → V → Type 0 → Type 0
IsMove was now was' now' Written = ((now ≡ was) × (now' ≡ was')) ⊎ ((now ≡ now') × Written)

-- two memories move so at a place
abbrev pub MovesAt : Memory → Memory → Memory → Memory → Tally → MemoryPlace → Type 0
MovesAt m t m' t' n o = IsMove (in_memory m o) (in_memory t o) (in_memory m' o) (in_memory t' o) (WritesMemory n o)

module _ (m m' : Memory) (id : AllocId) (v v' : Allocation) where
  -- a view of an allocation moves at each identity as it does at the one that is put in
  moves_at : {V : Type 0} (view : Option Allocation → V) (Written : AllocId → Type 0)
      → IsMove (view (fin.get m id)) (view (Some v)) (view (fin.get m' id)) (view (Some v')) (Written id)
      → (q : AllocId) → IsMove (view (fin.get m q)) (view (fin.get (fin.insert m id v) q)) (view (fin.get m' q)) (view (fin.get (fin.insert m' id v') q)) (Written q)
  moves_at view Written h q =
      elim (id_cases q id) [
        | inl e ↦ subst (λ k. IsMove (view (fin.get m k)) (view (fin.get (fin.insert m id v) k)) (view (fin.get m' k)) (view (fin.get (fin.insert m' id v') k)) (Written k)) (sym e)
            (elim h [
              | inl s ↦ inl (ap view (get_here m id v) ∙ s.0, ap view (get_here m' id v') ∙ s.1)
              | inr w ↦ inr (ap view (get_here m id v) ∙ w.0 ∙ sym (ap view (get_here m' id v')), w.1)
            ])
        | inr d ↦ inl (ap view (get_there m id v q d), ap view (get_there m' id v' q d))
      ]

  -- the memories move at each place, if they do at the header and the bytes of the identity
  pub insert_moves : (n : Tally)
      → IsMove (in_memory m (HeaderOf id)) (header_of (Some v)) (in_memory m' (HeaderOf id)) (header_of (Some v')) (WritesMemory n (HeaderOf id))
      → ((x : ℕ) → IsMove (in_memory m (ByteAt id x)) (byte_at (Some v) x) (in_memory m' (ByteAt id x)) (byte_at (Some v') x) (WritesMemory n (ByteAt id x)))
      → (o : MemoryPlace) → MovesAt m (fin.insert m id v) m' (fin.insert m' id v') n o
  insert_moves n header bytes (HeaderOf q) = moves_at header_of (λ k. WritesMemory n (HeaderOf k)) header q
  insert_moves n header bytes (ByteAt q x) = moves_at (λ o. byte_at o x) (λ k. WritesMemory n (ByteAt k x)) (bytes x) q
