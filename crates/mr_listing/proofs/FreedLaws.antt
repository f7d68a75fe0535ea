-- An allocation is among what a run freed where a step of the run freed it.
use Rattle.mr_listing.proofs.Common.{◌≡◌, ◌∙◌, ℕ, List, [], ◌∷◌, ap, map, refl, sym, ◌||◌, list_any, freed_pairs, id_pair}
use Rattle.std.proofs.lemmas.List.Folds.{list_any-append}
use Rattle.std.proofs.lemmas.List.Sorted.{list_any-IsPermutation}
use Rattle.mr_base.specs.declared.byte.AllocId.{AllocId}
use Rattle.mr_base.specs.Identities.{same_id}
use Rattle.mr_base.specs.Pairs.{same_pair}
use Rattle.mr_event.specs.Footprint.{Footprint}
use Rattle.mr_listing.specs.Freed.{AreFreed}
use Rattle.mr_listing.specs.Leaks.{freed_by, is_freed}

among_ids : (id : AllocId) (ids : List AllocId) → list_any (same_pair (id_pair id)) (map id_pair ids) ≡ list_any (same_id id) ids
among_ids id [] = refl
among_ids id (other ∷ ids) = ap (λ b. same_id id other || b) (among_ids id ids)

among_freed : (id : AllocId) (feet : List Footprint) → list_any (same_pair (id_pair id)) (freed_pairs feet) ≡ is_freed feet id
among_freed id [] = refl
among_freed id (foot ∷ feet) =
    list_any-append (same_pair (id_pair id)) (map id_pair foot.freed) (freed_pairs feet)
    ∙ (λ i. among_ids id foot.freed i || among_freed id feet i)

-- so it is looked for among them in their order
pub freed_is_among : (id : AllocId) (feet : List Footprint) (pairs : List (ℕ × ℕ)) → AreFreed feet pairs
    → list_any (same_pair (id_pair id)) pairs ≡ is_freed feet id
freed_is_among id feet pairs h =
    sym (list_any-IsPermutation (same_pair (id_pair id)) (freed_pairs feet) pairs h.moved) ∙ among_freed id feet
