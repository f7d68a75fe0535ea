-- The copies of the marked entries and of the two steps' are the short schedule.
use Rattle.mr_witness.proofs.Common.{◌≡◌, ℕ, sym, ◌∙◌, ap, arith, List, [], ◌∷◌, ◌++◌, map, Bool, false, not, ◌&&◌, ◌==◌, slice_index_or, length, ◌<◌, filter, Footprint, places, short_keeps, Each-places, Each-weaker, filter-agree, Schedule, entry_at, AreMarks, short_schedule}
use Rattle.mr_event.specs.Order.{IsGreatestPartner}
use Rattle.mr_witness.proofs.Lists.{map_append}
use Rattle.mr_witness.proofs.Needed.{marked_kept}

pub both_copied : (run : List Footprint) (w v : Schedule) (i j : ℕ) (marks : List Bool) → IsGreatestPartner run i j → j < length run → AreMarks run j marks
    → v.entries ≡ map (entry_at w.entries) (filter (λ k. slice_index_or marks k false && not (k == i)) (places j)) ++ entry_at w.entries i ∷ entry_at w.entries j ∷ []
    → v.start ≡ w.start → v ≡ short_schedule run w i j
both_copied run w v i j marks pair within h is begins =
    let same : filter (λ k. slice_index_or marks k false && not (k == i)) (places j) ≡ filter (λ k. short_keeps run i j k && not (k == i)) (places j) =
    filter-agree _ _ (places j) (Each-weaker _ _ (λ k c. ap (λ b. b && not (k == i)) (marked_kept run i j pair within marks h k (omega (arith, c.1)))) (places j) (Each-places 0 j)) in
    λ n. record {
      start = begins n;
      entries = (is ∙ ap (λ l. map (entry_at w.entries) l ++ entry_at w.entries i ∷ entry_at w.entries j ∷ []) same
          ∙ sym (map_append (entry_at w.entries) (filter (λ k. short_keeps run i j k && not (k == i)) (places j)) (i ∷ j ∷ []))) n;
    }
