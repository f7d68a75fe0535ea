-- The copied entries are the schedule in the drawn order.
use Rattle.mr_witness.proofs.Common.{◌≡◌, ℕ, suc, ◌+◌, ◌<◌, ◌≤◌, sym, ◌∙◌, ap, subst, arith, List, [], ◌∷◌, ◌++◌, map, length, drop, append-nil, All, Program, Footprint, predicted, Each-at, Entry, Schedule, WellFormed, Legal, steps_of, entry_at, ComesToTheSame, reordered, shuffled, shuffled_order}
use Rattle.std.proofs.Common.{drop-cons}
use Rattle.std.proofs.lemmas.List.{drop_all}
use Rattle.mr_sched.specs.Versions.{no_entry}
use Rattle.mr_witness.proofs.Drawn.{shuffled_rearranged, shuffled_within}
use Rattle.mr_witness.proofs.EveryOrder.{every_order}

-- the places of the drawn order are those of entries
pub places_within : (run : List Footprint) (number : ℕ) (order : List ℕ) (entries : List Entry) → order ≡ shuffled_order run number → length run ≤ length entries → All (λ k. k < length entries) order
places_within run number order entries is le =
    subst (All (λ k. k < length entries)) (sym is)
    (λ k d lt. let h = Each-at (λ k. k < length run) (shuffled_order run number) (shuffled_within run number) k d lt in omega (arith, h, le))

-- all entries are those of completed steps
pub without_last : (entries copies : List Entry) (order : List ℕ) (completed : ℕ) → length entries ≤ completed → copies ≡ map (entry_at entries) order → copies ≡ map (entry_at entries) order ++ drop completed entries
without_last entries copies order completed few copied =
    copied ∙ sym (append-nil (map (entry_at entries) order)) ∙ ap (λ l. map (entry_at entries) order ++ l) (sym (drop_all completed entries few))

-- there is one entry more
pub with_last : (entries copies all : List Entry) (last : Entry) (order : List ℕ) (completed : ℕ) → completed < length entries → length entries ≤ completed + 1 → copies ≡ map (entry_at entries) order
    → last ≡ entry_at entries completed → all ≡ copies ++ last ∷ [] → all ≡ map (entry_at entries) order ++ drop completed entries
with_last entries copies all last order completed less many copied at_end pushed =
    let next : suc completed ≡ completed + 1 = omega arith in
    let one : drop completed entries ≡ entry_at entries completed ∷ [] =
    drop-cons entries completed no_entry less ∙ ap (λ l. entry_at entries completed ∷ l) (ap (λ n. drop n entries) next ∙ drop_all (completed + 1) entries many) in
    pushed ∙ (λ k. copied k ++ at_end k ∷ []) ∙ ap (λ l. map (entry_at entries) order ++ l) (sym one)

-- the copies are the schedule in the drawn order
pub all_copied : (run : List Footprint) (w : Schedule) (number : ℕ) (order slice : List ℕ) (recorded entries : List Entry) (start : List ℕ) → recorded ≡ w.entries → order ≡ shuffled_order run number → slice ≡ order
    → entries ≡ map (entry_at recorded) slice ++ drop (length run) recorded → start ≡ w.start → record { start = start; entries = entries } ≡ shuffled run w number
all_copied run w number order slice recorded entries start same is lent copied begins =
    λ k. record { start = begins k; entries = (copied ∙ (λ i. map (entry_at (same i)) ((lent ∙ is) i) ++ drop (length run) (same i))) k }

-- it comes to the same
pub shuffled_same : (run : List Footprint) (w v : Schedule) (number : ℕ) → v ≡ shuffled run w number → (p : Program) → WellFormed p → Legal p w → steps_of p w ≡ run → predicted run ≡ [] → ComesToTheSame p w (shuffled_order run number) v
shuffled_same run w v number is p well legal same none =
    subst (ComesToTheSame p w (shuffled_order run number)) (sym is)
    (subst (λ r. ComesToTheSame p w (shuffled_order r number) (reordered r w (shuffled_order r number))) same
    (every_order p w well legal (ap predicted same ∙ none) (shuffled_order (steps_of p w) number) (shuffled_rearranged (steps_of p w) number)))
