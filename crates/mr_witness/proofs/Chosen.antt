-- The chosen entries, one more place at a time, and the marks as the order of steps.
use Rattle.mr_witness.proofs.Common.{◌≡◌, ℕ, ◌+◌, ◌<◌, refl, sym, ◌∙◌, ap, List, [], ◌∷◌, ◌++◌, map, Bool, true, false, not, ◌&&◌, IsTrue, ◌↔◌, zero-add, append_assoc, arith, ◌==◌, slice_index_or, filter, filter-append, Footprint, kept, HappensBefore, places, happens_before, happens_before_is, Each-places, Each-weaker, filter-agree, filter-kept, filter-left_out, range_with_len-parts, Entry, Schedule, entry_at, kept_schedule}
use Rattle.mr_witness.proofs.Lists.{map_append}

pub one_more_place : (k : ℕ) → places (k + 1) ≡ places k ++ k ∷ []
one_more_place k = range_with_len-parts 0 k 1 ∙ ap (λ n. places k ++ n ∷ []) (zero-add k)

module _ (f : ℕ → Entry) (keep : ℕ → Bool) (k : ℕ) (chosen : List Entry) (is : chosen ≡ map f (filter keep (places k))) where
  -- the next place is kept
  pub chosen_more : keep k ≡ true → chosen ++ f k ∷ [] ≡ map f (filter keep (places (k + 1)))
  chosen_more kept_here =
      ap (λ l. l ++ f k ∷ []) is
      ∙ sym (map_append f (filter keep (places k)) (k ∷ []))
      ∙ ap (map f) (ap (λ l. filter keep (places k) ++ l) (sym (filter-kept keep k [] kept_here)) ∙ sym (filter-append keep (places k) (k ∷ [])) ∙ ap (filter keep) (sym (one_more_place k)))

  -- the next place is left out
  pub chosen_same : keep k ≡ false → chosen ≡ map f (filter keep (places (k + 1)))
  chosen_same out =
      is ∙ ap (map f) (sym (append-nothing (filter keep (places k))) ∙ ap (λ l. filter keep (places k) ++ l) (sym (filter-left_out keep k [] out)) ∙ sym (filter-append keep (places k) (k ∷ [])) ∙ ap (filter keep) (sym (one_more_place k)))
    where
      append-nothing : (l : List ℕ) → l ++ [] ≡ l
      append-nothing [] = refl
      append-nothing (x ∷ xs) = ap (λ l. x ∷ l) (append-nothing xs)

-- tests that hold of the same are the same
same_truth : (a b : Bool) → (IsTrue a → IsTrue b) → (IsTrue b → IsTrue a) → a ≡ b
same_truth true b f g = sym (f refl)
same_truth false true f g = absurd (let h = g refl in cc)
same_truth false false f g = refl

-- WHAT IS CHOSEN BY MARKS is the kept schedule, where the marks are of the steps that the first step happens before
pub marked_is_kept : (run : List Footprint) (w : Schedule) (i j : ℕ) (marked : List Bool)
    → ((k : ℕ) → k < j → IsTrue (slice_index_or marked k false) ↔ HappensBefore run i k)
    → map (entry_at w.entries) (filter (λ k. not (slice_index_or marked k false) && not (k == i)) (places j)) ++ entry_at w.entries i ∷ entry_at w.entries j ∷ [] ≡ map (entry_at w.entries) (kept run i j)
marked_is_kept run w i j marked marks =
    let same : filter (λ k. not (slice_index_or marked k false) && not (k == i)) (places j) ≡ filter (λ k. not (happens_before run i k) && not (k == i)) (places j) =
    filter-agree _ _ (places j) (Each-weaker _ _ (λ k low. let lt : k < j = let h = low.1 in omega (arith, h) in ap (λ b. not b && not (k == i)) (same_truth _ _ (λ t. (happens_before_is run i k).1 ((marks k lt).0 t)) (λ t. (marks k lt).1 ((happens_before_is run i k).0 t)))) (places j) (Each-places 0 j)) in
    ap (λ l. map (entry_at w.entries) l ++ entry_at w.entries i ∷ entry_at w.entries j ∷ []) same
    ∙ sym (map_append (entry_at w.entries) (filter (λ k. not (happens_before run i k) && not (k == i)) (places j)) (i ∷ j ∷ []))

-- the entries of the two steps behind the chosen ones
pub pushed_twice : (recorded entries chosen pushed both : List Entry) (first second : Entry) (ks : List ℕ) (i j : ℕ) → recorded ≡ entries
    → chosen ≡ map (entry_at recorded) ks → first ≡ entry_at recorded i → second ≡ entry_at recorded j
    → pushed ≡ chosen ++ first ∷ [] → both ≡ pushed ++ second ∷ []
    → both ≡ map (entry_at entries) ks ++ entry_at entries i ∷ entry_at entries j ∷ []
pushed_twice recorded entries chosen pushed both first second ks i j same c f s p b =
    b ∙ ap (λ l. l ++ second ∷ []) p ∙ append_assoc chosen (first ∷ []) (second ∷ [])
    ∙ (λ n. c n ++ f n ∷ s n ∷ [])
    ∙ (λ n. map (entry_at (same n)) ks ++ entry_at (same n) i ∷ entry_at (same n) j ∷ [])

-- THE COPIES of the chosen entries and of the two steps' are the kept schedule
pub both_copied : (run : List Footprint) (w v : Schedule) (i j : ℕ) (marked : List Bool)
    → v.entries ≡ map (entry_at w.entries) (filter (λ k. not (slice_index_or marked k false) && not (k == i)) (places j)) ++ entry_at w.entries i ∷ entry_at w.entries j ∷ []
    → v.start ≡ w.start
    → ((k : ℕ) → k < j → IsTrue (slice_index_or marked k false) ↔ HappensBefore run i k)
    → v ≡ kept_schedule run w i j
unfolding kept_schedule
both_copied run w v i j marked is begins marks = λ n. record { start = begins n; entries = (is ∙ marked_is_kept run w i j marked marks) n }
