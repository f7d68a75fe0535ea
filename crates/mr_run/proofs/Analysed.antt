-- What is known of a run with one step more.
use Rattle.mr_run.proofs.Common.{◌≡◌, ℕ, zero, suc, ◌+◌, ◌≤◌, refl, sym, ap, ◌∙◌, subst, arith, List, [], ◌∷◌, ◌++◌, length, length-append, append-nil, Option, Some, None, Tracks, Footprint}
use Rattle.std.proofs.Common.{◌-◌, take}
use Rattle.std.proofs.Math.Seq.{take-append_seam}
use Rattle.std.proofs.lemmas.List.{get_or_append_left}
use Rattle.std.specs.Prelude.{MatchOption}
use Rattle.mr_clocks.specs.Tracked.{Seen}
use Rattle.mr_event.specs.declared.footprint.Pair.{Pair}
use Rattle.mr_event.specs.Order.{HasNoPartner, IsGreatestPartner, no_step}
use Rattle.mr_event.specs.Predicted.{greatest_below, pair_with, predicted, predicted_below, race_pair}
use Rattle.mr_event.proofs.Agree.{Agree}
use Rattle.mr_event.proofs.Tests.{partner_from, partner_is, predicted_none, predicted_some}
use Rattle.mr_clocks.proofs.Longer.{partner_agree}
use Rattle.mr_run.specs.Records.{AreAnalysed}

abbrev pub with_more : List Footprint → Footprint → List Footprint
with_more run f = run ++ f ∷ []

-- the place of its last step
last_place : (run : List Footprint) (f : Footprint) → length (with_more run f) - 1 ≡ length run
last_place run f = omega (arith, length-append run (f ∷ []))

-- the run without its last step
without_pushed : (run : List Footprint) (f : Footprint) → take (length (with_more run f) - 1) (with_more run f) ≡ run
without_pushed run f = ap (λ (n : ℕ). take n (with_more run f)) (last_place run f) ∙ take-append_seam run (f ∷ [])

-- ---- its races

agrees : (run : List Footprint) (f : Footprint) → Agree (length run) run (with_more run f)
agrees run f = record { same = λ i lt. sym (get_or_append_left run (f ∷ []) no_step i lt) }

-- its races below a step are those of the shorter run
below_same : (run : List Footprint) (f : Footprint) (n : ℕ) → n ≤ length run → predicted_below run n ≡ predicted_below (with_more run f) n
below_same run f zero le = refl
below_same run f (suc n) le =
    let partner = partner_is (with_more run f) n (greatest_below (λ i. race_pair run i n) n) (greatest_below (λ i. race_pair (with_more run f) i n) n)
    (partner_agree (length run) n run (with_more run f) (greatest_below (λ i. race_pair run i n) n) (agrees run f) (omega arith) (partner_from run n))
    (partner_from (with_more run f) n) in
    ap (λ (ps : List Pair). ps ++ pair_with (greatest_below (λ i. race_pair run i n) n) n) (below_same run f n (omega arith))
    ∙ ap (λ (o : Option ℕ). predicted_below (with_more run f) n ++ pair_with o n) partner

-- THE RACES OF ONE STEP MORE: those before it, and its own with its greatest partner
predicted_more : (run : List Footprint) (f : Footprint) (o : Option ℕ)
    → MatchOption o (HasNoPartner (with_more run f) (length run)) (λ i. IsGreatestPartner (with_more run f) i (length run))
    → predicted run ++ pair_with o (length run) ≡ predicted (with_more run f)
unfolding predicted
predicted_more run f o h = by o h ∙ ap (λ (n : ℕ). predicted_below (with_more run f) n) (sym long)
  where
    long : length (with_more run f) ≡ length run + 1
    long = omega (arith, length-append run (f ∷ []))

    before : predicted_below run (length run) ≡ predicted_below (with_more run f) (length run)
    before = below_same run f (length run) (omega arith)

    by : (o : Option ℕ) → MatchOption o (HasNoPartner (with_more run f) (length run)) (λ i. IsGreatestPartner (with_more run f) i (length run))
        → predicted_below run (length run) ++ pair_with o (length run) ≡ predicted_below (with_more run f) (length run + 1)
    by None h = append-nil (predicted_below run (length run)) ∙ predicted_none (with_more run f) (length run) (predicted_below run (length run)) before h
    by (Some i) h = predicted_some (with_more run f) (length run) i (predicted_below run (length run)) before h

none_predicted : predicted [] ≡ []
unfolding predicted
none_predicted = refl

-- ---- what is known

-- of no step
pub nothing_known : (steps : List Footprint) (order : Seen) (pairs : List Pair) → steps ≡ [] → Tracks order [] → pairs ≡ [] → AreAnalysed steps order pairs
nothing_known steps order pairs none tracks no_pairs = record {
  tracks = subst (λ (l : List Footprint). Tracks order l) (sym none) tracks;
  races = no_pairs ∙ sym none_predicted ∙ ap predicted (sym none);
}

-- of the same steps as before
pub known_still : (was now : List Footprint) (old new : Seen) (before after : List Pair) → now ≡ was → new ≡ old → after ≡ before
    → AreAnalysed was old before → AreAnalysed now new after
known_still was now old new before after steps order races h = record {
  tracks = subst (λ (l : List Footprint). Tracks new l) (sym steps) (subst (λ (a : Seen). Tracks a was) (sym order) h.tracks);
  races = races ∙ h.races ∙ ap predicted (sym steps);
}

module _ (was now : List Footprint) (f : Footprint) (is : now ≡ with_more was f) where
  pub longer : length now ≡ length was + 1
  longer = omega (arith, ap length is, length-append was (f ∷ []))

  pub before_it : take (length now - 1) now ≡ was
  before_it = ap (λ (l : List Footprint). take (length l - 1) l) is ∙ without_pushed was f

  -- where the step is taken away again
  pub taken_back : (left : List Footprint) (n : ℕ) → n ≡ length now → left ≡ take (n - 1) now → left ≡ was
  taken_back left n count taken = taken ∙ ap (λ (k : ℕ). take (k - 1) now) count ∙ before_it

  -- of one step more
  pub known_more : (order : Seen) (before after : List Pair) (o : Option ℕ) (n : ℕ) → before ≡ predicted was → n ≡ length now
      → MatchOption o (HasNoPartner now (length now - 1)) (λ i. IsGreatestPartner now i (length now - 1)) → after ≡ before ++ pair_with o (n - 1) → Tracks order now → AreAnalysed now order after
  known_more order before after o n known count partner joined tracks = record {
    tracks = tracks;
    races =
        joined
        ∙ ap (λ (ps : List Pair). ps ++ pair_with o (n - 1)) known
        ∙ ap (λ (k : ℕ). predicted was ++ pair_with o k) at
        ∙ predicted_more was f o here
        ∙ ap predicted (sym is);
  }
    where
      place : length now - 1 ≡ length was
      place = omega (arith, longer)

      at : n - 1 ≡ length was
      at = omega (arith, count, longer)

      here : MatchOption o (HasNoPartner (with_more was f) (length was)) (λ i. IsGreatestPartner (with_more was f) i (length was))
      here =
          subst (λ (l : List Footprint). MatchOption o (HasNoPartner l (length was)) (λ i. IsGreatestPartner l i (length was))) is
          (subst (λ (k : ℕ). MatchOption o (HasNoPartner now k) (λ i. IsGreatestPartner now i k)) place partner)
