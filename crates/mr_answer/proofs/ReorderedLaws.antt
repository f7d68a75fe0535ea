-- Runs in another order.
use Rattle.mr_answer.proofs.Common.{◌≡◌, ℕ, ◌≤◌, refl, sym, ap, ◌∙◌, subst, arith, List, [], ◌∷◌, map, length, Bool, true, false, None, Program, Footprint, Pair, predicted, Config, Schedule, Version, Legal, run_of, steps_of, Own, shuffled, Text, Ran, behind_schedule, ordered_answer, shuffled_answer, told_by, told_in}
use Rattle.std.proofs.Common.{drop, length-append, length-drop}
use Rattle.std.specs.Prelude.{◌==◌}
use Rattle.std.proofs.lemmas.Bool.{both_ways, eq-eqb, eqb-true}
use Rattle.std.proofs.lemmas.List.{length-map, nil_from_length}
use Rattle.std.proofs.lemmas.List.Sorted.{length_permutation}
use Rattle.mr_event.specs.Order.{places}
use Rattle.mr_typing.specs.Walk.{WellFormed}
use Rattle.mr_step.specs.ExchangeWitness.{entry_at}
use Rattle.mr_witness.specs.EveryOrder.{ComesToTheSame}
use Rattle.mr_witness.specs.Shuffled.{shuffled_order}
use Rattle.mr_witness.proofs.Drawn.{places_length, shuffled_rearranged}
use Rattle.mr_answer.proofs.RunLaws.{told_bare}

-- ---- the other order

-- it has as many entries
pub shuffled_many : (run : List Footprint) (w v : Schedule) (number : ℕ) → v ≡ shuffled run w number → length run ≤ length w.entries → length v.entries ≡ length w.entries
shuffled_many run w v number is le =
    let same = ap (λ (x : Schedule). length x.entries) is in
    let parts = length-append (map (entry_at w.entries) (shuffled_order run number)) (drop (length run) w.entries) in
    let first = length-map (shuffled_order run number) (entry_at w.entries) in
    let count = length_permutation (places (length run)) (shuffled_order run number) (shuffled_rearranged run number).permutes in
    let wide = places_length 0 (length run) in
    let rest = length-drop (length run) w.entries in
    omega (arith, same, parts, first, count, wide, rest, le)

-- where no race is listed, it is what is answered
pub in_order : (number : ℕ) (p : Program) (v : Version) (w order : Schedule) (r : Ran) (races : List Pair) → races ≡ [] → order ≡ shuffled r.steps w number
    → shuffled_answer number p v w r races ≡ ordered_answer p v order
in_order number p v w order r races none is = ap (shuffled_answer number p v w r) none ∙ ap (ordered_answer p v) (sym is)

-- and where one is, the report of the run
pub as_it_ran : (number : ℕ) (p : Program) (v : Version) (w : Schedule) (r : Ran) (races : List Pair) → (races ≡ [] → ⊥) → shuffled_answer number p v w r races ≡ told_in Text v w r
as_it_ran number p v w r [] some = absurd (some refl)
as_it_ran number p v w r (pair ∷ races) some = refl

-- the other order of a run that shows no race comes to the same
pub order_same : (p q : Program) (w v : Schedule) (steps : List Footprint) (number : ℕ) → q ≡ p → WellFormed q → Legal p w → steps ≡ steps_of p w → predicted steps ≡ []
    → ((p : Program) → WellFormed p → Legal p w → steps_of p w ≡ steps → predicted steps ≡ [] → ComesToTheSame p w (shuffled_order steps number) v) → ComesToTheSame p w (shuffled_order steps number) v
order_same p q w v steps number same well legal are none all = all p (subst WellFormed same well) legal (sym are) none

-- and what its run comes to is told without footprints, since it shows no race
pub again_is : (p : Program) (v : Version) (w : Schedule) (config : Config Own) → config ≡ run_of p w → predicted (steps_of p w) ≡ []
    → behind_schedule v w (told_by Text v config [] None) ≡ ordered_answer p v w
again_is p v w config at silent =
    ap (λ (c : Config Own). behind_schedule v w (told_by Text v c [] None)) at
    ∙ ap (behind_schedule v w) (sym (told_bare Text v w (run_of p w) (steps_of p w) silent))

-- ---- races

-- no race is there, or some
pub no_races : (races : List Pair) (b : Bool) → b ≡ (length races == 0) → b ≡ true → races ≡ []
no_races races b is e = nil_from_length races (eqb-true (length races) 0 (sym is ∙ e))

pub some_races : (races : List Pair) (b : Bool) → b ≡ (length races == 0) → b ≡ false → races ≡ [] → ⊥
some_races races b is e none = both_ways b e (is ∙ eq-eqb (length races) 0 (let l = ap length none in omega (arith, l)))
