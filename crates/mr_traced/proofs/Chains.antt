-- What is told of what files say, step by step.
use Rattle.mr_traced.proofs.Common.{◌≡◌, ℕ, List, length, Result, Ok, ap₂, subst, ◌∙◌, ap, Footprint, Pair, Tells, TellsBy, Seen, seen_bare, seen_in}
use Rattle.mr_event.specs.Predicted.{predicted}
use Rattle.mr_traced.specs.declared.refusal.Untold.{Untold}
use Rattle.mr_traced.specs.declared.telling.Told.{Told}
use Rattle.mr_traced.specs.Answers.{all_races}
use Rattle.mr_traced.specs.Places.{Named, no_names}
use Rattle.mr_traced.specs.Seen.{fitting, seen_of}

-- what was told of a run
abbrev pub IsToldBy : (Seen → ℕ) → (Seen → List ℕ → Type 0) → Told → Named → List Footprint → Type 0
IsToldBy count IsText told named run =
    IsText (seen_of run named) told.text.items × (told.races ≡ count (seen_of run named))

abbrev pub IsTold : (Seen → List ℕ → Type 0) → Told → Named → List Footprint → Type 0
IsTold IsText told named run = IsToldBy all_races IsText told named run

-- of a trace and a file of places
pub told_by : (count : Seen → ℕ) (IsText : Seen → List ℕ → Type 0) (told : Told) (r : Result (List Footprint) Untold)
    (n : Result Named Untold)
    (run here there : List Footprint) (named : Named) → r ≡ Ok run → n ≡ Ok named → here ≡ run → there ≡ run
    → fitting here named ≡ Ok (seen_of here named) → IsToldBy count IsText told named there
    → TellsBy count IsText (Ok told) (seen_in r n)
unfolding seen_in
told_by count IsText told r n run here there named e f at at_last fits it =
    let all = subst (IsToldBy count IsText told named) at_last it in (
      seen_of run named,
      ap₂ seen_in e f ∙ subst (λ xs. fitting xs named ≡ Ok (seen_of xs named)) at fits,
      all.0,
      all.1,
    )

pub told_is : (IsText : Seen → List ℕ → Type 0) (told : Told) (r : Result (List Footprint) Untold)
    (n : Result Named Untold)
    (run here there : List Footprint) (named : Named) → r ≡ Ok run → n ≡ Ok named → here ≡ run → there ≡ run
    → fitting here named ≡ Ok (seen_of here named) → IsTold IsText told named there
    → Tells IsText (Ok told) (seen_in r n)
told_is IsText told r n run here there named e f at at_last fits it =
    told_by all_races IsText told r n run here there named e f at at_last fits it

-- of a trace alone
pub bare_by : (count : Seen → ℕ) (IsText : Seen → List ℕ → Type 0) (told : Told) (r : Result (List Footprint) Untold)
    (run there : List Footprint) (named : Named) → r ≡ Ok run → there ≡ run → named ≡ no_names
    → IsToldBy count IsText told named there → TellsBy count IsText (Ok told) (seen_bare r)
unfolding seen_bare
bare_by count IsText told r run there named e at none it =
    let all = subst (λ n. IsToldBy count IsText told n run) none (subst (IsToldBy count IsText told named) at it) in
    (seen_of run no_names, ap seen_bare e, all.0, all.1)

pub told_bare : (IsText : Seen → List ℕ → Type 0) (told : Told) (r : Result (List Footprint) Untold)
    (run there : List Footprint) (named : Named) → r ≡ Ok run → there ≡ run → named ≡ no_names
    → IsTold IsText told named there → Tells IsText (Ok told) (seen_bare r)
told_bare IsText told r run there named e at none it = bare_by all_races IsText told r run there named e at none it

-- a run with some races, at these places
abbrev pub with_races : List Footprint → Named → List Pair → Seen
with_races run named races = record { run = run; races = races; names = named.names; sites = named.sites }

-- a run with its races is what is told of it
pub seen_with : (s : Seen) (run : List Footprint) (races : List Pair) (named : Named) → s ≡ with_races run named races
    → races ≡ predicted run → s ≡ seen_of run named
seen_with s run races named is listed = is ∙ ap (with_races run named) listed
