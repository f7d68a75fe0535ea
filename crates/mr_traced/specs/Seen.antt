-- What is told of a trace.
use Rattle.std.specs.Prelude.{ℕ, ◌==◌, if◌then◌else◌, List, length, map, Option, None, Some, Result, Ok, Err}
use Rattle.mr_event.specs.Footprint.{Footprint}
use Rattle.mr_event.specs.Predicted.{predicted}
use Rattle.mr_event.specs.declared.footprint.Pair.{Pair}
use Rattle.mr_trace.specs.Reading.{Place}
use Rattle.mr_traced.specs.declared.form.Site.{Site}
use Rattle.mr_traced.specs.declared.kept.Shown.{Shown}
use Rattle.mr_traced.specs.declared.refusal.PlacesFault.TheVariants as fault
use Rattle.mr_traced.specs.declared.refusal.Untold.{Untold}
use Rattle.mr_traced.specs.declared.refusal.Untold.TheVariants as untold
use Rattle.mr_traced.specs.Places.{Named, named_of, no_names}

-- the run of a trace and its races; and the names and the sites of a file of places
pub record Seen : Type 0 where
  pub run : List Footprint
  pub races : List Pair
  pub names : List (List ℕ)
  pub sites : List Site

-- the same as the code keeps it
abbrev pub seen : Shown → Seen
seen s = record { run = s.run.now; races = s.races.now; names = map (λ n. n.now) s.names.now; sites = s.sites.now }

-- ---- from what files say

-- what comes of a value, where there is one
infixl 10 ◌>>=◌
abbrev pub ◌>>=◌ : {A B : Type 0} → Result A Untold → (A → Result B Untold) → Result B Untold
(Ok x) >>= f = f x
(Err e) >>= f = Err e

-- the run of a trace, or its first fault
abbrev pub run_in : Result (List Footprint) Place → Result (List Footprint) Untold
run_in (Ok run) = Ok run
run_in (Err p) = Err (untold.Trace p.at p.code)

-- a run and its races, with names and sites
abbrev pub seen_of : List Footprint → Named → Seen
seen_of run named = record { run = run; races = predicted run; names = named.names; sites = named.sites }

-- there is a site for each step
abbrev pub fitting : List Footprint → Named → Result Seen Untold
fitting run named =
    if length named.sites == length run then Ok (seen_of run named)
    else Err (untold.Places (fault.Count (length named.sites) (length run)))

-- WHAT IS TOLD of a trace and a file of places: the trace's fault comes first, and then that of the file
unfoldable pub seen_in : Result (List Footprint) Untold → Result Named Untold → Result Seen Untold
seen_in run named = run >>= (λ r. named >>= (λ n. fitting r n))

-- the same of a trace alone
unfoldable pub seen_bare : Result (List Footprint) Untold → Result Seen Untold
seen_bare run = run >>= (λ r. Ok (seen_of r no_names))

-- the same where there may be a file
abbrev pub seen_maybe : Result (List Footprint) Untold → Option (List ℕ) → Result Seen Untold
seen_maybe run None = seen_bare run
seen_maybe run (Some text) = seen_in run (named_of text)
