-- What the calls answer, against what is defined.
use Rattle.std.specs.Prelude.{◌≡◌, ℕ, List, length, Result, Ok, Err}
use Rattle.mr_traced.specs.declared.refusal.Untold.{Untold}
use Rattle.mr_traced.specs.declared.refusal.Untold.TheVariants as untold
use Rattle.mr_traced.specs.declared.telling.Told.{Told}
use Rattle.mr_traced.specs.Seen.{Seen}

-- an error is the one that is defined, unless memory ran out
abbrev pub Refuses : {Y : Type 0} → Untold → Result Y Untold → Type 0
Refuses untold.Memory defined = Unit {0}
Refuses (untold.Trace at code) defined = defined ≡ Err (untold.Trace at code)
Refuses (untold.Places fault) defined = defined ≡ Err (untold.Places fault)

-- and a value is, seen by view
abbrev pub Answers : {X Y : Type 0} → (X → Y) → Result X Untold → Result Y Untold → Type 0
Answers view (Ok x) defined = defined ≡ Ok (view x)
Answers view (Err e) defined = Refuses e defined

-- WHAT IS TOLD is a text of what is defined, with a number of its races; or it is refused for the cause that is
-- defined, unless memory ran out
abbrev pub TellsBy : (Seen → ℕ) → (Seen → List ℕ → Type 0) → Result Told Untold → Result Seen Untold → Type 0
TellsBy count IsText (Ok told) defined =
    (s : Seen) × (defined ≡ Ok s) × IsText s told.text.items × (told.races ≡ count s)
TellsBy count IsText (Err e) defined = Refuses e defined

-- the same with the number of all
abbrev pub all_races : Seen → ℕ
all_races s = length s.races

abbrev pub Tells : (Seen → List ℕ → Type 0) → Result Told Untold → Result Seen Untold → Type 0
Tells IsText told defined = TellsBy all_races IsText told defined
