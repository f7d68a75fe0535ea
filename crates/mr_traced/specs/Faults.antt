-- The lines of faults of files of places.
use Rattle.std.specs.Prelude.{ℕ, List, ◌++◌, codes, decimal}
use Rattle.mr_traced.specs.declared.refusal.PlacesFault.{PlacesFault}
use Rattle.mr_traced.specs.declared.refusal.PlacesFault.TheVariants as fault

-- `LINE WHAT`
abbrev pub line_fault : ℕ → List ℕ → List ℕ
line_fault line what = decimal line ++ codes " " ++ what ++ codes "\n"

-- what is wrong
abbrev pub wrong_text : PlacesFault → List ℕ
wrong_text fault.TooLong = line_fault 1 (codes "the file is too long")
wrong_text fault.Header = line_fault 1 (codes "it isn't `places 2`")
wrong_text (fault.Line line) = line_fault line (codes "neither a name nor a step")
wrong_text (fault.Count sites steps) =
    decimal sites ++ codes " steps, and the trace has " ++ decimal steps ++ codes "\n"

-- THE LINE OF A FAULT: `places LINE WHAT`, or `places N steps, and the trace has M`
abbrev pub fault_line : PlacesFault → List ℕ
fault_line f = codes "places " ++ wrong_text f
