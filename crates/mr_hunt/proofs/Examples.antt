-- The table of three numbers, computed.
use Rattle.mr_hunt.proofs.Common.{◌≡◌, ℕ, zero, suc, List, [], ◌∷◌, refl, None, Some, Row, End, numbers, table_of}
use Rattle.mr_base.specs.declared.reason.Verdict.TheVariants.{Deadlock, Exit}
use Rattle.mr_hunt.specs.declared.ends.End.TheVariants as shown

-- a race of a thread at a statement, and of one that stands nowhere
abbrev race_of : ℕ → End
race_of thread = shown.Race (Some (record { thread = thread; function = 0; block = 0; at = 3 })) None

-- 0 ends by exit, 1 in a deadlock behind two such races, each other number by exit behind one
abbrev ends : ℕ → List End
ends zero = shown.Verdict Exit ∷ []
ends (suc zero) = shown.Verdict Deadlock ∷ race_of 1 ∷ race_of 2 ∷ []
ends (suc (suc n)) = shown.Verdict Exit ∷ race_of 3 ∷ []

three_numbers : ◌≡◌ {A = List Row} (table_of ends (numbers 0 2))
    (
    record { end = shown.Verdict Exit; count = 2; first = 0 }
    ∷ record { end = shown.Verdict Deadlock; count = 1; first = 1 }
    ∷ record { end = race_of 1; count = 2; first = 1 }
    ∷ []
    )
three_numbers = refl
