-- What a sink has taken after two writes in a row.
use Rattle.std.proofs.Common.{◌≡◌, List, ℕ, ◌++◌, Option, Some, None, ap, refl, append_assoc}
use Rattle.std.specs.Io.KnownBytes.{append_known}

-- bytes that are taken one after another are taken as one
pub append_known-append_known : (known : Option (List ℕ)) (front back : List ℕ)
    → append_known (append_known known front) back ≡ append_known known (front ++ back)
append_known-append_known None front back = refl
append_known-append_known (Some xs) front back = ap Some (append_assoc xs front back)
