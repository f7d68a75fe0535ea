-- What the sink took of an answer, and the status that tells it.
use Rattle.std.specs.Prelude.{◌≡◌, ℕ, ◌<◌, ◌⊎◌, List, length, take, Option}
use Rattle.std.specs.Io.KnownBytes.{append_known}
use Rattle.mr_input.specs.declared.refusal.Refusal.{Refusal}
use Rattle.mr_input.specs.declared.refusal.Refusal.TheVariants as refusal
use Rattle.mr_input.specs.Answer.{Answer, refused}

-- The sink took the whole text of an answer, and the status is the answer's.
abbrev pub IsWhole : Answer → Option (List ℕ) → Option (List ℕ) → ℕ → Type 0
IsWhole a old new status = (status ≡ a.status) × (new ≡ append_known old a.text)

-- The sink took the whole text, with the answer's status; or its faults rose, and it took a part from the front of it.
abbrev pub IsWritten : Answer → Type 0 → Option (List ℕ) → Option (List ℕ) → ℕ → Type 0
IsWritten a rose old new status =
    IsWhole a old new status
    ⊎ ((status ≡ 7) × rose × ((n : ℕ) × (n < length a.text) × (new ≡ append_known old (take n a.text))))

-- memory ran out, and the sink was left as it was
abbrev pub IsLeft : Option (List ℕ) → Option (List ℕ) → ℕ → Type 0
IsLeft old new status = (status ≡ 8) × (new ≡ old)

-- a refusal was written; where memory ran out, before or in making its line, nothing was
abbrev pub IsRefusedOrLeft : Refusal → Type 0 → Option (List ℕ) → Option (List ℕ) → ℕ → Type 0
IsRefusedOrLeft refusal.Memory rose old new status = IsLeft old new status
IsRefusedOrLeft r rose old new status = IsLeft old new status ⊎ IsWritten (refused r) rose old new status
