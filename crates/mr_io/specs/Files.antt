-- What files hold, and what a read of one does to a list of bytes.
use Rattle.std.specs.Prelude.{◌≡◌, ℕ, ◌<◌, ◌≤◌, List, ◌++◌, length, Option, Some}

-- what each name holds, and nothing where no file has the name
abbrev pub Contents : Type 0
Contents = List ℕ → Option (List ℕ)

-- at the end stand some more bytes
abbrev pub Grows : List ℕ → List ℕ → Type 0
Grows old new = (bytes : List ℕ) × (new ≡ old ++ bytes)

-- at the end stand n more bytes
abbrev pub GrowsBy : ℕ → List ℕ → List ℕ → Type 0
GrowsBy n old new = (bytes : List ℕ) × (length bytes ≡ n) × (new ≡ old ++ bytes)

-- at the end stand all the bytes of the file of the name, which are at most max
abbrev pub GainsFile : Contents → List ℕ → ℕ → List ℕ → List ℕ → Type 0
GainsFile files name max old new =
    (bytes : List ℕ) × (files name ≡ Some bytes) × (length bytes ≤ max) × (new ≡ old ++ bytes)

-- the file of the name has more than max bytes
abbrev pub IsLonger : Contents → List ℕ → ℕ → Type 0
IsLonger files name max = (bytes : List ℕ) × (files name ≡ Some bytes) × (max < length bytes)
