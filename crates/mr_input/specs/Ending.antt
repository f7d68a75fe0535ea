-- How a program ends: by what its words ask for, or without words.
use Rattle.std.specs.Prelude.{◌≡◌, ℕ, List, drop, Option, Result, Ok, Err}
use Rattle.std.specs.IoError.{error_kind}
use Rattle.std.specs.declared.io.Error.{Error}
use Rattle.std.specs.declared.io.ErrorKind.TheVariants.{OutOfMemory}

-- The caller gave words, and what those behind the first ask for was done; or it gave none, which the status tells; or
-- memory ran out for them.
pub data IsEnd (says : Result (List (List ℕ)) Error → Type 0) (done : List (List ℕ) → Type 0)
    (old new : Option (List ℕ)) (status : ℕ) : Type 0 where
  by_words : (all : List (List ℕ)) → says (Ok all) → done (drop 1 all) → IsEnd says done old new status
  no_words : (error : Error) → says (Err error) → (error_kind error ≡ OutOfMemory → status ≡ 8)
      → (¬ error_kind error ≡ OutOfMemory → status ≡ 10) → new ≡ old
      → IsEnd says done old new status
  no_memory : status ≡ 8 → new ≡ old → IsEnd says done old new status
