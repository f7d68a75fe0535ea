-- The end of the program, from what is known of the words and of what was done for them.
use Rattle.std.proofs.Common.{◌≡◌, ◌⊎◌, inl, inr, ℕ, List, drop, Option, Result, Ok, Err, subst}
use Rattle.std.specs.Prelude.{IfOk, IfErr}
use Rattle.std.specs.IoError.{error_kind}
use Rattle.std.specs.declared.io.Error.{Error}
use Rattle.std.specs.declared.io.ErrorKind.TheVariants.{OutOfMemory}
use Rattle.mr_input.specs.Ending.{IsEnd, by_words, no_words, no_memory}

pub ended_so : {V : Type 0} (says : Result (List (List ℕ)) Error → Type 0)
    (done : List (List ℕ) → Type 0) (old new : Option (List ℕ)) (status : ℕ) (items : V → List (List ℕ)) (words : Result V Error)
    → IfOk words (λ given. (all : List (List ℕ)) × says (Ok all) × (items given ≡ drop 1 all))
    → IfErr words (λ error. says (Err error) ⊎ error_kind error ≡ OutOfMemory)
    → IfOk words (λ given. done (items given))
    → IfErr words (λ error. error_kind error ≡ OutOfMemory → status ≡ 8)
    → IfErr words (λ error. ¬ error_kind error ≡ OutOfMemory → status ≡ 10)
    → IfErr words (λ _. new ≡ old)
    → IsEnd says done old new status
ended_so says done old new status items (Ok given) told cause does eight ten left = by_words told.0 told.1 (subst done told.2 does)
ended_so says done old new status items (Err error) told (inl said) does eight ten left = no_words error said eight ten left
ended_so says done old new status items (Err error) told (inr lack) does eight ten left = no_memory (eight lack) left
