-- The allocations of calls and returns: a call makes those that it asked for, and the end of a function makes none.
use Rattle.mr_exchange.proofs.Common.{◌≡◌, ℕ, refl, sym, subst, List, [], ◌∷◌, ◌++◌, append-nil, append_assoc, Bool, true, false, Option, Some, None, if◌then◌else◌, plainly, Function, Ty, Pointer, size_of, Val, Done, Undefined, IllFormed, ◌>>=◌, reading_part, pointer_of_value, enter, kept_types, resume, return_from, storage_asks, unwind, Look, Stack, scene_in, addresses}
use Rattle.mr_ast.specs.declared.expr.Value.{Value}
use Rattle.mr_ast.specs.declared.program.BlockName.{BlockName}
use Rattle.mr_ast.specs.declared.program.Local.{Local}
use Rattle.mr_base.specs.declared.reason.Reason.TheVariants.{MainReturned}
use Rattle.mr_start.specs.TypingWalk.{begins_regular}
use Rattle.mr_start.specs.EvalEvaluation.{value_script}
use Rattle.mr_start.specs.FrameCalls.{Targets, allocate_each, behind_first, enter_at, enter_with, free_each, give_result, give_to, is_main, leave, local_type, return_value, store_each, targets_of, unwind_in, unwind_to}
use Rattle.mr_start.specs.FrameChanges.{free_storage, store}
use Rattle.mr_start.specs.FrameFrames.{Frame}
use Rattle.mr_start.specs.FrameSites.{Site}
use Rattle.mr_start.proofs.FrameQuietChanges.{store_quiet, stores_quiet}
use Rattle.mr_exchange.proofs.PlanQuietRuns.{reading_quiet}
use Rattle.mr_exchange.proofs.Marks.{NewRanges}
use Rattle.mr_exchange.proofs.Parts.{Makes, makes_behind, makes_then}

-- ---- the start of a function

-- new storage for each type, at the picked addresses
allocates_each : (rs : NewRanges) (types : List Ty) (picks : List ℕ) → Makes rs (rs ++ addresses (storage_asks types) picks) (allocate_each types picks)
allocates_each rs [] [] = sym (append-nil rs)
allocates_each rs [] (a ∷ picks) = tt
allocates_each rs (t ∷ types) [] = tt
allocates_each rs (t ∷ types) (a ∷ picks) = λ p.
    let now : NewRanges = rs ++ (a, size_of t) ∷ [] in
    let after : NewRanges = rs ++ (a, size_of t) ∷ addresses (storage_asks types) picks in
    makes_then now after after (allocate_each types picks) (λ ps. Done (p ∷ ps))
    (subst (λ v. Makes now v (allocate_each types picks)) (append_assoc rs ((a, size_of t) ∷ []) (addresses (storage_asks types) picks)) (allocates_each now types picks))
    (λ ps. refl)

-- A FUNCTION THAT BEGINS makes the allocations of its storage, at the picked addresses
pub enters : (rs : NewRanges) (number : ℕ) (fn : Function) (types : List Ty) → kept_types fn ≡ Some types → (vs : List Val) (picks : List ℕ)
    → Makes rs (rs ++ addresses (storage_asks types) picks) (enter number (Some fn) vs picks)
enters rs number fn types typed vs picks = subst (λ o. Makes rs after (enter_at number fn o vs picks)) (sym typed) (by_test (begins_regular fn.blocks))
  where
    after : NewRanges
    after = rs ++ addresses (storage_asks types) picks

    begun : Makes rs after (enter_with number fn types vs picks)
    begun =
        makes_then rs after after (allocate_each types picks) _ (allocates_each rs types picks)
        (λ ps. makes_behind after after (store_each (behind_first types) (behind_first ps) vs) _ (stores_quiet (behind_first types) (behind_first ps) vs) (λ u. refl))

    by_test : (b : Bool) → Makes rs after (if b then enter_with number fn types vs picks else IllFormed)
    by_test true = begun
    by_test false = tt

-- ---- the end of a function

module _ (rs : NewRanges) where
  -- the storage of a local goes
  pub frees : (t : Ty) (storage : Option Pointer) → Makes rs rs (free_storage t storage)
  frees t None = refl
  frees t (Some p) = λ x. refl

  -- and that of each
  frees_each : (ls : List Local) (os : List (Option Pointer)) → Makes rs rs (free_each ls os)
  frees_each [] [] = refl
  frees_each [] (o ∷ os) = tt
  frees_each (l ∷ ls) [] = tt
  frees_each (l ∷ ls) (o ∷ os) = makes_then rs rs rs (free_storage l.ty o) (λ u. free_each ls os) (frees l.ty o) (λ u. frees_each ls os)

  -- the result is stored in the caller's place
  gives : (s : Stack) (caller : Frame) (below : List Frame) (t : Option Ty) (v : Val) (b : Option BlockName) (place : Option Pointer) → Makes rs rs (give_result s caller below t v b place)
  gives s caller below t v None place = tt
  gives s caller below None v (Some b) place = tt
  gives s caller below (Some t) v (Some b) None = tt
  gives s caller below (Some t) v (Some b) (Some place) = makes_behind rs rs (store t place v) _ (store_quiet t place v) (λ u. refl)

  gives_to : (s : Stack) (caller : Frame) (below : List Frame) (t : Option Ty) (v : Val) (o : Option Targets) → Makes rs rs (give_to s caller below t v o)
  gives_to s caller below t v None = tt
  gives_to s caller below t v (Some targets) = gives s caller below t v targets.next caller.call

  -- behind a function's end its thread ends, or its caller goes on
  leaves : (look : Look) (s : Stack) (t : Option Ty) (v : Val) (frames : List Frame) → Makes rs rs (leave look s t v frames)
  leaves look s t v [] = refl
  leaves look s t v (caller ∷ below) = gives_to s caller below t v (targets_of look caller)

  -- A RETURN makes no allocation
  pub returns : (look : Look) (thread : ℕ) (s : Stack) (site : Site) → Makes rs rs (return_from look thread s site)
  returns look thread s site = by_test (is_main thread site.below)
    where
      by_test : (b : Bool) → Makes rs rs (if b then Undefined (plainly MainReturned) else (reading_part (return_value site.function site.frame) >>= λ v. free_each site.function.locals site.frame.locals >>= λ u. leave look s (local_type site.function site.function.ret) v site.below))
      by_test true = tt
      by_test false =
          makes_behind rs rs (reading_part (return_value site.function site.frame)) _ (reading_quiet (return_value site.function site.frame))
          (λ v. makes_then rs rs rs (free_each site.function.locals site.frame.locals) _ (frees_each site.function.locals site.frame.locals)
          (λ u. leaves look s (local_type site.function site.function.ret) v site.below))

  -- the storage of a frame that is unwound goes
  unwinds_to : (s : Stack) (site : Site) (caller : Frame) (below : List Frame) (b : Option BlockName) → Makes rs rs (unwind_to s site caller below b)
  unwinds_to s site caller below None = tt
  unwinds_to s site caller below (Some b) = makes_then rs rs rs (free_each site.function.locals site.frame.locals) _ (frees_each site.function.locals site.frame.locals) (λ u. refl)

  unwinds_in : (s : Stack) (site : Site) (caller : Frame) (below : List Frame) (o : Option Targets) → Makes rs rs (unwind_in s site caller below o)
  unwinds_in s site caller below None = tt
  unwinds_in s site caller below (Some targets) = unwinds_to s site caller below targets.unwind

  -- the unwinding of a frame
  pub resumes : (look : Look) (s : Stack) (site : Site) (frames : List Frame) → Makes rs rs (resume look s site frames)
  resumes look s site [] = tt
  resumes look s site (caller ∷ below) = unwinds_in s site caller below (targets_of look caller)

  -- the start of unwinding
  pub unwinds : (look : Look) (s : Stack) (site : Site) (payload : Value) (b : ℕ) → Makes rs rs (unwind look s site payload b)
  unwinds look s site payload b =
      let here = scene_in look site.function site.frame in
      makes_behind rs rs (reading_part (value_script here payload)) _ (reading_quiet (value_script here payload))
      (λ v. makes_behind rs rs (reading_part (pointer_of_value v)) _ (reading_quiet (pointer_of_value v)) (λ p. refl))
