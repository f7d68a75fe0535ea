-- What never refuses with a data race: reasons, results, outcomes and scripts.
use Rattle.mr_witness.proofs.Common.{◌≡◌, refl, sym, ◌∙◌, ap, Bool, true, false, Option, Some, None, Result, Ok, Err, both_ways, Reason, DataRace, Ask, Broken, Done, IllFormed, Outcome, Refused, Undefined, Went, on, run, ◌>>=◌, MemoryScript, reading_part, ReadScript, answered, StepScript, memory_part}
use Rattle.mr_base.specs.declared.reached.Reached.{Reached}
use Rattle.mr_base.specs.Script.{Script}
use Rattle.mr_eval.proofs.MemSpeakingLaws.{SpeakResult, Speaks}

-- whether a reason is the data race
abbrev pub is_race : Reason → Bool
is_race DataRace = true
is_race _ = false

abbrev pub IsCalm : Reason → Type 0
IsCalm r = is_race r ≡ false

pub calm_is_other : (r : Reason) → IsCalm r → r ≡ DataRace → ⊥
calm_is_other r h e = both_ways _ h (ap is_race e)

abbrev pub CalmResult : {X : Type 0} → Result X Reason → Type 0
CalmResult (Ok x) = Unit {0}
CalmResult (Err r) = IsCalm r

-- a reason that speaks of bytes is none
spoken_calm : (r : Reason) → Speaks r → IsCalm r
spoken_calm DataRace h = absurd (cc)
spoken_calm _ h = refl

pub spoken_result : {X : Type 0} (r : Result X Reason) → SpeakResult r → CalmResult r
spoken_result (Ok x) h = tt
spoken_result (Err r) h = spoken_calm r h

abbrev pub CalmOutcome : {A S : Type 0} → Outcome A S → Type 0
CalmOutcome (Went a s) = Unit {0}
CalmOutcome (Refused stop) = IsCalm stop.reason
CalmOutcome Broken = Unit {0}

-- whatever it is answered, a script refuses with no data race, and P holds of what it comes to
abbrev pub Calms : {Q : Type 0} {R : Q → Type 0} {A : Type 0} → (A → Type 0) → Script Q R A → Type 0
Calms P (Done a) = P a
Calms P (Undefined stop) = IsCalm stop.reason
Calms P IllFormed = Unit {0}
Calms {R = R} P (Ask q k) = (x : R q) → Calms P (k x)

-- nothing needs to hold of it
abbrev pub Anything : {A : Type 0} → A → Type 0
Anything a = Unit {0}

-- ---- by parts

pub calm_on : {A B S T : Type 0} (o : Outcome A S) (f : A → S → Outcome B T) → CalmOutcome o → ((a : A) (s : S) → CalmOutcome (f a s)) → CalmOutcome (on o f)
calm_on (Went a s) f h k = k a s
calm_on (Refused r) f h k = h
calm_on Broken f h k = tt

pub calm_answered : {X A S : Type 0} (bytes : Reached) (r : Result X Reason) (f : X → Outcome A S) → CalmResult r → ((x : X) → CalmOutcome (f x)) → CalmOutcome (answered bytes r f)
calm_answered bytes (Ok x) f h k = k x
calm_answered bytes (Err r) f h k = h

module _ {Q : Type 0} {R : Q → Type 0} where
  -- a script, and one behind it
  pub calms_then : {A B : Type 0} (P : A → Type 0) (P' : B → Type 0) (m : Script Q R A) (f : A → Script Q R B) → Calms P m → ((a : A) → P a → Calms P' (f a)) → Calms P' (m >>= f)
  calms_then P P' (Done a) f h k = k a h
  calms_then P P' (Undefined r) f h k = h
  calms_then P P' IllFormed f h k = tt
  calms_then P P' (Ask q c) f h k = λ x. calms_then P P' (c x) f (h x) k

  -- WHAT ITS RUNS COME TO
  pub run_calm : {S A : Type 0} (answer : (q : Q) → S → Outcome (R q) S) → ((q : Q) (s : S) → CalmOutcome (answer q s)) → (P : A → Type 0) (m : Script Q R A) (s : S) → Calms P m → CalmOutcome (run answer m s)
  run_calm answer answers P (Done a) s h = tt
  run_calm answer answers P (Undefined r) s h = h
  run_calm answer answers P IllFormed s h = tt
  run_calm answer answers P (Ask q k) s h = calm_on (answer q s) (λ x t. run answer (k x) t) (answers q s) (λ x t. run_calm answer answers P (k x) t (h x))

-- evaluation as a part of a script that asks memory
pub reading_calms : {A : Type 0} (P : A → Type 0) (m : ReadScript A) → Calms P m → Calms P (reading_part m)
reading_calms P (Done a) h = h
reading_calms P (Undefined r) h = h
reading_calms P IllFormed h = tt
reading_calms P (Ask q k) h = λ x. reading_calms P (k x) (h x)

-- and that as a part of a step
pub memory_calms : {A : Type 0} (P : A → Type 0) (m : MemoryScript A) → Calms P m → Calms P (memory_part m)
memory_calms P (Done a) h = h
memory_calms P (Undefined r) h = h
memory_calms P IllFormed h = tt
memory_calms P (Ask q k) h = λ x. memory_calms P (k x) (h x)
