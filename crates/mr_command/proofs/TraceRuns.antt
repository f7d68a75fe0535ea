-- What an answer shows of runs that are traced and of files whose races are listed, by the result and by the status.
use Rattle.mr_command.proofs.Common.{◌≡◌, ℕ, ◌<◌, ◌≤◌, ◌^◌, ap, subst, sym, ◌∙◌, arith, List, [], ◌++◌, length, ◌⊎◌, inl, inr, refl, Some, Option, Result, Ok, Err, Program, Contents, Schedule, Read, Version, steps_of, WellFormed, faults_of, Written, Refusal, Answer, refused, schedule_in, spelled, IsRead, IsLeft, IsRefusedOrLeft, IsWritten, was_read, Format, Command, OfNumber, OfProgram, OfSchedule, OfTrace, Run, NamesRun, HasBytes, Shown}
use Rattle.mr_sched.proofs.TextLaws.{schedule_again}
use Rattle.mr_trace.specs.Spelling.{AreBytes, Traces, spelling}
use Rattle.mr_answer.specs.Spelled.{IsSpelled}
use Rattle.mr_command.specs.Showing.{IsOfBytes, IsSpelledBy, Shows, ShowsBy}
use Rattle.mr_input.specs.declared.refusal.Refusal.TheVariants as refusal
use Rattle.mr_answer.specs.declared.formats.Format.TheVariants as format
use Rattle.mr_command.proofs.HeadlineLaws.{denoted_in}

-- ---- by the result

-- nothing is said where nothing was written
pub unspelled : (form : Format) (p : Program) (w : Schedule) (r : Refusal) → IsSpelled form p w (Err r)
unspelled format.Text p w r = tt
unspelled format.Json p w r = tt
unspelled format.Short p w r = tt
unspelled format.Footprints p w r = tt
unspelled (format.Shuffled number) p w r = tt

same_ok : {A : Type 0} {x y : A} → ◌≡◌ {A = Result A Refusal} (Ok x) (Ok y) → x ≡ y
same_ok e = cc

-- the schedule that was read is the one that the file holds
pub spelled_read : (form : Format) (p : Program) (x r : Read) (rose : Type 0) (unread : Refusal) (held : Result Read Refusal) (result : Result Written Refusal)
    → IsRead rose unread (Ok x) held → held ≡ Ok r → IsSpelled form p x.schedule result → IsSpelled form p r.schedule result
spelled_read form p x r rose unread held result read is h =
    subst (λ (s : Read). IsSpelled form p s.schedule result) (same_ok (sym (was_read x rose unread held read) ∙ is)) h

-- the checked program is the one that was checked
pub spelled_checked : (form : Format) (p q : Program) (w : Schedule) (result : Result Written Refusal) → (q ≡ p) × WellFormed p → IsSpelled form q w result → IsSpelled form p w result
spelled_checked form p q w result (same, well) h = subst (λ (x : Program). IsSpelled form x w result) same h

-- the program that was read is the one that the file holds
pub spelled_program : (form : Format) (x p : Program) (w : Schedule) (rose : Type 0) (unread : Refusal) (held : Result Program Refusal) (result : Result Written Refusal)
    → IsRead rose unread (Ok x) held → held ≡ Ok p → faults_of p ≡ [] → (faults_of x ≡ [] → IsSpelled form x w result) → IsSpelled form p w result
spelled_program form x p w rose unread held result read is unbroken h =
    let same : x ≡ p = same_ok (sym (was_read x rose unread held read) ∙ is) in
    subst (λ (q : Program). IsSpelled form q w result) same (h (subst (λ (q : Program). faults_of q ≡ []) (sym same) unbroken))

-- ---- files whose races are listed

pub of_bytes : (file : Option (List ℕ)) (result : Result Written Refusal) → HasBytes file → IsOfBytes file result
of_bytes file (Ok a) h = h
of_bytes file (Err (refusal.Trace at code)) h = h
of_bytes file (Err refusal.ReadProgram) h = tt
of_bytes file (Err (refusal.Text line col code)) h = tt
of_bytes file (Err refusal.ReadSchedule) h = tt
of_bytes file (Err (refusal.Schedule line code earlier)) h = tt
of_bytes file (Err refusal.ReadTrace) h = tt
of_bytes file (Err refusal.Memory) h = tt

-- the bytes of a file that was read whole
pub bytes_read : (file : Option (List ℕ)) (bytes empty read : List ℕ) → file ≡ Some bytes → empty ≡ [] → read ≡ empty ++ bytes → AreBytes read → HasBytes file
bytes_read file bytes empty read there none is h = subst HasBytes (sym there) (inl (subst AreBytes (is ∙ ap (λ front. front ++ bytes) none) h))

pub bytes_long : (file : Option (List ℕ)) (bytes : List ℕ) → file ≡ Some bytes → 2 ^ 28 < length bytes → HasBytes file
bytes_long file bytes there long = subst HasBytes (sym there) (inr long)

-- ---- by the status

spelled_by : (form : Format) (p : Program) (w : Schedule) (a : Written) (status : ℕ) → IsSpelled form p w (Ok a) → IsSpelledBy form p w status
spelled_by format.Text p w a status h = tt
spelled_by format.Json p w a status h = tt
spelled_by format.Short p w a status h = tt
spelled_by format.Footprints p w a status h = λ small. h
spelled_by (format.Shuffled number) p w a status h = tt

-- what was written shows it
pub shows_written : (files : Contents) (command : Command) (a : Written) (status : ℕ) → Shows files command (Ok a) → ShowsBy files command status
shows_written files (Run form program schedule) a status shows =
    λ p r reads unbroken spells. spelled_by form p r.schedule a status (shows p r reads unbroken spells)
shows_written files (OfProgram saying program) a status shows = tt
shows_written files (OfSchedule schedule) a status shows = tt
shows_written files (OfTrace trace) a status shows = λ either. shows
shows_written files (OfNumber number) a status shows = tt

-- a status that is neither that of races nor of a fault of bytes
neither : (n status : ℕ) → status ≡ n → 2 ≤ n → n ≤ 8 → (status ≤ 1) ⊎ (status ≡ 9) → ⊥
neither n status is low high (inl s) = absurd (omega arith)
neither n status is low high (inr s) = absurd (omega arith)

module _ (a : Answer) (rose : Type 0) (old new : Option (List ℕ)) (status : ℕ) where
  left_neither : IsLeft old new status ⊎ IsWritten a rose old new status → 2 ≤ a.status → a.status ≤ 8 → (status ≤ 1) ⊎ (status ≡ 9) → ⊥
  left_neither (inl left) low high e = neither 8 status left.0 (omega arith) (omega arith) e
  left_neither (inr (inl whole)) low high e = neither a.status status whole.0 low high e
  left_neither (inr (inr part)) low high e = neither 7 status part.0 (omega arith) (omega arith) e

  left_least : IsLeft old new status ⊎ IsWritten a rose old new status → 2 ≤ a.status → 2 ≤ status
  left_least (inl left) low = let eight : status ≡ 8 = left.0 in omega arith
  left_least (inr (inl whole)) low = let same : status ≡ a.status = whole.0 in omega (arith, low)
  left_least (inr (inr part)) low = let seven : status ≡ 7 = part.0 in omega arith

module _ (rose : Type 0) (old new : Option (List ℕ)) (status : ℕ) where
  refused_least : (r : Refusal) → IsRefusedOrLeft r rose old new status → 2 ≤ status
  refused_least refusal.Memory h = let eight : status ≡ 8 = h.0 in omega arith
  refused_least refusal.ReadProgram h = left_least (refused refusal.ReadProgram) rose old new status h (omega arith)
  refused_least (refusal.Text at col code) h = left_least (refused (refusal.Text at col code)) rose old new status h (omega arith)
  refused_least refusal.ReadSchedule h = left_least (refused refusal.ReadSchedule) rose old new status h (omega arith)
  refused_least (refusal.Schedule at code earlier) h = left_least (refused (refusal.Schedule at code earlier)) rose old new status h (omega arith)
  refused_least refusal.ReadTrace h = left_least (refused refusal.ReadTrace) rose old new status h (omega arith)
  refused_least (refusal.Trace at code) h = left_least (refused (refusal.Trace at code)) rose old new status h (omega arith)

  unwritten : (form : Format) (p : Program) (w : Schedule) → 2 ≤ status → IsSpelledBy form p w status
  unwritten format.Text p w least = tt
  unwritten format.Json p w least = tt
  unwritten format.Short p w least = tt
  unwritten format.Footprints p w least = λ small. absurd (omega (arith, small, least))
  unwritten (format.Shuffled number) p w least = tt

  unlisted : (file : Option (List ℕ)) (r : Refusal) → IsOfBytes file (Err r) → IsRefusedOrLeft r rose old new status → (status ≤ 1) ⊎ (status ≡ 9) → HasBytes file
  unlisted file (refusal.Trace at code) bytes h e = bytes
  unlisted file refusal.Memory bytes h e = absurd (neither 8 status h.0 (omega arith) (omega arith) e)
  unlisted file refusal.ReadProgram bytes h e = absurd (left_neither (refused refusal.ReadProgram) rose old new status h (omega arith) (omega arith) e)
  unlisted file (refusal.Text at col code) bytes h e =
      absurd (left_neither (refused (refusal.Text at col code)) rose old new status h (omega arith) (omega arith) e)
  unlisted file refusal.ReadSchedule bytes h e = absurd (left_neither (refused refusal.ReadSchedule) rose old new status h (omega arith) (omega arith) e)
  unlisted file (refusal.Schedule at code earlier) bytes h e =
      absurd (left_neither (refused (refusal.Schedule at code earlier)) rose old new status h (omega arith) (omega arith) e)
  unlisted file refusal.ReadTrace bytes h e = absurd (left_neither (refused refusal.ReadTrace) rose old new status h (omega arith) (omega arith) e)

  -- and so does what refuses
  pub shows_refused : (files : Contents) (command : Command) (r : Refusal) → Shows files command (Err r) → IsRefusedOrLeft r rose old new status → ShowsBy files command status
  shows_refused files (Run form program schedule) r shows h = λ p x reads unbroken spells. unwritten form p x.schedule (refused_least r h)
  shows_refused files (OfProgram saying program) r shows h = tt
  shows_refused files (OfSchedule schedule) r shows h = tt
  shows_refused files (OfTrace trace) r shows h = unlisted (files trace) r shows h
  shows_refused files (OfNumber number) r shows h = tt

-- ---- the run that a command names

-- what was written of it spells it
pub traced_run : (files : Contents) (command : Option Command) (p : Program) (v : Version) (w : Schedule) (status : ℕ) → NamesRun files command format.Footprints p v w
    → Shown files command status → status ≤ 1 → length (spelling (steps_of p w)) ≤ 2 ^ 28 → Traces (spelling (steps_of p w)) (steps_of p w)
traced_run files command p v w status h shows small limit =
    let known = subst (λ (c : Option Command). Shown files c status) h.is_run shows in
    let r : Read = record { schedule = w; version = v } in
    let program = denoted_in (files h.program_name) h.program_text p h.program_there h.denotes in
    let schedule : schedule_in (files h.schedule_name) ≡ Ok r = ap schedule_in h.schedule_there ∙ ap spelled (schedule_again h.schedule_text v w h.schedules) in
    record { spelled = refl; run_is = known p r program h.well_formed.unbroken schedule small; limit = limit }
