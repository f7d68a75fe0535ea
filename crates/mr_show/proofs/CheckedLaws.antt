-- What is said of a program by itself, and of a schedule of it, from what was read.
use Rattle.mr_show.proofs.Common.{◌≡◌, ℕ, ◌<◌, ◌≤◌, ◌^◌, ◌∙◌, ap, Bool, true, false, length, List, [], ◌∷◌, refl, subst, ◌⊎◌, inl, inr, arith, sym, nat_lt, if◌then◌else◌, Err, Ok, Option, None, Some, Result, Program, TextFault, parsed, FormFault, faults_of, Schedule, Read, Version, Fault, PlacedFault, schedule_fault, Refusal, Written, Answer, Tells, TellsOrUnread, refused, less}
use Rattle.mr_start.specs.Start.{start_fault}
use Rattle.mr_refusals.specs.Answers.{entries_answer, faults_answer, program_answer, read_answer, schedule_answer, spelled_answer, start_answer, well_formed}
use Rattle.mr_show.specs.Answering.{IsCheckedUnder}
use Rattle.mr_show.specs.Checked.{checked_file, checked_files, checked_under, unless_long, unless_long_schedule}
use Rattle.mr_sched.specs.Reading.{Fault as TextOf, schedule_of}
use Rattle.mr_input.specs.declared.refusal.Refusal.TheVariants as refusal
use Rattle.mr_show.proofs.TracedLaws.{at_least}

-- ---- texts that are too long, and those that aren't

is_short : (text : List ℕ) (said : Answer) → length text ≤ 2 ^ 20 → said ≡ unless_long text said
is_short text said h =
    sym (ap (λ b. if b then refused (refusal.Text 1 1 3) else said) (at_least (2 ^ 20) (length text) h))

is_long : (text : List ℕ) (said : Answer) → 2 ^ 20 < length text → unless_long text said ≡ refused (refusal.Text 1 1 3)
is_long text said h =
    ap (λ b. if b then refused (refusal.Text 1 1 3) else said) (less (2 ^ 20) (length text) h)

short_schedule : (text : List ℕ) (said : Answer) → length text ≤ 2 ^ 26 → said ≡ unless_long_schedule text said
short_schedule text said h =
    sym (ap (λ b. if b then refused (refusal.Schedule 1 52 None) else said) (at_least (2 ^ 26) (length text) h))

long_schedule : (text : List ℕ) (said : Answer) → 2 ^ 26 < length text
    → unless_long_schedule text said ≡ refused (refusal.Schedule 1 52 None)
long_schedule text said h =
    ap (λ b. if b then refused (refusal.Schedule 1 52 None) else said) (less (2 ^ 26) (length text) h)

-- ---- what was read is told

module _ (name : List ℕ) (file : Option (List ℕ)) (text : List ℕ) (there : file ≡ Some text) where
  pub program_read : (bytes : List ℕ) (result : Result Written Refusal) → bytes ≡ text → length text ≤ 2 ^ 20
      → Tells (program_answer name bytes) result → Tells (checked_file name file) result
  program_read bytes result same few tells =
      subst (λ (a : Answer). Tells a result)
      (ap (program_answer name) same ∙ is_short text (program_answer name text) few
      ∙ sym (ap (checked_file name) there)) tells

  pub program_long : 2 ^ 20 < length text → checked_file name file ≡ refused (refusal.Text 1 1 3)
  program_long h = ap (checked_file name) there ∙ is_long text (program_answer name text) h

  module _ (schedule_name : List ℕ) (schedule : Option (List ℕ)) where
    pub both_read : (bytes : List ℕ) (rose later : Type 0) (result : Result Written Refusal) → (later → rose)
        → bytes ≡ text → length text ≤ 2 ^ 20
        → TellsOrUnread later (checked_under name bytes schedule_name schedule) result
        → IsCheckedUnder rose name schedule_name file schedule result
    both_read bytes rose later result up same few (inl tells) =
        inl (subst (λ (a : Answer). Tells a result)
        (ap (λ (xs : List ℕ). checked_under name xs schedule_name schedule) same
        ∙ is_short text (checked_under name text schedule_name schedule) few
        ∙ sym (ap (λ (f : Option (List ℕ)). checked_files name schedule_name f schedule) there)) tells)
    both_read bytes rose later result up same few (inr (rises, is)) = inr (up rises, inr is)

    pub first_long : 2 ^ 20 < length text
        → checked_files name schedule_name file schedule ≡ refused (refusal.Text 1 1 3)
    first_long h =
        ap (λ (f : Option (List ℕ)). checked_files name schedule_name f schedule) there
        ∙ is_long text (checked_under name text schedule_name schedule) h

module _ (name text title : List ℕ) (file : Option (List ℕ)) (spelled : List ℕ) (there : file ≡ Some spelled) where
  pub schedule_read : (bytes : List ℕ) (result : Result Written Refusal) → bytes ≡ spelled → length spelled ≤ 2 ^ 26
      → Tells (schedule_answer name text title bytes) result
      → Tells (checked_under name text title file) result
  schedule_read bytes result same few tells =
      subst (λ (a : Answer). Tells a result)
      (ap (schedule_answer name text title) same
      ∙ short_schedule spelled (schedule_answer name text title spelled) few
      ∙ sym (ap (checked_under name text title) there)) tells

  pub second_long : 2 ^ 26 < length spelled
      → checked_under name text title file ≡ refused (refusal.Schedule 1 52 None)
  second_long h =
      ap (checked_under name text title) there
      ∙ long_schedule spelled (schedule_answer name text title spelled) h

-- ---- the status

module _ (file text : List ℕ) (say : Program → Answer) (least : (p : Program) → (say p).status ≤ 5) where
  faults_least : (p : Program) (faults : List FormFault) → (faults_answer file text p faults (say p)).status ≤ 5
  faults_least p [] = least p
  faults_least p (f ∷ faults) = omega arith

  read_least : (r : Result Program TextFault) → (read_answer say file text r).status ≤ 5
  read_least (Ok p) = faults_least p (faults_of p)
  read_least (Err f) = omega arith

program_least : (name text : List ℕ) → (program_answer name text).status ≤ 5
program_least name text = read_least name text (λ p. well_formed name) (λ p. omega arith) (parsed text)

module _ (file spelled : List ℕ) (p : Program) where
  entries_least : (v : Version) (w : Schedule) (f : Option PlacedFault)
      → (entries_answer file spelled p v w f).status ≤ 5
  entries_least v w None = omega arith
  entries_least v w (Some f) = omega arith

  start_least : (v : Version) (w : Schedule) (f : Option Fault) → (start_answer file spelled p v w f).status ≤ 5
  start_least v w None = entries_least v w (schedule_fault p w)
  start_least v w (Some f) = omega arith

  spelled_least : (r : Result Read TextOf) → (spelled_answer file spelled p r).status ≤ 5
  spelled_least (Ok r) = start_least r.version r.schedule (start_fault p r.schedule.start)
  spelled_least (Err f) = omega arith

schedule_least : (name text file spelled : List ℕ) → (schedule_answer name text file spelled).status ≤ 5
schedule_least name text file spelled =
    read_least name text (λ p. spelled_answer file spelled p (schedule_of spelled))
    (λ p. spelled_least file spelled p (schedule_of spelled)) (parsed text)

unless_least : (text : List ℕ) (said : Answer) → said.status ≤ 5 → (unless_long text said).status ≤ 5
unless_least text said least = by_length (nat_lt (2 ^ 20) (length text))
  where
    by_length : (b : Bool) → (if b then refused (refusal.Text 1 1 3) else said).status ≤ 5
    by_length true = omega arith
    by_length false = least

under_least : (text : List ℕ) (said : Answer) → said.status ≤ 5 → (unless_long_schedule text said).status ≤ 5
under_least text said least = by_length (nat_lt (2 ^ 26) (length text))
  where
    by_length : (b : Bool) → (if b then refused (refusal.Schedule 1 52 None) else said).status ≤ 5
    by_length true = omega arith
    by_length false = least

-- it is 6 only where a file isn't there
pub checked_six : (name : List ℕ) (file : Option (List ℕ)) → (checked_file name file).status ≡ 6 → file ≡ None
checked_six name None six = refl
checked_six name (Some text) six =
    let least = unless_least text (program_answer name text) (program_least name text) in
    absurd (omega (arith, least, six))

pub files_six : (name schedule_name : List ℕ) (file schedule : Option (List ℕ))
    → (checked_files name schedule_name file schedule).status ≡ 6 → (file ≡ None) ⊎ (schedule ≡ None)
files_six name schedule_name None schedule six = inl refl
files_six name schedule_name (Some text) None six = inr refl
files_six name schedule_name (Some text) (Some spelled) six =
    let said = schedule_answer name text schedule_name spelled in
    let least = unless_least text (unless_long_schedule spelled said)
    (under_least spelled said (schedule_least name text schedule_name spelled)) in
    absurd (omega (arith, least, six))
