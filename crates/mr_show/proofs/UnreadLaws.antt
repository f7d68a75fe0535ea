-- Why a file was not read: what the status 6 of an answer tells.
use Rattle.mr_show.proofs.Common.{◌≡◌, ℕ, ◌≤◌, ◌^◌, Bool, true, false, ap, arith, length, refl, subst, sym, ◌∙◌, List, [], ◌∷◌, ◌⊎◌, inl, inr, ◌==◌, nat_lt, if◌then◌else◌, None, Some, Option, Result, Ok, Err, Program, TextFault, parsed, Schedule, Read, Version, Fault, PlacedFault, schedule_fault, FormFault, faults_of, Answer, form_or, told, denoted, Seen, spoken_of, Part, Saying, answer_of, answer_under, bytes_answer, next_under, part_answer, program_answer, ran_under, run_seen, shown_answer, text_answer, told_values, why_answer, filled_answer, unless_bad, next_from, reached_answer, first_met, laid_in, found_answer, hunt_answer, hunted_file, hunted_program, most_in, lexed, trace_of, Untold, named_of, entry_of, Bare, CheckedProgram, CheckedSchedule, Form, Help, Hunted, Shown, Why, Ends, IsPossible, alone_telling, bare_answer, count_of, holds_trace, placed_answer, places_answer, seen_answer, telling_of, either}
use Rattle.mr_io.specs.Files.{Contents}
use Rattle.mr_start.specs.Start.{start_fault}
use Rattle.mr_input.specs.Inputs.{AsksForSchedule, spelled}
use Rattle.mr_input.proofs.RefusedLaws.{written_status}
use Rattle.mr_answer.specs.Answers.{Ran, ran, unless_broken}
use Rattle.mr_event.specs.Predicted.{predicted}
use Rattle.mr_run.specs.declared.witnesses.Selection.{Selection}
use Rattle.mr_show.specs.Witness.{ran_told, witness_under}
use Rattle.mr_answer.proofs.StatusLaws.{at_most_one}
use Rattle.mr_fill.specs.Told.{texts_of}
use Rattle.mr_fill.specs.declared.told.FilledText.{FilledText}
use Rattle.mr_listing.specs.declared.held.StepValues.{StepValues}
use Rattle.mr_base.specs.declared.reached.Reached.{Reached}
use Rattle.mr_show.specs.declared.form.Alone.{Alone}
use Rattle.mr_show.specs.declared.form.Saying.TheVariants.{Next, OfOrder, OfRun, Witness}
use Rattle.mr_show.specs.declared.form.Filling.{Filling}
use Rattle.mr_show.specs.Answer.{rust_of, usage}
use Rattle.mr_hunt.specs.Aims.{Aim}
use Rattle.mr_show.specs.declared.form.Range.{Range}
use Rattle.mr_traced.specs.declared.refusal.PlacesFault.TheVariants.{TooLong}
use Rattle.mr_show.specs.declared.form.Telling.{Telling}
use Rattle.mr_why.specs.Why.{Entry}
use Rattle.mr_show.specs.Second.{AsksForSecond, HoldsTrace}
use Rattle.mr_show.specs.Unread.{IsUnreadBecause, LacksFile}
use Rattle.mr_sched.specs.Reading.{Fault as TextOf, schedule_of}
use Rattle.mr_show.specs.Seek.{Drawn, First, Seek, Ends as AllEnds}
use Rattle.mr_traced.specs.declared.refusal.Untold.TheVariants as untold
use Rattle.mr_traced.specs.Seen.{Seen as TraceSeen, run_in, seen_bare, seen_in}
use Rattle.mr_show.proofs.CheckedLaws.{checked_six, files_six}

-- ---- the status of an answer

-- at most 5, or 6 where a file is lacking
abbrev SixIf : Type 0 → ℕ → Type 0
SixIf lacking status = (status ≤ 5) ⊎ ((status ≡ 6) × lacking)

legal_least : (part : Part) (spoken : Option Reached) (values : List StepValues) (v : Version) (w : Schedule)
    → (f : Option PlacedFault) (s : Seen) → (told (part_answer part spoken values) (unless_broken v w f s)).status ≤ 5
legal_least part spoken values v w None s =
    let least = at_most_one s.verdict (either (rust_of part s.feet) s.races) in omega (arith, least)
legal_least part spoken values v w (Some f) s = omega arith

next_least : (text : List ℕ) (p : Program) (v : Version) (w : Schedule) (f : Option Fault)
    → (next_from text p v w f).status ≤ 5
next_least text p v w (Some f) = omega arith
next_least text p v w None = by_fault (schedule_fault p w)
  where
    by_fault : (f : Option PlacedFault) → (reached_answer text p w f).status ≤ 5
    by_fault None = omega arith
    by_fault (Some f) = omega arith

witness_least : (step : ℕ) (selection : Selection) (p : Program) (r : Read) (f : Option PlacedFault) (came : Ran)
    → (told (ran_told step selection p r) (unless_broken r.version r.schedule f came)).status ≤ 5
witness_least step selection p r None came =
    let least = at_most_one came.config.verdict (predicted came.steps) in omega (arith, least)
witness_least step selection p r (Some f) came = omega arith

order_least : (filling : Filling) (r : Result FilledText TextOf)
    → (told (filled_answer filling) (unless_bad r)).status ≤ 5
order_least filling (Ok t) = halt_least (length t.halt == 0)
  where
    halt_least : (b : Bool) → (if b then 0 else 1) ≤ 5
    halt_least true = omega arith
    halt_least false = omega arith
order_least filling (Err f) = omega arith

-- a file that is there has a status of at most 5
module _ (lacking : Type 0) where
  ran_six : (part : Part) (text : List ℕ) (p : Program) (r : Result Read TextOf)
      → SixIf lacking (told (ran_under part text p) (spelled r)).status
  ran_six part text p (Ok r) =
      inl (legal_least part (spoken_of p r.schedule) (told_values part p r.schedule) r.version r.schedule
      (schedule_fault p r.schedule) (run_seen part text p r.schedule))
  ran_six part text p (Err f) = inl (omega arith)

  next_six : (text : List ℕ) (p : Program) (r : Result Read TextOf)
      → SixIf lacking (told (next_under text p) (spelled r)).status
  next_six text p (Ok r) = inl (next_least text p r.version r.schedule (start_fault p r.schedule.start))
  next_six text p (Err f) = inl (omega arith)

  witness_six : (step : ℕ) (selection : Selection) (p : Program) (r : Result Read TextOf)
      → SixIf lacking (told (witness_under step selection p) (spelled r)).status
  witness_six step selection p (Ok r) =
      inl (witness_least step selection p r (schedule_fault p r.schedule) (ran p r.schedule))
  witness_six step selection p (Err f) = inl (omega arith)

module _ (saying : Saying) (text : List ℕ) (p : Program) where
  under_six : (file : Option (List ℕ)) → SixIf (file ≡ None) (answer_under saying text file p).status
  under_six = by_saying saying
    where
      by_saying : (saying : Saying) (file : Option (List ℕ))
          → SixIf (file ≡ None) (answer_under saying text file p).status
      by_saying (OfRun part) None = inr (refl, refl)
      by_saying (OfRun part) (Some bytes) = ran_six (Some bytes ≡ None) part text p (schedule_of bytes)
      by_saying Next None = inr (refl, refl)
      by_saying Next (Some bytes) = next_six (Some bytes ≡ None) text p (schedule_of bytes)
      by_saying (OfOrder filling) None = inr (refl, refl)
      by_saying (OfOrder filling) (Some bytes) = inl (order_least filling (texts_of p bytes))
      by_saying (Witness step selection) None = inr (refl, refl)
      by_saying (Witness step selection) (Some bytes) =
          witness_six (Some bytes ≡ None) step selection p (schedule_of bytes)

  form_six : (file : Option (List ℕ)) (faults : List FormFault) → faults_of p ≡ faults
      → SixIf ((faults_of p ≡ []) × (file ≡ None)) (form_or p faults (answer_under saying text file p)).status
  form_six file [] e = elim (under_six file) [ inl small ↦ inl small | inr six ↦ inr (six.0, (e, six.1)) ]
  form_six file (f ∷ faults) e = inl (omega arith)

text_six : (saying : Saying) (file : Option (List ℕ)) (text : List ℕ) (r : Result Program TextFault) → parsed text ≡ r
    → SixIf (AsksForSchedule (Some text) × (file ≡ None)) (told (program_answer saying text file) (denoted r)).status
text_six saying file text (Ok p) e =
    elim (form_six saying text p file (faults_of p) refl) [
      | inl small ↦ inl small
      | inr six ↦ inr (six.0, ((p, ap denoted e, six.1.0), six.1.1))
    ]
text_six saying file text (Err f) e = inl (omega arith)

module _ (range : Range) (name text : List ℕ) where
  found_least : (aim : Aim) (p : Program) (found : Option ℕ) → (found_answer range aim name text p found).status ≤ 5
  found_least aim p None = omega arith
  found_least aim p (Some number) = omega arith

  hunt_least : (p : Program) (seek : Seek) → (hunt_answer range seek name text p).status ≤ 5
  hunt_least p AllEnds = omega arith
  hunt_least p Drawn = omega arith
  hunt_least p (First aim) =
      found_least aim p (first_met aim (laid_in p (lexed text)) p (most_in range) range.from range.to)

  hunted_least : (seek : Seek) (r : Result Program TextFault)
      → (told (hunted_program range seek name text) (denoted r)).status ≤ 5
  hunted_least seek (Ok p) = by_faults (faults_of p)
    where
      by_faults : (faults : List FormFault) → (form_or p faults (hunt_answer range seek name text p)).status ≤ 5
      by_faults [] = hunt_least p seek
      by_faults (f ∷ faults) = omega arith
  hunted_least seek (Err f) = omega arith

why_least : (code : ℕ) (entry : Option Entry) → (why_answer code entry).status ≤ 5
why_least code None = omega arith
why_least code (Some entry) = omega arith

-- 6 only where something holds
abbrev SixOnly : Type 0 → ℕ → Type 0
SixOnly lacking status = status ≡ 6 → lacking

only_if : (lacking : Type 0) (status : ℕ) → SixIf lacking status → SixOnly lacking status
only_if lacking status (inl small) six = absurd (omega (arith, six, small))
only_if lacking status (inr h) six = h.1

module _ (what : Telling) where
  traced_never : (seen : Result TraceSeen Untold) → (seen_answer what seen).status ≡ 6 → ⊥
  traced_never (Ok s) six = races_least (count_of what s == 0) six
    where
      races_least : (b : Bool) → SixOnly ⊥ (if b then 0 else 1)
      races_least true e = absurd (omega (arith, e))
      races_least false e = absurd (omega (arith, e))
  traced_never (Err (untold.Trace at code)) six = absurd (omega (arith, six))
  traced_never (Err (untold.Places fault)) six = absurd (omega (arith, six))
  traced_never (Err untold.Memory) six = absurd (omega (arith, six))

  placed_only : (bytes : List ℕ) (file : Option (List ℕ)) → SixOnly (file ≡ None) (placed_answer what bytes file).status
  placed_only bytes None six = refl
  placed_only bytes (Some text) six = absurd (by_length (nat_lt (2 ^ 28) (length text)) six)
    where
      by_length : (b : Bool)
          → SixOnly ⊥
          (if b then places_answer TooLong
          else seen_answer what (seen_in (run_in (trace_of bytes)) (named_of text))).status
      by_length true e = absurd (omega (arith, e))
      by_length false e = traced_never (seen_in (run_in (trace_of bytes)) (named_of text)) e

bare_only : (alone : Alone) (file : Option (List ℕ)) → SixOnly (file ≡ None) (bare_answer alone file).status
bare_only alone None six = refl
bare_only alone (Some bytes) six =
    absurd (traced_never (alone_telling alone) (seen_bare (run_in (trace_of bytes))) six)

module _ (saying : Saying) (second : Option (List ℕ)) (bytes : List ℕ) where
  text_only : (what : Option Telling)
      → SixOnly ((AsksForSchedule (Some bytes) ⊎ HoldsTrace what (Some bytes)) × (second ≡ None))
      (text_answer saying second bytes).status
  text_only what six =
      let h = only_if _ _ (text_six saying second bytes (parsed bytes) refl) six in (inl h.0, h.1)

  bytes_only : (what : Option Telling)
      → SixOnly ((AsksForSchedule (Some bytes) ⊎ HoldsTrace what (Some bytes)) × (second ≡ None))
      (bytes_answer what saying second bytes).status
  bytes_only None six = text_only None six
  bytes_only (Some what) six = by_kind (holds_trace bytes) refl six
    where
      by_kind : (b : Bool) → holds_trace bytes ≡ b
          → SixOnly ((AsksForSchedule (Some bytes) ⊎ HoldsTrace (Some what) (Some bytes)) × (second ≡ None))
          (if b then placed_answer what bytes second else text_answer saying second bytes).status
      by_kind true e s = (inr e, placed_only what bytes second s)
      by_kind false e s = text_only (Some what) s

module _ (files : Contents) where
  shown_only : (saying : Saying) (program schedule : List ℕ) (file : Option (List ℕ)) → files program ≡ file
      → SixOnly (LacksFile files (Some (Shown saying program schedule)))
      (shown_answer saying (files schedule) file).status
  shown_only saying program schedule None e six = inl e
  shown_only saying program schedule (Some bytes) e six =
      let h = bytes_only saying (files schedule) bytes (telling_of saying) six in
      inr (subst (AsksForSecond saying) (sym e) h.0, h.1)

  hunted_six : (range : Range) (seek : Seek) (name program : List ℕ) (file : Option (List ℕ)) → files program ≡ file
      → SixIf (files program ≡ None) (hunted_file range seek name file).status
  hunted_six range seek name program None e = inr (refl, e)
  hunted_six range seek name program (Some text) e = inl (hunted_least range name text seek (parsed text))

  -- 6 is answered only where a file isn't there
  lacks : (form : Option Form) → (answer_of files form).status ≡ 6 → LacksFile files form
  lacks None six = absurd (omega (arith, six))
  lacks (Some (Shown saying program schedule)) six = shown_only saying program schedule (files program) refl six
  lacks (Some (Hunted range seek name program)) six =
      only_if _ _ (hunted_six range seek name program (files program) refl) six
  lacks (Some (Bare alone trace)) six = bare_only alone (files trace) six
  lacks (Some (CheckedProgram name program)) six = checked_six name (files program) six
  lacks (Some (CheckedSchedule name title program schedule)) six =
      files_six name title (files program) (files schedule) six
  lacks (Some (Why code)) six = let least = why_least code (entry_of code) in absurd (omega (arith, least, six))
  lacks (Some (Help text)) six = absurd (omega (arith, six))

-- ---- how a call ended

module _ (files_rose out_rose : Type 0) (old new : Option (List ℕ)) (status : ℕ) (six : status ≡ 6) where
  possible_unread : (files : Contents) (form : Form) (a : Answer) → IsPossible files form files_rose a → a.status ≡ 6
      → files_rose ⊎ LacksFile files (Some form)
  possible_unread files form a (inl is) s = inr (lacks files (Some form) (sym (ap (λ (b : Answer). b.status) is) ∙ s))
  possible_unread files form a (inr unread) s = inl unread.0

  ends_unread : (files : Contents) (form : Option Form) → Ends files form files_rose out_rose old new status
      → files_rose ⊎ LacksFile files form
  ends_unread files None written =
      elim (written_status usage out_rose old new status written) [
        | inl two ↦ absurd (omega (arith, two, six))
        | inr f ↦ let seven = f.1 in absurd (omega arith)
      ]
  ends_unread files (Some form) (inl left) = let eight = left.0 in absurd (omega arith)
  ends_unread files (Some form) (inr (a, possible, written)) =
      elim (written_status a out_rose old new status written) [
        | inl s ↦ possible_unread files form a possible (sym s ∙ six)
        | inr f ↦ let seven = f.1 in absurd (omega arith)
      ]

  pub unread_because : (form : Option Form) (tale : Option Contents) → (tale ≡ None → files_rose)
      → ((files : Contents) → tale ≡ Some files → Ends files form files_rose out_rose old new status)
      → IsUnreadBecause files_rose tale form
  unread_because form None untold ends = inl (untold refl)
  unread_because form (Some files) untold ends =
      elim (ends_unread files form (ends files refl)) [ inl rose ↦ inl rose | inr lacking ↦ inr (files, refl, lacking) ]
