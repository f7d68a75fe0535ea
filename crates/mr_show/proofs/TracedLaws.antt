-- What is said of a file that may hold a trace.
use Rattle.mr_show.proofs.Common.{◌≡◌, ℕ, ◌<◌, ◌≤◌, ◌^◌, ◌∙◌, ap, ap₂, Bool, true, false, length, List, refl, subst, sym, ◌⊎◌, inl, inr, arith, ◌&&◌, nat_lt, codes, take, if◌then◌else◌, Err, Ok, Option, None, Some, Result, trace_of, Footprint, Refusal, Written, Answer, Tells, TellsOrUnread, refused, told, less, Untold, named_of, run_in, seen_bare, seen_in, Saying, bytes_answer, file_answer, program_answer, shown_answer, text_answer, IsOfFile, IsOfText, IsTextOf, alone_telling, bare_answer, count_of, holds_trace, placed_answer, places_answer, seen_answer, telling_of}
use Rattle.std.proofs.lemmas.Bool.Decides.{nat_tests}
use Rattle.std.specs.Prelude.{nat_le, bytes_eq}
use Rattle.mr_trace.specs.Reading.{Place}
use Rattle.mr_input.proofs.InputLaws.{long_program}
use Rattle.mr_traced.specs.declared.refusal.PlacesFault.TheVariants.{TooLong}
use Rattle.mr_traced.specs.declared.telling.Told.{Told}
use Rattle.mr_traced.specs.Seen.{Seen}
use Rattle.mr_show.specs.declared.form.Alone.{Alone}
use Rattle.mr_show.specs.declared.form.Telling.{Telling}
use Rattle.mr_show.specs.Answering.{IsBare, IsOfBytes, IsOfFiles}
use Rattle.mr_show.specs.Second.{HoldsTrace}
use Rattle.mr_show.specs.Traced.{status_of, telling_text, text_placed}
use Rattle.mr_input.specs.declared.refusal.Refusal.TheVariants as refusal
use Rattle.mr_traced.specs.declared.refusal.Untold.TheVariants as untold
use Rattle.mr_traced.specs.Answers.{Tells as AreTold, TellsBy}

-- ---- what is told of a trace

-- with another word for its text
pub told_as : (IsText other : Seen → List ℕ → Type 0) → ((s : Seen) (text : List ℕ) → IsText s text → other s text)
    → (told : Result Told Untold) (defined : Result Seen Untold) → AreTold IsText told defined
    → AreTold other told defined
told_as IsText other up (Ok told) defined (s, is, text, races) = (s, is, up s told.text.items text, races)
told_as IsText other up (Err untold.Memory) defined h = h
told_as IsText other up (Err (untold.Trace at code)) defined h = h
told_as IsText other up (Err (untold.Places fault)) defined h = h

abbrev pub answer_with : List ℕ → ℕ → Answer
answer_with text status = record { text = text; status = status }

-- the text and its status are those that are defined
pub told_so : (what : Telling) (told : Told) (defined : Result Seen Untold)
    → TellsBy (count_of what) (IsTextOf what) (Ok told) defined
    → answer_with told.text.items (status_of told.races) ≡ seen_answer what defined
told_so what told defined (s, is, text, races) =
    ap₂ (λ (t : List ℕ) (n : ℕ). answer_with t (status_of n)) text races
    ∙ sym (ap (seen_answer what) is)

-- ---- traces that are too long

long_trace : (bytes : List ℕ) → 2 ^ 28 < length bytes → trace_of bytes ≡ Err (record { at = 0; code = 74 })
unfolding trace_of
long_trace bytes h = rw (less (2 ^ 28) (length bytes) h) refl

long_seen : (alone : Alone) (bytes : List ℕ) → 2 ^ 28 < length bytes
    → bare_answer alone (Some bytes) ≡ refused (refusal.Trace 0 74)
unfolding seen_bare
long_seen alone bytes h =
    ap (λ (r : Result (List Footprint) Place). seen_answer (alone_telling alone) (seen_bare (run_in r)))
    (long_trace bytes h)

pub long_bare : (alone : Alone) (file : Option (List ℕ)) (bytes : List ℕ) → file ≡ Some bytes → 2 ^ 28 < length bytes
    → bare_answer alone file ≡ refused (refusal.Trace 0 74)
long_bare alone file bytes there h = ap (bare_answer alone) there ∙ long_seen alone bytes h

-- places that are
pub at_least : (m n : ℕ) → n ≤ m → nat_lt m n ≡ false
at_least m n h = grind (arith, nat_tests)

long_text : (what : Telling) (trace text : List ℕ) → 2 ^ 28 < length text
    → text_placed what trace text ≡ places_answer TooLong
long_text what trace text h =
    ap (λ b. if b then places_answer TooLong else seen_answer what (seen_in (run_in (trace_of trace)) (named_of text)))
    (less (2 ^ 28) (length text) h)

pub long_places : (what : Telling) (trace : List ℕ) (file : Option (List ℕ)) (text : List ℕ) → file ≡ Some text
    → 2 ^ 28 < length text → placed_answer what trace file ≡ places_answer TooLong
long_places what trace file text there h = ap (placed_answer what trace) there ∙ long_text what trace text h

pub short_text : (what : Telling) (trace text : List ℕ) → length text ≤ 2 ^ 28
    → seen_answer what (seen_in (run_in (trace_of trace)) (named_of text)) ≡ text_placed what trace text
short_text what trace text h =
    sym (
    ap (λ b. if b then places_answer TooLong else seen_answer what (seen_in (run_in (trace_of trace)) (named_of text)))
    (at_least (2 ^ 28) (length text) h)
    )

-- and bytes that are no trace, since they are
no_less : (m n : ℕ) → m < n → nat_le n m ≡ false
no_less m n h = grind (arith, nat_tests)

no_trace : (bytes : List ℕ) → 2 ^ 28 < length bytes → holds_trace bytes ≡ false
no_trace bytes h = ap (λ b. b && bytes_eq (take 4 bytes) (codes "MRTR")) (no_less (2 ^ 28) (length bytes) h)

-- ---- what is said of bytes

module _ (what : Telling) (saying : Saying) (second : Option (List ℕ)) (bytes : List ℕ) where
  of_a_trace : holds_trace bytes ≡ true → bytes_answer (Some what) saying second bytes ≡ placed_answer what bytes second
  of_a_trace e = ap (λ b. if b then placed_answer what bytes second else text_answer saying second bytes) e

  of_no_trace : holds_trace bytes ≡ false
      → bytes_answer (Some what) saying second bytes ≡ text_answer saying second bytes
  of_no_trace e = ap (λ b. if b then placed_answer what bytes second else text_answer saying second bytes) e

  module _ (rose : Type 0) (result : Result Written Refusal) where
    pub traced : holds_trace bytes ≡ true → TellsOrUnread rose (placed_answer what bytes second) result
        → IsOfBytes rose what saying second bytes result
    traced e (inl tells) = inl (subst (λ (a : Answer). Tells a result) (sym (of_a_trace e)) tells)
    traced e (inr (rises, is)) = inr (rises, inr (e, is))

    pub untraced : holds_trace bytes ≡ false → IsOfText rose saying second bytes result
        → IsOfBytes rose what saying second bytes result
    untraced e (inl tells) = inl (subst (λ (a : Answer). Tells a result) (sym (of_no_trace e)) tells)
    untraced e (inr (rises, unread)) = inr (rises, inl unread)

  pub long_bytes : 2 ^ 28 < length bytes → bytes_answer (Some what) saying second bytes ≡ refused (refusal.Text 1 1 3)
  long_bytes h =
      of_no_trace (no_trace bytes h)
      ∙ ap (told (program_answer saying bytes second)) (long_program (Some bytes) bytes refl (omega (arith, h)))

-- ---- what is said of two files

module _ (saying : Saying) (second : Option (List ℕ)) where
  as_file : (first : Option (List ℕ)) → telling_of saying ≡ None
      → file_answer saying second first ≡ shown_answer saying second first
  as_file None e = refl
  as_file (Some bytes) e = sym (ap (λ (w : Option Telling). bytes_answer w saying second bytes) e)

  -- a saying of which a trace tells nothing is answered by the run
  pub of_program : (rose : Type 0) (first : Option (List ℕ)) (result : Result Written Refusal)
      → telling_of saying ≡ None
      → IsOfFile rose saying second first result → IsOfFiles rose saying second first result
  of_program rose first result e (inl tells) = inl (subst (λ (a : Answer). Tells a result) (as_file first e) tells)
  of_program rose first result e (inr (rises, inl is)) = inr (rises, inl is)
  of_program rose first result e (inr (rises, inr (p, read, unbroken, is))) =
      inr (rises, inr (inl (p, read, unbroken), is))

  module _ (what : Telling) (e : telling_of saying ≡ Some what) where
    as_bytes : (bytes : List ℕ) → bytes_answer (Some what) saying second bytes ≡ shown_answer saying second (Some bytes)
    as_bytes bytes = sym (ap (λ (w : Option Telling). bytes_answer w saying second bytes) e)

    of_some : (rose : Type 0) (bytes : List ℕ) (later : Type 0) (result : Result Written Refusal) → (later → rose)
        → IsOfBytes later what saying second bytes result → IsOfFiles rose saying second (Some bytes) result
    of_some rose bytes later result up (inl tells) = inl (subst (λ (a : Answer). Tells a result) (as_bytes bytes) tells)
    of_some rose bytes later result up (inr (rises, inl (p, read, unbroken, is))) =
        inr (up rises, inr (inl (p, read, unbroken), is))
    of_some rose bytes later result up (inr (rises, inr (holds, is))) =
        inr (up rises, inr (inr (subst (λ (w : Option Telling). HoldsTrace w (Some bytes)) (sym e) holds), is))

    -- bytes that were read are those of the file
    pub of_bytes : (rose : Type 0) (first : Option (List ℕ)) (bytes : List ℕ) (later : Type 0)
        (result : Result Written Refusal)
        → (later → rose) → first ≡ Some bytes → IsOfBytes later what saying second bytes result
        → IsOfFiles rose saying second first result
    of_bytes rose first bytes later result up there h =
        subst (λ (f : Option (List ℕ)). IsOfFiles rose saying second f result) (sym there)
        (of_some rose bytes later result up h)

    -- and bytes that are too many are a text that is too long
    pub long_first : (first : Option (List ℕ)) (bytes : List ℕ) → first ≡ Some bytes → 2 ^ 28 < length bytes
        → shown_answer saying second first ≡ refused (refusal.Text 1 1 3)
    long_first first bytes there h =
        ap (shown_answer saying second) there ∙ sym (as_bytes bytes) ∙ long_bytes what saying second bytes h
