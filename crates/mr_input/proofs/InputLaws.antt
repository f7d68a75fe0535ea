-- Files that are read, and texts that are too long.
use Rattle.std.proofs.Common.{◌≡◌, ℕ, ◌+◌, ◌<◌, ◌≤◌, ◌^◌, ap, ◌∙◌, refl, subst, sym, arith, List, length, true, inl, inr}
use Rattle.std.proofs.lemmas.Bool.Decides.{nat_tests}
use Rattle.std.proofs.lemmas.List.{length-replicate}
use Rattle.std.specs.Prelude.{Some, None, Option, Result, Ok, Err, nat_lt, replicate, if◌then◌else◌}
use Rattle.mr_ast.specs.declared.program.Program.{Program}
use Rattle.mr_io.specs.Counts.{Rose}
use Rattle.mr_lex.specs.Reading.{lexed, outcome_of, split_of}
use Rattle.mr_parse.specs.GrammarFaults.{OfTokens}
use Rattle.mr_parse.specs.GrammarParsing.{parsed}
use Rattle.mr_parse.proofs.GrammarParsingLaws.{fault_parsed}
use Rattle.mr_sched.specs.Reading.{schedule_of}
use Rattle.mr_input.specs.Inputs.{Gives, IsRead, denoted, program_in, schedule_in, spelled}
use Rattle.mr_input.specs.declared.refusal.Refusal.{Refusal}
use Rattle.mr_input.specs.declared.refusal.Refusal.TheVariants.{ReadProgram, Schedule, Text}

-- a count that rose later rose in all
pub rose_in_all : (first middle last : ℕ) → first ≤ middle → Rose middle last → Rose first last
rose_in_all first middle last h rose = grind arith

-- what was read is defined
pub was_read : {A : Type 0} (x : A) (rose : Type 0) (unread : Refusal) (defined : Result A Refusal) → IsRead rose unread (Ok x) defined → defined ≡ Ok x
was_read x rose unread defined (inl h) = h
was_read x rose unread defined (inr h) = let e = h.1 in absurd (cc)

-- the program in a file is that of its text
pub of_its_text : (rose : Type 0) (result : Result Program Refusal) (file : Option (List ℕ)) (text seen : List ℕ) → file ≡ Some text → seen ≡ text
    → Gives result (denoted (parsed seen)) → IsRead rose ReadProgram result (program_in file)
of_its_text rose result file text seen there same gives =
    inl (subst (λ (d : Result Program Refusal). Gives result d) (ap (λ (xs : List ℕ). program_in (Some xs)) same ∙ sym (ap program_in there)) gives)

-- ---- texts that are too long

pub less : (m n : ℕ) → m < n → nat_lt m n ≡ true
less m n h = grind (arith, nat_tests)

long_lexed : (text : List ℕ) → 2 ^ 20 < length text → lexed text ≡ Err (record { line = 1; col = 1; code = 3 })
unfolding lexed
long_lexed text h =
    ap (λ b. if b then Err (record { line = 1; col = 1; code = 3 }) else outcome_of text (split_of (length text) text)) (less (2 ^ 20) (length text) h)

long_parsed : (text : List ℕ) → 2 ^ 20 < length text → parsed text ≡ Err (record { line = 1; col = 1; code = 3 })
long_parsed text h = fault_parsed text (record { line = 1; col = 1; code = 3 }) (OfTokens (long_lexed text h))

pub long_program : (file : Option (List ℕ)) (text : List ℕ) → file ≡ Some text → 2 ^ 20 < length text → program_in file ≡ Err (Text 1 1 3)
long_program file text e h = ap program_in e ∙ ap denoted (long_parsed text h)

too_long : (text : List ℕ) → 2 ^ 26 < length text → schedule_of text ≡ Err (record { line = 1; code = 52 })
unfolding schedule_of
too_long text h = rw (less (2 ^ 26) (length text) h) refl

pub long_schedule : (file : Option (List ℕ)) (text : List ℕ) → file ≡ Some text → 2 ^ 26 < length text → schedule_in file ≡ Err (Schedule 1 52 None)
long_schedule file text e h = ap schedule_in e ∙ ap spelled (too_long text h)

-- ---- texts that are too long, whatever a file holds

-- a list that is longer than a number
pub longer : (n : ℕ) → (text : List ℕ) × (n < length text)
longer n = (replicate (n + 1) 0, (let all : length (replicate {A = ℕ} (n + 1) 0) ≡ n + 1 = length-replicate (n + 1) 0 in omega arith))

a_long_program : ((text : List ℕ) × (2 ^ 20 < length text)) → (text : List ℕ) × (program_in (Some text) ≡ Err (Text 1 1 3))
a_long_program (text, long) = (text, long_program (Some text) text refl long)

pub some_long_program : (text : List ℕ) × (program_in (Some text) ≡ Err (Text 1 1 3))
some_long_program = a_long_program (longer (2 ^ 20))

a_long_schedule : ((text : List ℕ) × (2 ^ 26 < length text)) → (text : List ℕ) × (schedule_in (Some text) ≡ Err (Schedule 1 52 None))
a_long_schedule (text, long) = (text, long_schedule (Some text) text refl long)

pub some_long_schedule : (text : List ℕ) × (schedule_in (Some text) ≡ Err (Schedule 1 52 None))
some_long_schedule = a_long_schedule (longer (2 ^ 26))
