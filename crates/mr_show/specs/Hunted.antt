-- What the runs of many numbers tell.
use Rattle.std.specs.Prelude.{ℕ, ◌+◌, ◌-◌, ◌^◌, List, [], min, Option, None, Some}
use Rattle.mr_ast.specs.declared.program.Program.{Program}
use Rattle.mr_places.specs.GrammarParsing.{parsed}
use Rattle.mr_lex.specs.Reading.{lexed}
use Rattle.mr_typing.specs.Walk.{faults_of}
use Rattle.mr_auto.specs.Drawing.{drawn_schedule}
use Rattle.mr_hunt.specs.Aims.{Aim, first_met}
use Rattle.mr_hunt.specs.Ends.{ends_of}
use Rattle.mr_hunt.specs.Table.{numbers, table_of}
use Rattle.mr_hunt.specs.Texts.{found_text, none_text, seen_with, table_text}
use Rattle.mr_input.specs.declared.refusal.Refusal.TheVariants as refusal
use Rattle.mr_input.specs.Answer.{Answer, form_or, refused, told}
use Rattle.mr_input.specs.Inputs.{denoted}
use Rattle.mr_show.specs.declared.form.Range.{Range}
use Rattle.mr_sched.specs.Spelling.{text_of}
use Rattle.mr_show.specs.Gathered.{laid_in}
use Rattle.mr_show.specs.Seek.{Drawn, Ends, First, Seek}

-- so many entries a drawn schedule has at most; words ask for no more than 2^20
abbrev pub most_in : Range → ℕ
most_in range = min range.most (2 ^ 20)

-- ---- the answer

-- THE TABLE: how many of the numbers have each kind of end, and the first of them
abbrev pub table_answer : Range → List ℕ → Program → Answer
table_answer range text p = record {
  text = table_text (seen_with text p (laid_in p (lexed text)) [] []) (range.to + 1 - range.from)
      (table_of (ends_of p (most_in range)) (numbers range.from range.to));
  status = 0;
}

-- the run that was found, with status 1, or that there is none
abbrev pub found_answer : Range → Aim → List ℕ → List ℕ → Program → Option ℕ → Answer
found_answer range aim name text p None = record { text = none_text range.from range.to; status = 0 }
found_answer range aim name text p (Some number) = record {
  text = found_text text p (laid_in p (lexed text)) aim name (most_in range) number;
  status = 1;
}

-- the schedule of the first number, in version 1
abbrev pub drawn_answer : Range → Program → Answer
drawn_answer range p = record { text = text_of (drawn_schedule p range.from (most_in range)); status = 0 }

-- WHAT A HUNT TELLS of the program of a text, whose file has a name: the table, or with an aim the first number whose
-- run has it, or the schedule of a number
abbrev pub hunt_answer : Range → Seek → List ℕ → List ℕ → Program → Answer
hunt_answer range Ends name text p = table_answer range text p
hunt_answer range (First aim) name text p =
    found_answer range aim name text p (first_met aim (laid_in p (lexed text)) p (most_in range) range.from range.to)
hunt_answer range Drawn name text p = drawn_answer range p

-- the same, where the program breaks no rule
abbrev pub hunted_program : Range → Seek → List ℕ → List ℕ → Program → Answer
hunted_program range seek name text p = form_or p (faults_of p) (hunt_answer range seek name text p)

-- the same of the program that a text denotes, or the text's first fault
abbrev pub hunted_text : Range → Seek → List ℕ → List ℕ → Answer
hunted_text range seek name text = told (hunted_program range seek name text) (denoted (parsed text))

-- the same of the text in a file
abbrev pub hunted_file : Range → Seek → List ℕ → Option (List ℕ) → Answer
hunted_file range seek name None = refused refusal.ReadProgram
hunted_file range seek name (Some text) = hunted_text range seek name text
