-- What a run tells, as its texts are made of it.
use Rattle.std.specs.Prelude.{ℕ, List, [], map, Option, Result, Ok, Err}
use Rattle.mr_ast.specs.declared.program.Program.{Program}
use Rattle.mr_lex.specs.Reading.{lexed}
use Rattle.mr_lex.specs.Tokens.{Lexeme}
use Rattle.mr_lex.specs.declared.token.TextFault.{TextFault}
use Rattle.mr_event.specs.Footprint.{Footprint}
use Rattle.mr_event.specs.Predicted.{predicted}
use Rattle.mr_step.specs.PlanRuns.{Config}
use Rattle.mr_start.specs.Steps.{Own}
use Rattle.mr_answer.specs.Report.{line_of}
use Rattle.mr_places.specs.Laid.{Laid, firsts_of}
use Rattle.mr_labels.specs.declared.rows.Allocation.{Allocation}
use Rattle.mr_labels.specs.declared.step.Stand.{Stand}
use Rattle.mr_labels.specs.declared.step.ToldStep.{ToldStep}
use Rattle.mr_replay.specs.Told.{rests_of}
use Rattle.mr_listing.specs.Seen.{Seen}

-- the tokens of a text, where it has no fault
abbrev pub lexemes_in : Result (List Lexeme) TextFault → List Lexeme
lexemes_in (Ok lexemes) = lexemes
lexemes_in (Err fault) = []

-- the places of a program among the tokens of its text
abbrev pub laid_in : Program → Result (List Lexeme) TextFault → Laid
laid_in p read = record { lexemes = lexemes_in read; firsts = firsts_of 0 p.functions }

-- WHAT A RUN TELLS of a program over its text: where its machine stands behind so many steps; and the allocations,
-- those steps that are told, where threads stood before steps, and the footprints
abbrev pub gathered : List ℕ → Program → Config Own → ℕ → List Allocation → List ToldStep → List (Option Stand)
    → List Footprint → Seen
gathered text p config count rows steps stands feet = record {
  text = text;
  program = p;
  laid = laid_in p (lexed text);
  rows = rows;
  steps = steps;
  stands = stands;
  count = count;
  feet = feet;
  lines = map line_of config.output;
  races = predicted feet;
  verdict = config.verdict;
  rests = rests_of config;
}
