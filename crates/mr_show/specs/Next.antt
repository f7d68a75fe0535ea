-- How the run of a program under a schedule can go on, as it is told.
use Rattle.std.specs.Prelude.{ℕ, ◌-◌, List, [], ◌++◌, codes, map, Option, None, Some, slice_get}
use Rattle.mr_ast.specs.declared.program.Program.{Program}
use Rattle.mr_base.specs.declared.reason.Verdict.{Verdict}
use Rattle.mr_base.specs.declared.reason.Verdict.TheVariants.{Deadlock, Running}
use Rattle.mr_lex.specs.Reading.{lexed}
use Rattle.mr_sched.specs.declared.schedule.Entry.{Entry}
use Rattle.mr_sched.specs.declared.schedule.Schedule.{Schedule}
use Rattle.mr_sched.specs.declared.version.Version.{Version}
use Rattle.mr_step.specs.PlanLegal.{Fault}
use Rattle.mr_step.specs.PlanRuns.{Config}
use Rattle.mr_start.specs.FrameFrames.{Look}
use Rattle.mr_start.specs.Steps.{Own}
use Rattle.mr_start.specs.Runs.{PlacedFault, run_of, schedule_fault}
use Rattle.mr_start.specs.Start.{look_of, start_fault}
use Rattle.mr_input.specs.declared.refusal.Refusal.TheVariants as refusal
use Rattle.mr_input.specs.Answer.{Answer, refused}
use Rattle.mr_answer.specs.Answers.{line_at}
use Rattle.mr_labels.specs.declared.step.Rest.{Rest}
use Rattle.mr_replay.specs.Told.{rests_of}
use Rattle.mr_listing.specs.Seen.{Seen}
use Rattle.mr_listing.specs.Spots.{stand_text}
use Rattle.mr_next.specs.Culprits.{culprit_of}
use Rattle.mr_next.specs.Prospects.{prospects_in}
use Rattle.mr_next.specs.Reached.{legal_front}
use Rattle.mr_next.specs.Texts.{broken_text, threads_text}
use Rattle.mr_next.specs.declared.broken.Broken.{Broken}
use Rattle.mr_next.specs.declared.prospect.Position.{Position}
use Rattle.mr_next.specs.declared.prospect.Prospect.{Prospect}
use Rattle.mr_show.specs.Gathered.{laid_in}
use Rattle.mr_show.specs.Sentences.{sentence_of}

-- ---- the entry that breaks a rule

-- a rule that an entry breaks where the machine stands so, with the pick by which it does
abbrev pub broken_by : Look → Config Own → Entry → PlacedFault → Broken
broken_by look c e f = record {
  place = f.line;
  code = f.fault.code;
  earlier = f.fault.earlier;
  culprit = culprit_of look c e f.fault.code;
}

abbrev pub entry_told : Look → Config Own → PlacedFault → Option Entry → List ℕ
entry_told look c f None = []
entry_told look c f (Some e) = broken_text (sentence_of f.fault.code) e (broken_by look c e f)

-- THE ENTRY THAT BREAKS A RULE, where one does; the first entry has place 3
abbrev pub fault_told : Look → Config Own → List Entry → Option PlacedFault → List ℕ
fault_told look c es None = []
fault_told look c es (Some f) = entry_told look c f (slice_get es (f.line - 3))

-- ---- the threads

-- where a thread stands, with the text of that place
abbrev pub position_of : Seen → Rest → Position
position_of s rest = record { stand = rest.stand; text = stand_text s rest.stand }

-- what the texts of places are made of, where the machine stands so
abbrev pub standing_seen : List ℕ → Program → Config Own → Seen
standing_seen text p config = record {
  text = text;
  program = p;
  laid = laid_in p (lexed text);
  rows = [];
  steps = [];
  stands = [];
  count = 0;
  feet = [];
  lines = [];
  races = [];
  verdict = config.verdict;
  rests = rests_of config;
}

-- where each thread stands
abbrev pub positions_in : Seen → List Position
positions_in s = map (position_of s) s.rests

-- what each thread would do, in a run that goes on, and what it waits for, in one in which none can; a run that a step
-- ended has none
abbrev pub prospects_told : Verdict → Program → List Position → List Prospect → List ℕ
prospects_told Running p positions xs = threads_text p positions xs
prospects_told Deadlock p positions xs = codes "no thread can go on\n" ++ threads_text p positions xs
prospects_told _ p positions xs = codes "the run has ended\n"

-- WHAT EACH THREAD WOULD DO NEXT where the machine stands so
abbrev pub threads_told : List ℕ → Program → Look → Config Own → List ℕ
threads_told text p look c =
    prospects_told c.verdict p (positions_in (standing_seen text p c)) (prospects_in look c.state)

-- ---- the answer

-- 1 where the schedule breaks a rule
abbrev pub next_status : Option PlacedFault → ℕ
next_status None = 0
next_status (Some f) = 1

-- what is said where the machine stands so, in front of the entry that breaks this rule, or behind the last
abbrev pub front_answer : List ℕ → Program → List Entry → Look → Config Own → Option PlacedFault → Answer
front_answer text p es look c f = record {
  text = fault_told look c es f ++ threads_told text p look c;
  status = next_status f;
}

-- the same of the run up to the first entry that breaks a rule, or to its end
abbrev pub reached_answer : List ℕ → Program → Schedule → Option PlacedFault → Answer
reached_answer text p w f = front_answer text p w.entries (look_of p w.start) (run_of p (legal_front w f)) f

-- the same, or the rule that the start line breaks, on line 2
abbrev pub next_from : List ℕ → Program → Version → Schedule → Option Fault → Answer
next_from text p v w None = reached_answer text p w (schedule_fault p w)
next_from text p v w (Some f) = refused (refusal.Schedule (line_at v w 2) f.code f.earlier)

-- HOW THE RUN CAN GO ON of the program of a text under a schedule whose text is in a version
abbrev pub next_answer : List ℕ → Program → Version → Schedule → Answer
next_answer text p v w = next_from text p v w (start_fault p w.start)
