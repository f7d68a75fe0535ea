-- Parts of texts, computed.
use Rattle.mr_listing.proofs.Common.{◌≡◌, true, false, [], ◌∷◌, Option, Some, None, codes, refl, Stand, bytes_text, Seen, same_stand, spot_text, statement_text, partner_line, partners_at}
use Rattle.std.specs.Fmt.{digits}
use Rattle.mr_ast.specs.declared.program.Program.{Program}
use Rattle.mr_base.specs.declared.thread.Status.{Status}
use Rattle.mr_base.specs.declared.thread.Status.TheVariants.{Enabled, OnJoin, OnLock}
use Rattle.mr_labels.specs.declared.step.ToldStep.{ToldStep}
use Rattle.mr_listing.specs.declared.held.StepValues.{StepValues}
use Rattle.mr_listing.specs.Accesses.{value_text}
use Rattle.mr_listing.specs.Held.{held_for}
use Rattle.mr_listing.specs.Events.{event_text}
use Rattle.mr_listing.specs.Races.{times_text}
use Rattle.mr_listing.specs.Steps.{stop_text}
use Rattle.mr_labels.specs.Words.{behind_text}
use Rattle.mr_base.specs.declared.thread.Event.TheVariants as event
use Rattle.mr_listing.specs.declared.held.Held.TheVariants as held

-- ---- statements

-- up to the end, where others follow on the line
one_of_two : statement_text (codes "live n; n = load(m);") 0 ≡ codes "live n"
one_of_two = refl

second_of_two : statement_text (codes "live n; n = load(m);") 8 ≡ codes "n = load(m)"
second_of_two = refl

-- up to a comment, and up to the end of the line: there is more of it
before_comment : statement_text (codes "n = # seven\nu32 7;") 0 ≡ codes "n =  .."
before_comment = refl

before_line_end : statement_text (codes "n =\nu32 7;") 0 ≡ codes "n = .."
before_line_end = refl

-- line and column
spotted : spot_text (record { at = 20; line = 7; col = 15 }) ≡ codes "7:15"
unfolding digits
spotted = refl

-- ---- what a step did

abbrev told : Option Status → ToldStep
told status = record {
  number = 0;
  thread = 0;
  before = None;
  behind = None;
  status = status;
  started = None;
  asks = [];
  picks = [];
  made = [];
  prints_before = 0;
  prints_behind = 0;
}

lock_taken : (p : Program) → event_text p (told (Some Enabled)) (event.Acquire 3) [] ≡ codes "        takes lock 3\n"
unfolding digits
lock_taken p = refl

lock_awaited : (p : Program)
    → event_text p (told (Some (OnLock 3))) (event.Acquire 3) [] ≡ codes "        waits for lock 3\n"
unfolding digits
lock_awaited p = refl

lock_given : (p : Program)
    → event_text p (told (Some Enabled)) (event.Release 3) (2 ∷ []) ≡ codes "        gives lock 3\n"
unfolding digits
lock_given p = refl

lock_freed : (p : Program) → event_text p (told (Some Enabled)) (event.Release 3) [] ≡ codes "        frees lock 3\n"
unfolding digits
lock_freed p = refl

end_awaited : (p : Program)
    → event_text p (told (Some (OnJoin 2))) (event.Join 2) [] ≡ codes "        waits for the end of thread 2\n"
unfolding digits
end_awaited p = refl

quiet : (p : Program) → event_text p (told (Some Enabled)) event.Quiet [] ≡ []
quiet p = refl

-- ---- accesses

first_byte : behind_text 0 ≡ []
first_byte = refl

fifth_byte : behind_text 4 ≡ codes "+4"
unfolding digits
fifth_byte = refl

one_byte : bytes_text 1 ≡ codes "1 byte"
unfolding digits
one_byte = refl

two_bytes : bytes_text 2 ≡ codes "2 bytes"
unfolding digits
two_bytes = refl

number_told : (s : Seen) (here : Option Stand) → value_text s here (held.Number 7) ≡ codes " = 7"
unfolding digits
number_told s here = refl

-- a pointer without provenance is its address
address_told : (s : Seen) (here : Option Stand)
    → value_text s here (held.Pointer (record { addr = 64; prov = None })) ≡ codes " = 64"
unfolding digits
address_told s here = refl

-- an atomic addition of 2 to 5: its load is told 5, and its store 7
abbrev added : StepValues
added = record {
  before = held.Number 5 ∷ held.Number 5 ∷ [];
  behind = held.Number 7 ∷ held.Number 7 ∷ [];
}

loaded : held_for (Some added) 0 (record { store = false; atomic = true; addr = 64; len = 4 }) ≡ held.Number 5
loaded = refl

stored : held_for (Some added) 1 (record { store = true; atomic = true; addr = 64; len = 4 }) ≡ held.Number 7
stored = refl

-- ---- races: steps are counted from 1

-- of both steps of a race the partner is told, and of no other step
partner_of_second : partners_at (record { first = 3; second = 8 } ∷ []) 8 ≡ record { step = 8; other = 3 } ∷ []
partner_of_second = refl

partner_of_first : partners_at (record { first = 3; second = 8 } ∷ []) 3 ≡ record { step = 3; other = 8 } ∷ []
partner_of_first = refl

partner_of_other : partners_at (record { first = 3; second = 8 } ∷ []) 4 ≡ []
partner_of_other = refl

partner_told : partner_line (record { step = 8; other = 3 }) ≡ codes "        races with step 4\n"
unfolding digits
partner_told = refl

one_time : times_text (record { first = record { first = 3; second = 8 }; count = 1 }) ≡ codes "once, 4 9\n"
unfolding digits
one_time = refl

many_times : times_text (record { first = record { first = 22; second = 24 }; count = 13 })
    ≡ codes "13 times, first 23 25\n"
unfolding digits
many_times = refl

-- the thread doesn't count, the statement does
two_threads : same_stand (Some (record { thread = 1; function = 2; block = 0; at = 3 }))
    (Some (record { thread = 4; function = 2; block = 0; at = 3 })) ≡ true
two_threads = refl

two_statements : same_stand (Some (record { thread = 1; function = 2; block = 0; at = 3 }))
    (Some (record { thread = 1; function = 2; block = 0; at = 4 })) ≡ false
two_statements = refl

-- ---- the end

last_stopped : stop_text 15 14 ≡ codes "step 15 ended the run\n"
unfolding digits
last_stopped = refl

all_completed : stop_text 15 15 ≡ []
all_completed = refl
